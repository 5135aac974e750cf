-- PROMISE: the paper's examples, proved together as one table about the definitions, the diamond in whole; and further runs with every word
-- that they leave.
use Prim.Native.Nat.{ℕ, ◌+◌, ◌*◌}
use mathlib.Core.Path.{◌≡◌, refl}
use mathlib.Core.Bool.{true}
use mathlib.Core.List.{List, [], ◌∷◌}
use native.Mathlib.Decide.{ℕ_discrete, dec_le, dec_lt}
use lib.ListN.{length, drop, replicate}
use lib.IntN.{ℤ, pos, negsuc}
use Rattle.lists.specs.Decided.{first_below}
use Rattle.lists.specs.Lists.{occ_of, joined, tabulate, all_of}
use Rattle.lists.specs.Sums.{sum_to, sum_to_z}
use Rattle.lists.specs.Circles.{after, around}
use Rattle.task.specs.Types.{engine, capped}
use Rattle.task.specs.Phases.{next_phase}
use Rattle.task.specs.Refusals.{Said, refused, accepted, task_fetched, degree_left, task_placed, answer_says, step_says, StepAnswer}
use Rattle.task.specs.declared.Row.{Row}
use Rattle.task.specs.declared.Step.{Step}
use Rattle.task.specs.declared.Step.TheVariants.{Fetch, Start, Complete, Release}
use Rattle.graph.specs.Graph.{part}
use Rattle.graph.specs.Check.{sizes_fit, first_bad, first_twice, first_on_cycle, tables_answer, check_answer}
use Rattle.graph.specs.Decide.{below?, among?, light?, good?, bad?, ends_fit?, twice?, twice_in?, find-twice, edge?, thru?, path?, leads?, on_cycle?}
use Rattle.graph.specs.Successors.{succs_below, succ_start, succ_starts_of, succ_words, degree_list, roots}
use Rattle.ring.specs.Ring.{capacity, end_words, slot_at, ends_at, store_ends, sound, empty, full, head_on, tail_on}
use Rattle.choice.specs.Least.{load, least_from, least}
use Rattle.choice.specs.Search.{search}
use Rattle.memory.specs.Shape.{all_fit}
use Rattle.memory.specs.Field as list
use Rattle.memory.specs.Updates.{store_words, store, updated, written}
use Rattle.rules.specs.Memory.{Mem, mem_of, all_steps, all_entries, entries_in, accepted_in}
use Rattle.rules.specs.Sizes.{numbers_fit, others_fit, lengths_fit}
use Rattle.rules.specs.Words.{counters_fit}
use Rattle.rules.specs.Updates.{put_ends, put_counter, put_entries, put_hand}
use Rattle.rules.specs.Plans.{counted, Result, carried_out}
use Rattle.rules.specs.Steps.{scan, fetch_task, fetch_from, fetch_rule, start_rule, complete_sink, complete_inner, complete_rule, advanced, find_room, release_to, release_ready, release_waiting, release_rule, rule_of, step_plan, step}
use Rattle.rules.specs.Begin.{cleared, roots_laid, begun, roots_answer, begin_answer, begin}
use Rattle.rules.specs.Desk.{turn, turns, desk_run}

abbrev pub row_of : ℕ → ℕ → ℕ → ℕ → ℕ → ℕ → Row
row_of phase held pointer read write cursor =
    record { phase = phase; held = record { 0 = held }; pointer = record { 0 = pointer }; read = read; write = write; cursor = cursor }

-- lists of the right lengths for P workers and K slots, full of other words
abbrev pub lent : ℕ → ℕ → List ℕ → List ℕ → List ℕ → Mem
lent p k w s e =
    mem_of w s e
    (replicate (length w + 1) 7) (replicate (length e) 7) (replicate (length w) 7)
    (replicate (p * p * k) 7) (replicate (p * p * end_words) 7) (replicate (p * p) (pos 7))
    (replicate (p * length w) 7) (replicate (2 * length w) 7) (7 ∷ 7 ∷ [])
    (replicate p (row_of 7 7 7 7 7 7))

-- the same lists, degrees a word short
abbrev pub short : Mem → Mem
short m =
    mem_of m.weights m.pred_starts m.preds m.succ_starts m.succs (drop 1 m.degrees) m.rings m.ends m.counters m.buffers
    m.executed m.run m.rows

-- begin's answer and memory
abbrev pub begin_says : ℕ → ℕ → Mem → Said
begin_says p k m = answer_says (begin engine p k m).answer

abbrev pub fresh : ℕ → ℕ → Mem → Mem
fresh p k m = (begin engine p k m).memory

-- a step of a worker
pub record Call : Type 0 where
  pub worker : ℕ
  pub taken : Step

abbrev pub by : ℕ → Step → Call
by i s = record { worker = i; taken = s }

abbrev pub stepped : ℕ → ℕ → Call → Mem → Result StepAnswer
stepped p k c m = step engine p k c.worker c.taken m

abbrev pub says : ℕ → ℕ → Call → Mem → Said
says p k c m = step_says (stepped p k c m).answer

-- the memory after some calls, and what they answer
unfoldable pub memory_after : ℕ → ℕ → List Call → Mem → Mem
memory_after p k [] m = m
memory_after p k (c ∷ cs) m = memory_after p k cs (stepped p k c m).memory

unfoldable pub answers : ℕ → ℕ → List Call → Mem → List Said
answers p k [] m = []
answers p k (c ∷ cs) m = says p k c m ∷ answers p k cs (stepped p k c m).memory

-- begin accepts this memory, and the calls after it answer this and leave that
pub record Runs (p k : ℕ) (m : Mem) (calls : List Call) (said : List Said) (words : Mem) : Type 0 where
  pub begins : begin_says p k m ≡ accepted
  pub answered : answers p k calls (fresh p k m) ≡ said
  pub leaves : memory_after p k calls (fresh p k m) ≡ words

-- The paper's memories.

-- "Input lines `2`, `0 0 0`, `1 5 1 0`, `2 3 1 0`, `3 0 2 1 2`"
abbrev pub diamond : Mem
diamond = lent 2 4 (0 ∷ 5 ∷ 3 ∷ 0 ∷ []) (0 ∷ 0 ∷ 1 ∷ 2 ∷ 4 ∷ []) (0 ∷ 0 ∷ 1 ∷ 2 ∷ [])

-- "P 1, K 2, edges 0→1, 0→2", which "gains an edge 0→3"
abbrev pub fork : Mem
fork = lent 1 2 (1 ∷ 1 ∷ 1 ∷ 1 ∷ []) (0 ∷ 0 ∷ 1 ∷ 2 ∷ 3 ∷ []) (0 ∷ 0 ∷ 0 ∷ [])

-- "P 2, one root"
abbrev pub single : Mem
single = lent 2 2 (1 ∷ []) (0 ∷ 0 ∷ []) []

-- "At P 2, K 2 four roots are accepted and five refused", and two of them
abbrev pub five_roots : Mem
five_roots = lent 2 2 (1 ∷ 1 ∷ 1 ∷ 1 ∷ 1 ∷ []) (0 ∷ 0 ∷ 0 ∷ 0 ∷ 0 ∷ 0 ∷ []) []

abbrev pub four_roots : Mem
four_roots = lent 2 2 (4 ∷ 9 ∷ 2 ∷ 6 ∷ []) (0 ∷ 0 ∷ 0 ∷ 0 ∷ 0 ∷ []) []

abbrev pub two_roots : Mem
two_roots = lent 2 2 (4 ∷ 9 ∷ []) (0 ∷ 0 ∷ 0 ∷ []) []

-- N 0
abbrev pub nothing : Mem
nothing = lent 1 2 [] (0 ∷ []) []

-- one root begun, and the ends of its ring forged
abbrev pub forged_ends : ℕ → ℕ → ℕ → Mem
forged_ends head tail count = written (put_ends 0 (record { head = head; tail = tail; count = count }) ∷ []) (fresh 2 2 single)

-- the fork's ring once two Releases have filled it
abbrev pub full_ring : Mem
full_ring = memory_after 1 2 (by 0 Fetch ∷ by 0 Start ∷ by 0 Complete ∷ by 0 Release ∷ by 0 Release ∷ []) (fresh 1 2 fork)

-- what the diamond's run leaves
abbrev pub diamond_left : Mem
diamond_left =
    mem_of (0 ∷ 5 ∷ 3 ∷ 0 ∷ []) (0 ∷ 0 ∷ 1 ∷ 2 ∷ 4 ∷ []) (0 ∷ 0 ∷ 1 ∷ 2 ∷ []) (0 ∷ 2 ∷ 3 ∷ 4 ∷ 4 ∷ []) (1 ∷ 2 ∷ 3 ∷ 3 ∷ []) (0 ∷ 0 ∷ 0 ∷ 0 ∷ [])
    (0 ∷ 1 ∷ 3 ∷ 0 ∷ 0 ∷ 0 ∷ 0 ∷ 0 ∷ 2 ∷ 0 ∷ 0 ∷ 0 ∷ 0 ∷ 0 ∷ 0 ∷ 0 ∷ []) (3 ∷ 3 ∷ 0 ∷ 0 ∷ 0 ∷ 0 ∷ 1 ∷ 1 ∷ 0 ∷ 0 ∷ 0 ∷ 0 ∷ [])
    (pos 0 ∷ pos 0 ∷ pos 3 ∷ negsuc 2 ∷ []) (0 ∷ 1 ∷ 0 ∷ 0 ∷ 2 ∷ 0 ∷ 0 ∷ 0 ∷ []) (0 ∷ 0 ∷ 2 ∷ 1 ∷ 1 ∷ 0 ∷ 3 ∷ 0 ∷ []) (4 ∷ 16 ∷ [])
    (row_of 0 65535 1 2 2 0 ∷ row_of 0 65535 1 1 1 0 ∷ [])

pub record Examples : Type 0 where
  -- 1: "N 4, degrees of 3 words", in begin and in a step
  pub one : begin_says 2 4 (short diamond) ≡ refused 1 0
  pub one_step : says 2 4 (by 0 Start) (short (fresh 2 4 diamond)) ≡ refused 1 0
  -- 2: "K 1"; P 17 and K 65, but not P 16 and K 64
  pub two : begin_says 2 1 diamond ≡ refused 2 0
  pub two_step : says 2 1 (by 0 Start) (fresh 2 4 diamond) ≡ refused 2 0
  pub seventeen : says 17 4 (by 0 Start) (fresh 2 4 diamond) ≡ refused 2 0
  pub sixty_five : says 2 65 (by 0 Start) (fresh 2 4 diamond) ≡ refused 2 0
  pub sixteen_workers : begin_says 16 2 (lent 16 2 [] (0 ∷ []) []) ≡ accepted
  pub sixty_four_slots : begin_says 1 64 (lent 1 64 [] (0 ∷ []) []) ≡ accepted
  -- 2: N 1,025, E 8,193 and weight 65,536, but not N 1,024, E 8,192 and weight 65,535
  pub most_tasks_and_edges : sizes_fit engine 1024 8192 ≡ true
  pub too_many_tasks : begin_says 1 2 (lent 1 2 (replicate 1025 0) (replicate 1026 0) []) ≡ refused 2 0
  pub too_many_edges : begin_says 1 2 (lent 1 2 (0 ∷ []) (0 ∷ 8193 ∷ []) (replicate 8193 0)) ≡ refused 2 0
  pub greatest_weight : begin_says 1 2 (lent 1 2 (65535 ∷ []) (0 ∷ 0 ∷ []) []) ≡ accepted
  pub too_heavy : begin_says 1 2 (lent 1 2 (65536 ∷ []) (0 ∷ 0 ∷ []) []) ≡ refused 2 0
  -- 3: "N 2, predecessor 2"
  pub three : begin_says 1 2 (lent 1 2 (0 ∷ 0 ∷ []) (0 ∷ 0 ∷ 1 ∷ []) (2 ∷ [])) ≡ refused 3 1
  -- 4: "task 3: 1, 1"
  pub four : begin_says 1 2 (lent 1 2 (0 ∷ 0 ∷ 0 ∷ 0 ∷ []) (0 ∷ 0 ∷ 0 ∷ 0 ∷ 2 ∷ []) (1 ∷ 1 ∷ [])) ≡ refused 4 3
  -- 5: "1 after 2, 2 after 1: detail 1"
  pub five : begin_says 1 2 (lent 1 2 (0 ∷ 0 ∷ 0 ∷ []) (0 ∷ 0 ∷ 1 ∷ 2 ∷ []) (2 ∷ 1 ∷ [])) ≡ refused 5 1
  -- 6: "At P 2, K 2 four roots are accepted and five refused"; the detail is "their number"; document 01's "P 2, K 2, three roots" is accepted now
  pub six : begin_says 2 2 five_roots ≡ refused 6 5
  pub not_six : begin_says 2 2 four_roots ≡ accepted
  pub three_roots : begin_says 2 2 (lent 2 2 (1 ∷ 1 ∷ 1 ∷ []) (0 ∷ 0 ∷ 0 ∷ 0 ∷ []) []) ≡ accepted
  -- 7: "P 2, worker 2"
  pub seven : says 2 2 (by 2 Fetch) (fresh 2 2 single) ≡ refused 7 2
  -- 8: "a head of K", where head plus count leads to tail
  pub eight : says 2 2 (by 0 Fetch) (forged_ends 2 0 0) ≡ refused 8 0
  -- 8: "A count over K", where head plus count leads to tail
  pub count_over_k : says 2 2 (by 0 Fetch) (forged_ends 0 1 3) ≡ refused 8 0
  -- 8: "head plus count not leading to tail modulo K", with a count of 2, 1 and 0
  pub full_astray : says 2 2 (by 0 Fetch) (forged_ends 0 1 2) ≡ refused 8 0
  pub part_astray : says 2 2 (by 0 Fetch) (forged_ends 0 0 1) ≡ refused 8 0
  pub empty_astray : says 2 2 (by 0 Fetch) (forged_ends 1 0 0) ≡ refused 8 0
  -- 9: "Complete in phase 0"
  pub nine : says 2 2 (by 0 Complete) (fresh 2 2 single) ≡ refused 9 0
  -- 10: "P 2, one root, worker 1 fetches first"
  pub ten : says 2 2 (by 1 Fetch) (fresh 2 2 single) ≡ refused 10 0
  -- "empty is count 0": head equals tail in a full ring, which is fetched from, and in an empty one, which isn't
  pub full_ends : full_ring.ends ≡ 1 ∷ 1 ∷ 2 ∷ []
  pub full_fetched : says 1 2 (by 0 Fetch) full_ring ≡ task_fetched 1
  pub empty_ten : says 2 2 (by 0 Fetch) (forged_ends 1 1 0) ≡ refused 10 0
  -- 11: "P 1, K 2, edges 0→1, 0→2", 0→3: "refused at the third Release"; the detail is "the successor"; and the run to its end
  pub eleven : Runs 1 2 fork
      (by 0 Fetch ∷ by 0 Start ∷ by 0 Complete ∷ by 0 Release ∷ by 0 Release ∷ by 0 Release ∷ by 0 Fetch ∷ by 0 Start ∷ by 0 Complete ∷ by 0 Release
      ∷ by 0 Fetch ∷ by 0 Start ∷ by 0 Complete ∷ by 0 Fetch ∷ by 0 Start ∷ by 0 Complete ∷ by 0 Fetch ∷ [])
      (task_fetched 0 ∷ accepted ∷ accepted ∷ task_placed 1 0 ∷ task_placed 2 0 ∷ refused 11 3 ∷ task_fetched 1 ∷ accepted ∷ accepted ∷ task_placed 3 0
      ∷ task_fetched 2 ∷ accepted ∷ accepted ∷ task_fetched 3 ∷ accepted ∷ accepted ∷ refused 10 0 ∷ [])
      (mem_of (1 ∷ 1 ∷ 1 ∷ 1 ∷ []) (0 ∷ 0 ∷ 1 ∷ 2 ∷ 3 ∷ []) (0 ∷ 0 ∷ 0 ∷ []) (0 ∷ 3 ∷ 3 ∷ 3 ∷ 3 ∷ []) (1 ∷ 2 ∷ 3 ∷ []) (0 ∷ 0 ∷ 0 ∷ 0 ∷ [])
      (2 ∷ 3 ∷ []) (0 ∷ 0 ∷ 0 ∷ []) (pos 0 ∷ []) (0 ∷ 0 ∷ 0 ∷ 0 ∷ []) (0 ∷ 0 ∷ 1 ∷ 0 ∷ 2 ∷ 0 ∷ 3 ∷ 0 ∷ []) (4 ∷ 15 ∷ [])
      (row_of 0 65535 0 1 1 0 ∷ []))
  -- 12: "entries word N, phase 2"
  pub twelve : says 2 2 (by 0 Complete) (written (put_entries 1 ∷ put_hand 0 2 0 ∷ []) (fresh 2 2 single)) ≡ refused 12 0
  -- N 0: "0 steps, begun is finished": as begun, the run words are what they are at the end of a run; and nothing is left to do
  pub no_steps : all_steps (fresh 1 2 nothing) ≡ 0
  pub no_entries : all_entries (fresh 1 2 nothing) ≡ 0
  pub all_accepted : accepted_in (fresh 1 2 nothing) ≡ all_steps (fresh 1 2 nothing)
  pub all_recorded : entries_in (fresh 1 2 nothing) ≡ all_entries (fresh 1 2 nothing)
  pub no_tasks : Runs 1 2 nothing
      (by 0 Fetch ∷ by 0 Start ∷ by 0 Complete ∷ by 0 Release ∷ [])
      (refused 10 0 ∷ refused 9 0 ∷ refused 9 0 ∷ refused 10 0 ∷ [])
      (mem_of [] (0 ∷ []) [] (0 ∷ []) [] [] (0 ∷ 0 ∷ []) (0 ∷ 0 ∷ 0 ∷ []) (pos 0 ∷ []) [] [] (0 ∷ 0 ∷ []) (row_of 0 65535 0 0 0 0 ∷ []))
  -- "two roots with P 2, K 2 (accepted)": as begun, and after both are fetched
  pub rooted : fresh 2 2 two_roots
      ≡ mem_of (4 ∷ 9 ∷ []) (0 ∷ 0 ∷ 0 ∷ []) [] (0 ∷ 0 ∷ 0 ∷ []) [] (0 ∷ 0 ∷ [])
      (0 ∷ 0 ∷ 0 ∷ 0 ∷ 0 ∷ 0 ∷ 1 ∷ 0 ∷ []) (0 ∷ 1 ∷ 1 ∷ 0 ∷ 0 ∷ 0 ∷ 0 ∷ 0 ∷ 0 ∷ 0 ∷ 1 ∷ 1 ∷ []) (pos 4 ∷ pos 0 ∷ pos 0 ∷ pos 9 ∷ [])
      (0 ∷ 0 ∷ 0 ∷ 0 ∷ []) (0 ∷ 0 ∷ 0 ∷ 0 ∷ []) (0 ∷ 0 ∷ []) (row_of 0 65535 0 0 0 0 ∷ row_of 0 65535 0 0 0 0 ∷ [])
  pub roots_fetched : Runs 2 2 two_roots
      (by 0 Fetch ∷ by 1 Fetch ∷ [])
      (task_fetched 0 ∷ task_fetched 1 ∷ [])
      (mem_of (4 ∷ 9 ∷ []) (0 ∷ 0 ∷ 0 ∷ []) [] (0 ∷ 0 ∷ 0 ∷ []) [] (0 ∷ 0 ∷ [])
      (0 ∷ 0 ∷ 0 ∷ 0 ∷ 0 ∷ 0 ∷ 1 ∷ 0 ∷ []) (1 ∷ 1 ∷ 0 ∷ 0 ∷ 0 ∷ 0 ∷ 0 ∷ 0 ∷ 0 ∷ 1 ∷ 1 ∷ 0 ∷ []) (pos 4 ∷ pos 0 ∷ pos 0 ∷ pos 9 ∷ [])
      (0 ∷ 0 ∷ 0 ∷ 0 ∷ []) (0 ∷ 0 ∷ 0 ∷ 0 ∷ []) (0 ∷ 2 ∷ []) (row_of 1 0 1 0 0 0 ∷ row_of 1 1 0 0 0 0 ∷ []))
  pub first_root : step_says (step engine 2 2 0 Fetch (fresh 2 2 two_roots)).answer ≡ task_fetched 0
  pub second_root : step_says (step engine 2 2 1 Fetch (step engine 2 2 0 Fetch (fresh 2 2 two_roots)).memory).answer ≡ task_fetched 1
  -- "four roots are accepted": as begun, every slot of the rings that begin fills is used; and after all are fetched
  pub four_rooted : fresh 2 2 four_roots
      ≡ mem_of (4 ∷ 9 ∷ 2 ∷ 6 ∷ []) (0 ∷ 0 ∷ 0 ∷ 0 ∷ 0 ∷ []) [] (0 ∷ 0 ∷ 0 ∷ 0 ∷ 0 ∷ []) [] (0 ∷ 0 ∷ 0 ∷ 0 ∷ [])
      (0 ∷ 2 ∷ 0 ∷ 0 ∷ 0 ∷ 0 ∷ 1 ∷ 3 ∷ []) (0 ∷ 0 ∷ 2 ∷ 0 ∷ 0 ∷ 0 ∷ 0 ∷ 0 ∷ 0 ∷ 0 ∷ 0 ∷ 2 ∷ []) (pos 6 ∷ pos 0 ∷ pos 0 ∷ pos 15 ∷ [])
      (replicate 8 0) (replicate 8 0) (0 ∷ 0 ∷ []) (row_of 0 65535 0 0 0 0 ∷ row_of 0 65535 0 0 0 0 ∷ [])
  pub four_fetched : Runs 2 2 four_roots
      (by 0 Fetch ∷ by 1 Fetch ∷ by 0 Start ∷ by 1 Start ∷ by 0 Complete ∷ by 1 Complete ∷ by 0 Fetch ∷ by 1 Fetch ∷ [])
      (task_fetched 0 ∷ task_fetched 1 ∷ accepted ∷ accepted ∷ accepted ∷ accepted ∷ task_fetched 2 ∷ task_fetched 3 ∷ [])
      (mem_of (4 ∷ 9 ∷ 2 ∷ 6 ∷ []) (0 ∷ 0 ∷ 0 ∷ 0 ∷ 0 ∷ []) [] (0 ∷ 0 ∷ 0 ∷ 0 ∷ 0 ∷ []) [] (0 ∷ 0 ∷ 0 ∷ 0 ∷ [])
      (0 ∷ 2 ∷ 0 ∷ 0 ∷ 0 ∷ 0 ∷ 1 ∷ 3 ∷ []) (replicate 12 0) (pos 2 ∷ pos 0 ∷ pos 0 ∷ pos 6 ∷ [])
      (replicate 8 0) (0 ∷ 0 ∷ 1 ∷ 1 ∷ 0 ∷ 0 ∷ 0 ∷ 0 ∷ []) (2 ∷ 8 ∷ []) (row_of 1 2 1 0 0 0 ∷ row_of 1 3 0 0 0 0 ∷ []))
  -- the diamond in whole by the desk's turns: "`4 16`, `0 0`, `2 1`, `1 0`, `3 0`"
  pub sixteen : (desk_run (fresh 2 4 diamond)).run ≡ (4 ∷ 16 ∷ [])
  pub listing : (desk_run (fresh 2 4 diamond)).executed ≡ (0 ∷ 0 ∷ 2 ∷ 1 ∷ 1 ∷ 0 ∷ 3 ∷ 0 ∷ [])
  -- every word that begin leaves, every word at the end, and the accepted steps with what they answer
  pub laid_out : fresh 2 4 diamond
      ≡ mem_of (0 ∷ 5 ∷ 3 ∷ 0 ∷ []) (0 ∷ 0 ∷ 1 ∷ 2 ∷ 4 ∷ []) (0 ∷ 0 ∷ 1 ∷ 2 ∷ []) (0 ∷ 2 ∷ 3 ∷ 4 ∷ 4 ∷ []) (1 ∷ 2 ∷ 3 ∷ 3 ∷ []) (0 ∷ 1 ∷ 1 ∷ 2 ∷ [])
      (replicate 16 0) (0 ∷ 1 ∷ 1 ∷ 0 ∷ 0 ∷ 0 ∷ 0 ∷ 0 ∷ 0 ∷ 0 ∷ 0 ∷ 0 ∷ []) (replicate 4 (pos 0)) (replicate 8 0) (replicate 8 0) (0 ∷ 0 ∷ [])
      (row_of 0 65535 0 0 0 0 ∷ row_of 0 65535 0 0 0 0 ∷ [])
  pub whole : desk_run (fresh 2 4 diamond) ≡ diamond_left
  pub steps : Runs 2 4 diamond
      (by 0 Fetch ∷ by 0 Start ∷ by 0 Complete ∷ by 0 Release ∷ by 0 Release ∷ by 1 Fetch ∷ by 0 Fetch ∷ by 1 Start ∷ by 0 Start ∷ by 1 Complete
      ∷ by 0 Complete ∷ by 1 Release ∷ by 0 Release ∷ by 0 Fetch ∷ by 0 Start ∷ by 0 Complete ∷ [])
      (task_fetched 0 ∷ accepted ∷ accepted ∷ task_placed 1 0 ∷ task_placed 2 1 ∷ task_fetched 2 ∷ task_fetched 1 ∷ accepted ∷ accepted ∷ accepted
      ∷ accepted ∷ degree_left 1 ∷ task_placed 3 0 ∷ task_fetched 3 ∷ accepted ∷ accepted ∷ [])
      diamond_left

pub examples : Examples
unfolding ℕ_discrete dec_le dec_lt first_below occ_of joined tabulate all_of sum_to after around capped next_phase part sizes_fit first_bad first_twice first_on_cycle tables_answer check_answer below? among? light? good? bad? ends_fit? twice? twice_in? find-twice edge? thru? path? leads? on_cycle? succs_below succ_start succ_starts_of succ_words degree_list roots capacity slot_at ends_at store_ends sound empty full head_on tail_on sum_to_z load least_from least search all_steps all_entries numbers_fit all_fit others_fit lengths_fit counters_fit store_words updated written counted carried_out scan fetch_task fetch_from fetch_rule start_rule complete_sink complete_inner complete_rule advanced find_room release_to release_ready release_waiting release_rule rule_of step_plan step cleared roots_laid begun roots_answer begin_answer begin turn turns desk_run memory_after answers
examples =
    record {
      one = refl;
      one_step = refl;
      two = refl;
      two_step = refl;
      seventeen = refl;
      sixty_five = refl;
      sixteen_workers = refl;
      sixty_four_slots = refl;
      most_tasks_and_edges = refl;
      too_many_tasks = refl;
      too_many_edges = refl;
      greatest_weight = refl;
      too_heavy = refl;
      three = refl;
      four = refl;
      five = refl;
      six = refl;
      not_six = refl;
      three_roots = refl;
      seven = refl;
      eight = refl;
      count_over_k = refl;
      full_astray = refl;
      part_astray = refl;
      empty_astray = refl;
      nine = refl;
      ten = refl;
      full_ends = refl;
      full_fetched = refl;
      empty_ten = refl;
      eleven = record { begins = refl; answered = refl; leaves = refl };
      twelve = refl;
      no_steps = refl;
      no_entries = refl;
      all_accepted = refl;
      all_recorded = refl;
      no_tasks = record { begins = refl; answered = refl; leaves = refl };
      rooted = refl;
      roots_fetched = record { begins = refl; answered = refl; leaves = refl };
      first_root = refl;
      second_root = refl;
      four_rooted = refl;
      four_fetched = record { begins = refl; answered = refl; leaves = refl };
      sixteen = refl;
      listing = refl;
      laid_out = refl;
      whole = refl;
      steps = record { begins = refl; answered = refl; leaves = refl };
    }

-- begin's words with counter (0, 0) forged, and with task 0's weight forged
abbrev pub counter_of : ℤ → Mem
counter_of c = written (put_counter 0 c ∷ []) (fresh 2 2 single)

abbrev pub bad_counter : Mem
bad_counter = counter_of (pos 1073741825)

abbrev pub heavy : Mem
heavy = written (store list.weights 0 65536 ∷ []) (fresh 2 2 single)

-- Further runs, made to show a mistake in a definition that a rule and the statements about it share.
pub record FurtherExamples : Type 0 where
  -- the operators' case, edge 1→2: worker 0 has just taken an hour's work, so the new tile goes to worker 1
  pub long_tile : answers 2 2 (by 0 Fetch ∷ by 1 Fetch ∷ by 1 Start ∷ by 1 Complete ∷ by 1 Release ∷ [])
      (fresh 2 2 (lent 2 2 (60 ∷ 1 ∷ 1 ∷ []) (0 ∷ 0 ∷ 0 ∷ 1 ∷ []) (1 ∷ [])))
      ≡ task_fetched 0 ∷ task_fetched 1 ∷ accepted ∷ accepted ∷ task_placed 2 1 ∷ []
  -- Fetch reads neither weight nor counter: what is damaged there is met at Complete
  pub counter_later : answers 2 2 (by 0 Fetch ∷ by 0 Start ∷ by 0 Complete ∷ []) bad_counter ≡ task_fetched 0 ∷ accepted ∷ refused 8 0 ∷ []
  pub weight_later : answers 2 2 (by 0 Fetch ∷ by 0 Start ∷ by 0 Complete ∷ []) heavy ≡ task_fetched 0 ∷ accepted ∷ refused 8 0 ∷ []
  -- a counter of −2^30 is in its range, and what it becomes isn't judged; one below is damaged
  pub at_the_limit : (memory_after 2 2 (by 0 Fetch ∷ by 0 Start ∷ by 0 Complete ∷ []) (counter_of (negsuc 1073741823))).counters
      ≡ negsuc 1073741824 ∷ pos 0 ∷ pos 0 ∷ pos 0 ∷ []
  pub below_the_limit : answers 2 2 (by 0 Fetch ∷ by 0 Start ∷ by 0 Complete ∷ []) (counter_of (negsuc 1073741824))
      ≡ task_fetched 0 ∷ accepted ∷ refused 8 0 ∷ []
  -- "Complete meets 12 before its other words"
  pub full_first : says 2 2 (by 0 Complete) (written (put_entries 1 ∷ put_hand 0 2 0 ∷ []) bad_counter) ≡ refused 12 0
  -- a fan, edges 0→1 to 0→5: two tasks fill the target's ring, the third and the fourth Release go to the next owner, and "The weight joins
  -- the counter of the ring really used."; the fifth finds both rings full until worker 1 has fetched; that worker's "counter (i, i)" goes
  -- below zero when it completes
  pub fan : Runs 2 2 (lent 2 2 (0 ∷ 0 ∷ 0 ∷ 5 ∷ 1 ∷ 2 ∷ []) (0 ∷ 0 ∷ 1 ∷ 2 ∷ 3 ∷ 4 ∷ 5 ∷ []) (replicate 5 0))
      (by 0 Fetch ∷ by 0 Start ∷ by 0 Complete ∷ by 0 Release ∷ by 0 Release ∷ by 0 Release ∷ by 0 Release ∷ by 0 Release ∷ by 1 Fetch
      ∷ by 0 Release ∷ by 1 Start ∷ by 1 Complete ∷ by 0 Fetch ∷ by 0 Release ∷ by 1 Fetch ∷ [])
      (task_fetched 0 ∷ accepted ∷ accepted ∷ task_placed 1 0 ∷ task_placed 2 0 ∷ task_placed 3 1 ∷ task_placed 4 1 ∷ refused 11 5 ∷ task_fetched 3
      ∷ task_placed 5 1 ∷ accepted ∷ accepted ∷ task_fetched 1 ∷ refused 9 1 ∷ task_fetched 4 ∷ [])
      (mem_of (0 ∷ 0 ∷ 0 ∷ 5 ∷ 1 ∷ 2 ∷ []) (0 ∷ 0 ∷ 1 ∷ 2 ∷ 3 ∷ 4 ∷ 5 ∷ []) (replicate 5 0) (0 ∷ 5 ∷ 5 ∷ 5 ∷ 5 ∷ 5 ∷ 5 ∷ []) (1 ∷ 2 ∷ 3 ∷ 4 ∷ 5 ∷ [])
      (replicate 6 0) (2 ∷ 1 ∷ 0 ∷ 0 ∷ 5 ∷ 4 ∷ 0 ∷ 0 ∷ []) (0 ∷ 1 ∷ 1 ∷ 0 ∷ 0 ∷ 0 ∷ 0 ∷ 1 ∷ 1 ∷ 0 ∷ 0 ∷ 0 ∷ [])
      (pos 0 ∷ pos 0 ∷ pos 8 ∷ negsuc 4 ∷ []) (replicate 12 0) (0 ∷ 0 ∷ 3 ∷ 1 ∷ 0 ∷ 0 ∷ 0 ∷ 0 ∷ 0 ∷ 0 ∷ 0 ∷ 0 ∷ []) (2 ∷ 13 ∷ [])
      (row_of 1 1 1 1 1 0 ∷ row_of 1 4 1 0 0 0 ∷ []))
  -- Release reads all three words of a ring's ends: a count over K isn't full, and a ring astray isn't appended to
  pub overfull : says 1 2 (by 0 Release) (written (put_ends 0 (record { head = 1; tail = 0; count = 3 }) ∷ []) full_ring) ≡ refused 8 0
  pub astray : says 1 2 (by 0 Release) (written (put_ends 0 (record { head = 1; tail = 1; count = 1 }) ∷ []) full_ring) ≡ refused 8 0
  -- worker 1's buffer begins at N, where N and E differ
  pub own_buffer : Runs 2 2 (lent 2 2 (1 ∷ 1 ∷ 1 ∷ []) (0 ∷ 0 ∷ 0 ∷ 1 ∷ []) (1 ∷ []))
      (by 1 Fetch ∷ by 1 Start ∷ by 1 Complete ∷ by 1 Release ∷ by 1 Fetch ∷ [])
      (task_fetched 1 ∷ accepted ∷ accepted ∷ task_placed 2 1 ∷ task_fetched 2 ∷ [])
      (mem_of (1 ∷ 1 ∷ 1 ∷ []) (0 ∷ 0 ∷ 0 ∷ 1 ∷ []) (1 ∷ []) (0 ∷ 0 ∷ 1 ∷ 1 ∷ []) (2 ∷ []) (0 ∷ 0 ∷ 0 ∷ [])
      (0 ∷ 0 ∷ 0 ∷ 0 ∷ 0 ∷ 0 ∷ 1 ∷ 2 ∷ []) (0 ∷ 1 ∷ 1 ∷ 0 ∷ 0 ∷ 0 ∷ 0 ∷ 0 ∷ 0 ∷ 0 ∷ 0 ∷ 0 ∷ []) (pos 1 ∷ pos 0 ∷ pos 0 ∷ pos 1 ∷ [])
      (0 ∷ 0 ∷ 0 ∷ 1 ∷ 0 ∷ 0 ∷ []) (1 ∷ 1 ∷ 0 ∷ 0 ∷ 0 ∷ 0 ∷ []) (1 ∷ 5 ∷ []) (row_of 0 65535 0 0 0 0 ∷ row_of 1 2 0 1 1 0 ∷ []))
  -- two tasks in a buffer: the oldest is released first
  pub two_buffered : Runs 2 3 (lent 2 3 (replicate 6 1) (0 ∷ 0 ∷ 0 ∷ 0 ∷ 0 ∷ 1 ∷ 2 ∷ []) (1 ∷ 3 ∷ []))
      (by 1 Fetch ∷ by 1 Start ∷ by 1 Complete ∷ by 1 Fetch ∷ by 1 Start ∷ by 1 Complete ∷ by 1 Release ∷ by 1 Release ∷ by 1 Fetch ∷ [])
      (task_fetched 1 ∷ accepted ∷ accepted ∷ task_fetched 3 ∷ accepted ∷ accepted ∷ task_placed 4 1 ∷ task_placed 5 1 ∷ task_fetched 4 ∷ [])
      (mem_of (replicate 6 1) (0 ∷ 0 ∷ 0 ∷ 0 ∷ 0 ∷ 1 ∷ 2 ∷ []) (1 ∷ 3 ∷ []) (0 ∷ 0 ∷ 1 ∷ 1 ∷ 2 ∷ 2 ∷ 2 ∷ []) (4 ∷ 5 ∷ []) (replicate 6 0)
      (0 ∷ 2 ∷ 0 ∷ 0 ∷ 0 ∷ 0 ∷ 0 ∷ 0 ∷ 0 ∷ 5 ∷ 3 ∷ 4 ∷ []) (0 ∷ 2 ∷ 2 ∷ 0 ∷ 0 ∷ 0 ∷ 0 ∷ 0 ∷ 0 ∷ 0 ∷ 1 ∷ 1 ∷ []) (pos 2 ∷ pos 0 ∷ pos 0 ∷ pos 2 ∷ [])
      (0 ∷ 0 ∷ 0 ∷ 0 ∷ 0 ∷ 0 ∷ 1 ∷ 3 ∷ 0 ∷ 0 ∷ 0 ∷ 0 ∷ []) (1 ∷ 1 ∷ 3 ∷ 1 ∷ 0 ∷ 0 ∷ 0 ∷ 0 ∷ 0 ∷ 0 ∷ 0 ∷ 0 ∷ []) (2 ∷ 9 ∷ [])
      (row_of 0 65535 0 0 0 0 ∷ row_of 1 4 0 2 2 0 ∷ []))
  -- the second successor of the second task in the table, edges 0→1, 1→2, 1→3
  pub second_successor : Runs 1 3 (lent 1 3 (replicate 4 1) (0 ∷ 0 ∷ 1 ∷ 2 ∷ 3 ∷ []) (0 ∷ 1 ∷ 1 ∷ []))
      (by 0 Fetch ∷ by 0 Start ∷ by 0 Complete ∷ by 0 Release ∷ by 0 Fetch ∷ by 0 Start ∷ by 0 Complete ∷ by 0 Release ∷ by 0 Release ∷ [])
      (task_fetched 0 ∷ accepted ∷ accepted ∷ task_placed 1 0 ∷ task_fetched 1 ∷ accepted ∷ accepted ∷ task_placed 2 0 ∷ task_placed 3 0 ∷ [])
      (mem_of (replicate 4 1) (0 ∷ 0 ∷ 1 ∷ 2 ∷ 3 ∷ []) (0 ∷ 1 ∷ 1 ∷ []) (0 ∷ 1 ∷ 3 ∷ 3 ∷ 3 ∷ []) (1 ∷ 2 ∷ 3 ∷ []) (replicate 4 0)
      (3 ∷ 1 ∷ 2 ∷ []) (2 ∷ 1 ∷ 2 ∷ []) (pos 2 ∷ []) (0 ∷ 1 ∷ 0 ∷ 0 ∷ []) (0 ∷ 0 ∷ 1 ∷ 0 ∷ 0 ∷ 0 ∷ 0 ∷ 0 ∷ []) (2 ∷ 9 ∷ []) (row_of 0 65535 0 2 2 0 ∷ []))
  -- three workers: the ring and the counter of owner 0 filled by 2, all of a worker's counters in its sum
  pub three_workers : Runs 3 2 (lent 3 2 (0 ∷ 2 ∷ 1 ∷ 5 ∷ 1 ∷ []) (0 ∷ 0 ∷ 0 ∷ 0 ∷ 1 ∷ 2 ∷ []) (2 ∷ 2 ∷ []))
      (by 2 Fetch ∷ by 2 Start ∷ by 2 Complete ∷ by 2 Release ∷ by 2 Release ∷ [])
      (task_fetched 2 ∷ accepted ∷ accepted ∷ task_placed 3 0 ∷ task_placed 4 2 ∷ [])
      (mem_of (0 ∷ 2 ∷ 1 ∷ 5 ∷ 1 ∷ []) (0 ∷ 0 ∷ 0 ∷ 0 ∷ 1 ∷ 2 ∷ []) (2 ∷ 2 ∷ []) (0 ∷ 0 ∷ 0 ∷ 2 ∷ 2 ∷ 2 ∷ []) (3 ∷ 4 ∷ []) (replicate 5 0)
      (0 ∷ 0 ∷ 0 ∷ 0 ∷ 3 ∷ 0 ∷ 0 ∷ 0 ∷ 1 ∷ 0 ∷ 0 ∷ 0 ∷ 0 ∷ 0 ∷ 0 ∷ 0 ∷ 2 ∷ 4 ∷ [])
      (0 ∷ 1 ∷ 1 ∷ 0 ∷ 0 ∷ 0 ∷ 0 ∷ 1 ∷ 1 ∷ 0 ∷ 0 ∷ 0 ∷ 0 ∷ 1 ∷ 1 ∷ 0 ∷ 0 ∷ 0 ∷ 0 ∷ 0 ∷ 0 ∷ 0 ∷ 0 ∷ 0 ∷ 1 ∷ 0 ∷ 1 ∷ [])
      (pos 0 ∷ pos 0 ∷ pos 5 ∷ pos 0 ∷ pos 2 ∷ pos 0 ∷ pos 0 ∷ pos 0 ∷ pos 1 ∷ [])
      (0 ∷ 0 ∷ 0 ∷ 0 ∷ 0 ∷ 0 ∷ 0 ∷ 0 ∷ 0 ∷ 0 ∷ 2 ∷ 0 ∷ 0 ∷ 0 ∷ 0 ∷ []) (2 ∷ 2 ∷ 0 ∷ 0 ∷ 0 ∷ 0 ∷ 0 ∷ 0 ∷ 0 ∷ 0 ∷ []) (1 ∷ 5 ∷ [])
      (row_of 0 65535 0 0 0 0 ∷ row_of 0 65535 0 0 0 0 ∷ row_of 0 65535 0 1 1 0 ∷ []))
  -- three workers: the rings of owners 0 and 1 filled by 2 are full, so the last task goes to owner 2; rings of owner 1 filled by 1 and by
  -- 2 hold tasks, and the scan from 0 stops at the first of them
  pub three_rings : Runs 3 2 (lent 3 2 (0 ∷ 9 ∷ 0 ∷ 0 ∷ 0 ∷ 0 ∷ 0 ∷ 0 ∷ []) (0 ∷ 0 ∷ 0 ∷ 0 ∷ 1 ∷ 2 ∷ 3 ∷ 4 ∷ 5 ∷ []) (replicate 5 2))
      (by 2 Fetch ∷ by 2 Start ∷ by 2 Complete ∷ by 2 Release ∷ by 2 Release ∷ by 2 Release ∷ by 2 Release ∷ by 2 Release ∷ by 1 Fetch ∷ [])
      (task_fetched 2 ∷ accepted ∷ accepted ∷ task_placed 3 0 ∷ task_placed 4 0 ∷ task_placed 5 1 ∷ task_placed 6 1 ∷ task_placed 7 2 ∷ task_fetched 1 ∷ [])
      (mem_of (0 ∷ 9 ∷ 0 ∷ 0 ∷ 0 ∷ 0 ∷ 0 ∷ 0 ∷ []) (0 ∷ 0 ∷ 0 ∷ 0 ∷ 1 ∷ 2 ∷ 3 ∷ 4 ∷ 5 ∷ []) (replicate 5 2) (0 ∷ 0 ∷ 0 ∷ 5 ∷ 5 ∷ 5 ∷ 5 ∷ 5 ∷ 5 ∷ [])
      (3 ∷ 4 ∷ 5 ∷ 6 ∷ 7 ∷ []) (replicate 8 0) (0 ∷ 0 ∷ 0 ∷ 0 ∷ 3 ∷ 4 ∷ 0 ∷ 0 ∷ 1 ∷ 0 ∷ 5 ∷ 6 ∷ 0 ∷ 0 ∷ 0 ∷ 0 ∷ 2 ∷ 7 ∷ [])
      (0 ∷ 1 ∷ 1 ∷ 0 ∷ 0 ∷ 0 ∷ 0 ∷ 0 ∷ 2 ∷ 0 ∷ 0 ∷ 0 ∷ 1 ∷ 1 ∷ 0 ∷ 0 ∷ 0 ∷ 2 ∷ 0 ∷ 0 ∷ 0 ∷ 0 ∷ 0 ∷ 0 ∷ 1 ∷ 0 ∷ 1 ∷ [])
      (pos 0 ∷ pos 0 ∷ pos 0 ∷ pos 0 ∷ pos 9 ∷ pos 0 ∷ pos 0 ∷ pos 0 ∷ pos 0 ∷ [])
      (0 ∷ 0 ∷ 0 ∷ 0 ∷ 0 ∷ 0 ∷ 0 ∷ 0 ∷ 0 ∷ 0 ∷ 0 ∷ 0 ∷ 0 ∷ 0 ∷ 0 ∷ 0 ∷ 2 ∷ 0 ∷ 0 ∷ 0 ∷ 0 ∷ 0 ∷ 0 ∷ 0 ∷ [])
      (2 ∷ 2 ∷ 0 ∷ 0 ∷ 0 ∷ 0 ∷ 0 ∷ 0 ∷ 0 ∷ 0 ∷ 0 ∷ 0 ∷ 0 ∷ 0 ∷ 0 ∷ 0 ∷ []) (1 ∷ 9 ∷ [])
      (row_of 0 65535 0 0 0 0 ∷ row_of 1 1 2 0 0 0 ∷ row_of 0 65535 0 1 1 0 ∷ []))

pub further : FurtherExamples
unfolding ℕ_discrete dec_le dec_lt first_below occ_of joined tabulate all_of sum_to after around capped next_phase part sizes_fit first_bad first_twice first_on_cycle tables_answer check_answer below? among? light? good? bad? ends_fit? twice? twice_in? find-twice edge? thru? path? leads? on_cycle? succs_below succ_start succ_starts_of succ_words degree_list roots capacity slot_at ends_at store_ends sound empty full head_on tail_on sum_to_z load least_from least search all_steps all_entries numbers_fit all_fit others_fit lengths_fit counters_fit store_words updated written counted carried_out scan fetch_task fetch_from fetch_rule start_rule complete_sink complete_inner complete_rule advanced find_room release_to release_ready release_waiting release_rule rule_of step_plan step cleared roots_laid begun roots_answer begin_answer begin turn turns desk_run memory_after answers
further =
    record {
      long_tile = refl;
      counter_later = refl;
      weight_later = refl;
      at_the_limit = refl;
      below_the_limit = refl;
      full_first = refl;
      fan = record { begins = refl; answered = refl; leaves = refl };
      overfull = refl;
      astray = refl;
      own_buffer = record { begins = refl; answered = refl; leaves = refl };
      two_buffered = record { begins = refl; answered = refl; leaves = refl };
      second_successor = record { begins = refl; answered = refl; leaves = refl };
      three_workers = record { begins = refl; answered = refl; leaves = refl };
      three_rings = record { begins = refl; answered = refl; leaves = refl };
    }
