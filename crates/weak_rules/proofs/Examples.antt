-- PROMISE: the examples of weak jobs, proved together as one table about the definitions, the weak diamond in whole.
use Prim.Native.Nat.{ℕ, zero, suc, ◌+◌, ◌*◌}
use mathlib.Core.Path.{◌≡◌, refl}
use mathlib.Core.Bool.{cond}
use mathlib.Core.List.{List, [], ◌∷◌}
use native.Mathlib.Decide.{ℕ_discrete, dec_le, dec_lt}
use lib.ListN.{length, replicate}
use lib.Dec.{ltb}
use lib.IntN.{pos, negsuc}
use Rattle.std.specs.Prelude.{Err, Ok}
use Rattle.lists.specs.Decided.{first_below}
use Rattle.lists.specs.Lists.{occ_of, joined, tabulate, all_of}
use Rattle.lists.specs.Sums.{sum_to, sum_to_z}
use Rattle.lists.specs.Circles.{after, around}
use Rattle.task.specs.Types.{engine, capped}
use Rattle.task.specs.Phases.{next_phase}
use Rattle.task.specs.Refusals.{Said, refused, accepted, answer_says}
use Rattle.task.specs.declared.Step.{Step}
use Rattle.task.specs.declared.Step.TheVariants.{Fetch, Start, Complete, Release}
use Rattle.weak_task.specs.Types.{copy, task_copy}
use Rattle.weak_task.specs.Says.{WeakAnswer, copy_fetched, copy_placed, step_says}
use Rattle.weak_task.specs.declared.WeakRow.{WeakRow}
use Rattle.graph.specs.Graph.{part}
use Rattle.graph.specs.Check.{sizes_fit, first_bad, first_twice, first_on_cycle, tables_answer, check_answer}
use Rattle.graph.specs.Decide.{below?, among?, light?, good?, bad?, ends_fit?, twice?, twice_in?, find-twice, edge?, thru?, path?, leads?, on_cycle?}
use Rattle.graph.specs.Successors.{succs_below, succ_start, succ_starts_of, succ_words, roots}
use Rattle.ring.specs.Ring.{capacity, end_words, slot_at, ends_at, store_ends, sound, empty, full, head_on, tail_on}
use Rattle.choice.specs.Least.{load, least_from, least}
use Rattle.choice.specs.Search.{search}
use Rattle.memory.specs.Shape.{all_fit}
use Rattle.memory.specs.Field as list
use Rattle.memory.specs.Memory.{put}
use Rattle.memory.specs.Updates.{store_words, store, updated, written}
use Rattle.plans.specs.Sizes.{numbers_fit, others_fit, lengths_fit}
use Rattle.plans.specs.Laying.{roots_laid}
use Rattle.weak_rules.specs.Memory.{weak_shape, Mem, mem_of, all_steps, all_entries, accepted_in}
use Rattle.weak_rules.specs.Words.{counters_fit}
use Rattle.weak_rules.specs.Updates.{Update, put_degree, put_fixed, put_slot, put_counter, put_entries, put_accepted, put_hand}
use Rattle.weak_rules.specs.Plans.{counted, Result, carried_out}
use Rattle.weak_rules.specs.Steps.{scan, fetch_copy, fetch_from, fetch_rule, start_rule, complete_copy, complete_sink, complete_inner, complete_last, complete_rule, advanced, find_room, release_to, release_first, release_later, release_rule, rule_of, step_plan, step}
use Rattle.weak_rules.specs.Begin.{weak_degrees, cleared, begun, roots_answer, begin_answer, begin}

abbrev pub row_of : ℕ → ℕ → ℕ → ℕ → ℕ → ℕ → ℕ → WeakRow
row_of phase task predecessor pointer read write cursor =
    record { phase = phase; held = task_copy (copy task predecessor); pointer = record { 0 = pointer }; read = read; write = write; cursor = cursor }

-- lists of the right lengths for P workers and K slots, full of other words
abbrev pub lent : ℕ → ℕ → List ℕ → List ℕ → List ℕ → Mem
lent p k w s e =
    mem_of w s e
    (replicate (length w + 1) 7) (replicate (length e) 7) (replicate (length w) 7) (replicate (length w) 7)
    (replicate (p * p * k) (copy 7 7)) (replicate (p * p * end_words) 7) (replicate (p * p) (pos 7))
    (replicate (p * length w) 7) (replicate (3 * (length e + length w)) 7) (7 ∷ 7 ∷ 7 ∷ [])
    (replicate p (row_of 7 7 7 7 7 7 7))

-- begin's answer and memory
abbrev pub begin_says : ℕ → ℕ → Mem → Said
begin_says p k m = answer_says (begin engine p k m).answer

abbrev pub fresh : ℕ → ℕ → Mem → Mem
fresh p k m = (begin engine p k m).memory

-- a step of a worker
pub record Call : Type 0 where
  pub worker : ℕ
  pub taken : Step

abbrev pub by : ℕ → Step → Call
by i s = record { worker = i; taken = s }

abbrev pub stepped : ℕ → ℕ → Call → Mem → Result WeakAnswer
stepped p k c m = step engine p k c.worker c.taken m

abbrev pub says : ℕ → ℕ → Call → Mem → Said
says p k c m = step_says (stepped p k c m).answer

-- the memory after some calls, and what they answer
unfoldable pub memory_after : ℕ → ℕ → List Call → Mem → Mem
memory_after p k [] m = m
memory_after p k (c ∷ cs) m = memory_after p k cs (stepped p k c m).memory

unfoldable pub answers : ℕ → ℕ → List Call → Mem → List Said
answers p k [] m = []
answers p k (c ∷ cs) m = says p k c m ∷ answers p k cs (stepped p k c m).memory

-- begin accepts this memory, and the calls after it answer this and leave that
pub record Runs (p k : ℕ) (m : Mem) (calls : List Call) (said : List Said) (words : Mem) : Type 0 where
  pub begins : begin_says p k m ≡ accepted
  pub answered : answers p k calls (fresh p k m) ≡ said
  pub leaves : memory_after p k calls (fresh p k m) ≡ words

-- the desk's turns: "each takes the first accepted of Release, Fetch, Start, Complete, or nothing"
abbrev pub tries : List Step
tries = Release ∷ Fetch ∷ Start ∷ Complete ∷ []

abbrev pub first_of : WeakAnswer → Mem → Mem → Mem
first_of (Err why) left others = others
first_of (Ok o) left others = left

unfoldable pub turn : ℕ → ℕ → ℕ → List Step → Mem → Mem
turn p k i [] m = m
turn p k i (s ∷ ss) m = first_of (step engine p k i s m).answer (step engine p k i s m).memory (turn p k i ss (step engine p k i s m).memory)

-- at most n turns, the first worker i's; none once 4E + 3R are accepted
unfoldable pub turns : ℕ → ℕ → ℕ → ℕ → Mem → Mem
turns p k zero i m = m
turns p k (suc n) i m = cond (ltb (accepted_in m) (all_steps m)) (turns p k n (after p i) (turn p k i tries m)) m

-- "P 2, K 4. Turns go 0, 1, 0, 1, …"
unfoldable pub desk_run : Mem → Mem
desk_run m = turns 2 4 (2 * all_steps m) 0 m

-- The memories.

-- the diamond: weights 0 5 3 0, edges 0→1, 0→2, 1→3, 2→3
abbrev pub diamond : Mem
diamond = lent 2 4 (0 ∷ 5 ∷ 3 ∷ 0 ∷ []) (0 ∷ 0 ∷ 1 ∷ 2 ∷ 4 ∷ []) (0 ∷ 0 ∷ 1 ∷ 2 ∷ [])

-- P 2, K 2, edges 1→2, 1→3, 0→4, 1→4: the second copy of task 4 finds the ring of its worker full
abbrev pub crowded : Mem
crowded = lent 2 2 (replicate 5 0) (0 ∷ 0 ∷ 0 ∷ 1 ∷ 2 ∷ 4 ∷ []) (1 ∷ 1 ∷ 0 ∷ 1 ∷ [])

-- P 1, K 4, edges 0→2, 1→2, task 2 of weight 9
abbrev pub join : Mem
join = lent 1 4 (0 ∷ 0 ∷ 9 ∷ []) (0 ∷ 0 ∷ 0 ∷ 2 ∷ []) (0 ∷ 1 ∷ [])

-- P 2, K 2, edges 0→1, 0→2, 0→3
abbrev pub fan : Mem
fan = lent 2 2 (0 ∷ 0 ∷ 0 ∷ 5 ∷ []) (0 ∷ 0 ∷ 1 ∷ 2 ∷ 3 ∷ []) (0 ∷ 0 ∷ 0 ∷ [])

-- P 2, K 2, one root, begun; and with words forged
abbrev pub single : Mem
single = fresh 2 2 (lent 2 2 (1 ∷ []) (0 ∷ 0 ∷ []) [])

abbrev pub forged : List Update → Mem
forged us = written us single

-- P 2, K 2, two roots
abbrev pub two_roots : Mem
two_roots = lent 2 2 (4 ∷ 9 ∷ []) (0 ∷ 0 ∷ 0 ∷ []) []

-- R one over N
abbrev pub too_many_roots : Update
too_many_roots = store list.run 2 2

-- worker 0 runs the root
abbrev pub root_in_hand : Update
root_in_hand = put_hand 0 2 (copy 0 65535)

-- the fan once task 0 is complete, the fixed word of task 1 forged
abbrev pub fixed_to : ℕ → Mem
fixed_to w = written (put_fixed 1 w ∷ []) (memory_after 2 2 (by 0 Fetch ∷ by 0 Start ∷ by 0 Complete ∷ []) (fresh 2 2 fan))

-- what the diamond's run leaves
abbrev pub diamond_left : Mem
diamond_left =
    mem_of (0 ∷ 5 ∷ 3 ∷ 0 ∷ []) (0 ∷ 0 ∷ 1 ∷ 2 ∷ 4 ∷ []) (0 ∷ 0 ∷ 1 ∷ 2 ∷ []) (0 ∷ 2 ∷ 3 ∷ 4 ∷ 4 ∷ []) (1 ∷ 2 ∷ 3 ∷ 3 ∷ []) (0 ∷ 0 ∷ 0 ∷ 0 ∷ []) (0 ∷ 0 ∷ 1 ∷ 0 ∷ [])
    (copy 0 65535 ∷ copy 1 0 ∷ copy 3 1 ∷ copy 0 0 ∷ copy 3 2 ∷ copy 0 0 ∷ copy 0 0 ∷ copy 0 0 ∷ copy 2 0 ∷ replicate 7 (copy 0 0))
    (3 ∷ 3 ∷ 0 ∷ 1 ∷ 1 ∷ 0 ∷ 1 ∷ 1 ∷ 0 ∷ 0 ∷ 0 ∷ 0 ∷ []) (pos 0 ∷ pos 0 ∷ pos 3 ∷ negsuc 2 ∷ []) (0 ∷ 1 ∷ 0 ∷ 0 ∷ 2 ∷ 0 ∷ 0 ∷ 0 ∷ [])
    (0 ∷ 65535 ∷ 0 ∷ 2 ∷ 0 ∷ 1 ∷ 1 ∷ 0 ∷ 0 ∷ 3 ∷ 2 ∷ 0 ∷ 3 ∷ 1 ∷ 0 ∷ replicate 9 0) (5 ∷ 19 ∷ 1 ∷ [])
    (row_of 0 65535 65535 1 2 2 0 ∷ row_of 0 65535 65535 1 1 1 0 ∷ [])

pub record Examples : Type 0 where
  -- the diamond as begun: every word
  pub begins : begin_says 2 4 diamond ≡ accepted
  pub laid_out : fresh 2 4 diamond
      ≡ mem_of (0 ∷ 5 ∷ 3 ∷ 0 ∷ []) (0 ∷ 0 ∷ 1 ∷ 2 ∷ 4 ∷ []) (0 ∷ 0 ∷ 1 ∷ 2 ∷ []) (0 ∷ 2 ∷ 3 ∷ 4 ∷ 4 ∷ []) (1 ∷ 2 ∷ 3 ∷ 3 ∷ []) (1 ∷ 1 ∷ 1 ∷ 2 ∷ [])
      (0 ∷ 65535 ∷ 65535 ∷ 65535 ∷ []) (copy 0 65535 ∷ replicate 15 (copy 0 0)) (0 ∷ 1 ∷ 1 ∷ replicate 9 0) (replicate 4 (pos 0)) (replicate 8 0)
      (replicate 24 0) (0 ∷ 0 ∷ 1 ∷ []) (row_of 0 65535 65535 0 0 0 0 ∷ row_of 0 65535 65535 0 0 0 0 ∷ [])
  -- by the desk's turns to its end: "4E + 3R accepted steps", "E + R copies used", nine words of the record unused
  pub nineteen : (desk_run (fresh 2 4 diamond)).run ≡ (5 ∷ 19 ∷ 1 ∷ [])
  pub listing : (desk_run (fresh 2 4 diamond)).executed ≡ (0 ∷ 65535 ∷ 0 ∷ 2 ∷ 0 ∷ 1 ∷ 1 ∷ 0 ∷ 0 ∷ 3 ∷ 2 ∷ 0 ∷ 3 ∷ 1 ∷ 0 ∷ replicate 9 0)
  pub fixed_words : (desk_run (fresh 2 4 diamond)).fixed ≡ (0 ∷ 0 ∷ 1 ∷ 0 ∷ [])
  pub whole : desk_run (fresh 2 4 diamond) ≡ diamond_left
  pub steps : Runs 2 4 diamond
      (by 0 Fetch ∷ by 0 Start ∷ by 0 Complete ∷ by 0 Release ∷ by 0 Release ∷ by 1 Fetch ∷ by 0 Fetch ∷ by 1 Start ∷ by 0 Start ∷ by 1 Complete
      ∷ by 0 Complete ∷ by 1 Release ∷ by 0 Release ∷ by 0 Fetch ∷ by 0 Start ∷ by 0 Complete ∷ by 0 Fetch ∷ by 0 Start ∷ by 0 Complete ∷ [])
      (copy_fetched (copy 0 65535) ∷ accepted ∷ accepted ∷ copy_placed (copy 1 0) 0 ∷ copy_placed (copy 2 0) 1 ∷ copy_fetched (copy 2 0)
      ∷ copy_fetched (copy 1 0) ∷ accepted ∷ accepted ∷ accepted ∷ accepted ∷ copy_placed (copy 3 2) 0 ∷ copy_placed (copy 3 1) 0
      ∷ copy_fetched (copy 3 2) ∷ accepted ∷ accepted ∷ copy_fetched (copy 3 1) ∷ accepted ∷ accepted ∷ [])
      diamond_left
  -- "later copies go only to that worker's ring, and 11 is given exactly if that ring is full": worker 1's own ring is empty; once worker 0 has
  -- fetched, the copy is placed
  pub full_ring : Runs 2 2 crowded
      (by 0 Fetch ∷ by 0 Start ∷ by 0 Complete ∷ by 0 Release ∷ by 1 Fetch ∷ by 1 Start ∷ by 1 Complete ∷ by 1 Release ∷ by 1 Release ∷ by 1 Release
      ∷ by 0 Fetch ∷ by 1 Release ∷ [])
      (copy_fetched (copy 0 65535) ∷ accepted ∷ accepted ∷ copy_placed (copy 4 0) 0 ∷ copy_fetched (copy 1 65535) ∷ accepted ∷ accepted
      ∷ copy_placed (copy 2 1) 0 ∷ copy_placed (copy 3 1) 0 ∷ refused 11 4 ∷ copy_fetched (copy 2 1) ∷ copy_placed (copy 4 1) 0 ∷ [])
      (mem_of (replicate 5 0) (0 ∷ 0 ∷ 0 ∷ 1 ∷ 2 ∷ 4 ∷ []) (1 ∷ 1 ∷ 0 ∷ 1 ∷ []) (0 ∷ 1 ∷ 4 ∷ 4 ∷ 4 ∷ 4 ∷ []) (4 ∷ 2 ∷ 3 ∷ 4 ∷ []) (0 ∷ 0 ∷ 1 ∷ 1 ∷ 2 ∷ [])
      (0 ∷ 1 ∷ 0 ∷ 0 ∷ 0 ∷ []) (copy 0 65535 ∷ copy 4 0 ∷ copy 4 1 ∷ copy 3 1 ∷ copy 0 0 ∷ copy 0 0 ∷ copy 1 65535 ∷ copy 0 0 ∷ [])
      (1 ∷ 0 ∷ 1 ∷ 1 ∷ 1 ∷ 2 ∷ 0 ∷ 0 ∷ 0 ∷ 1 ∷ 1 ∷ 0 ∷ []) (replicate 4 (pos 0)) (0 ∷ 0 ∷ 0 ∷ 0 ∷ 0 ∷ 1 ∷ 0 ∷ 0 ∷ 0 ∷ 0 ∷ [])
      (0 ∷ 65535 ∷ 0 ∷ 1 ∷ 65535 ∷ 1 ∷ replicate 21 0) (2 ∷ 11 ∷ 2 ∷ []) (row_of 1 2 1 0 1 1 0 ∷ row_of 0 65535 65535 0 1 1 0 ∷ []))
  -- once one of two copies of task 2 is complete, its degree is 1 and its weight is still counted
  pub one_of_two : Runs 1 4 join
      (by 0 Fetch ∷ by 0 Start ∷ by 0 Complete ∷ by 0 Release ∷ by 0 Fetch ∷ by 0 Start ∷ by 0 Complete ∷ by 0 Release ∷ by 0 Fetch ∷ by 0 Start
      ∷ by 0 Complete ∷ [])
      (copy_fetched (copy 0 65535) ∷ accepted ∷ accepted ∷ copy_placed (copy 2 0) 0 ∷ copy_fetched (copy 1 65535) ∷ accepted ∷ accepted
      ∷ copy_placed (copy 2 1) 0 ∷ copy_fetched (copy 2 0) ∷ accepted ∷ accepted ∷ [])
      (mem_of (0 ∷ 0 ∷ 9 ∷ []) (0 ∷ 0 ∷ 0 ∷ 2 ∷ []) (0 ∷ 1 ∷ []) (0 ∷ 1 ∷ 2 ∷ 2 ∷ []) (2 ∷ 2 ∷ []) (0 ∷ 0 ∷ 1 ∷ []) (0 ∷ 0 ∷ 0 ∷ [])
      (copy 0 65535 ∷ copy 1 65535 ∷ copy 2 0 ∷ copy 2 1 ∷ []) (3 ∷ 0 ∷ 1 ∷ []) (pos 9 ∷ []) (0 ∷ 1 ∷ 0 ∷ [])
      (0 ∷ 65535 ∷ 0 ∷ 1 ∷ 65535 ∷ 0 ∷ 2 ∷ 0 ∷ 0 ∷ 0 ∷ 0 ∷ 0 ∷ 0 ∷ 0 ∷ 0 ∷ []) (3 ∷ 11 ∷ 2 ∷ []) (row_of 0 65535 65535 0 2 2 0 ∷ []))
  -- and when the other one is complete, the task is
  pub both_of_two : Runs 1 4 join
      (by 0 Fetch ∷ by 0 Start ∷ by 0 Complete ∷ by 0 Release ∷ by 0 Fetch ∷ by 0 Start ∷ by 0 Complete ∷ by 0 Release ∷ by 0 Fetch ∷ by 0 Start
      ∷ by 0 Complete ∷ by 0 Fetch ∷ by 0 Start ∷ by 0 Complete ∷ by 0 Fetch ∷ [])
      (copy_fetched (copy 0 65535) ∷ accepted ∷ accepted ∷ copy_placed (copy 2 0) 0 ∷ copy_fetched (copy 1 65535) ∷ accepted ∷ accepted
      ∷ copy_placed (copy 2 1) 0 ∷ copy_fetched (copy 2 0) ∷ accepted ∷ accepted ∷ copy_fetched (copy 2 1) ∷ accepted ∷ accepted ∷ refused 10 0 ∷ [])
      (mem_of (0 ∷ 0 ∷ 9 ∷ []) (0 ∷ 0 ∷ 0 ∷ 2 ∷ []) (0 ∷ 1 ∷ []) (0 ∷ 1 ∷ 2 ∷ 2 ∷ []) (2 ∷ 2 ∷ []) (0 ∷ 0 ∷ 0 ∷ []) (0 ∷ 0 ∷ 0 ∷ [])
      (copy 0 65535 ∷ copy 1 65535 ∷ copy 2 0 ∷ copy 2 1 ∷ []) (0 ∷ 0 ∷ 0 ∷ []) (pos 0 ∷ []) (0 ∷ 1 ∷ 0 ∷ [])
      (0 ∷ 65535 ∷ 0 ∷ 1 ∷ 65535 ∷ 0 ∷ 2 ∷ 0 ∷ 0 ∷ 2 ∷ 1 ∷ 0 ∷ 0 ∷ 0 ∷ 0 ∷ []) (4 ∷ 14 ∷ 2 ∷ []) (row_of 0 65535 65535 0 2 2 0 ∷ []))
  -- the first copy of task 3 finds the target's ring full: the ring of worker 1 is used, and fixes task 3 to worker 1
  pub fallback : Runs 2 2 fan
      (by 0 Fetch ∷ by 0 Start ∷ by 0 Complete ∷ by 0 Release ∷ by 0 Release ∷ by 0 Release ∷ [])
      (copy_fetched (copy 0 65535) ∷ accepted ∷ accepted ∷ copy_placed (copy 1 0) 0 ∷ copy_placed (copy 2 0) 0 ∷ copy_placed (copy 3 0) 1 ∷ [])
      (mem_of (0 ∷ 0 ∷ 0 ∷ 5 ∷ []) (0 ∷ 0 ∷ 1 ∷ 2 ∷ 3 ∷ []) (0 ∷ 0 ∷ 0 ∷ []) (0 ∷ 3 ∷ 3 ∷ 3 ∷ 3 ∷ []) (1 ∷ 2 ∷ 3 ∷ []) (0 ∷ 1 ∷ 1 ∷ 1 ∷ [])
      (0 ∷ 0 ∷ 0 ∷ 1 ∷ []) (copy 2 0 ∷ copy 1 0 ∷ copy 0 0 ∷ copy 0 0 ∷ copy 3 0 ∷ copy 0 0 ∷ copy 0 0 ∷ copy 0 0 ∷ [])
      (1 ∷ 1 ∷ 2 ∷ 0 ∷ 0 ∷ 0 ∷ 0 ∷ 1 ∷ 1 ∷ 0 ∷ 0 ∷ 0 ∷ []) (pos 0 ∷ pos 0 ∷ pos 5 ∷ pos 0 ∷ []) (replicate 8 0) (0 ∷ 65535 ∷ replicate 19 0)
      (1 ∷ 6 ∷ 1 ∷ []) (row_of 0 65535 65535 1 1 1 0 ∷ row_of 0 65535 65535 0 0 0 0 ∷ []))
  -- the fixed word, "65,535 before, else below P or damaged"
  pub fixed_p : says 2 2 (by 0 Release) (fixed_to 2) ≡ refused 8 0
  pub fixed_below_p : says 2 2 (by 0 Release) (fixed_to 1) ≡ copy_placed (copy 1 0) 1
  pub fixed_none : says 2 2 (by 0 Release) (fixed_to 65535) ≡ copy_placed (copy 1 0) 0
  -- R, "over N is damaged", is "read just before either other": Fetch and Release meet 10 first, Complete meets R before entries and 12
  pub roots_fetch : says 2 2 (by 1 Fetch) (forged (too_many_roots ∷ [])) ≡ refused 10 0
  pub roots_fetched : says 2 2 (by 0 Fetch) (forged (too_many_roots ∷ [])) ≡ refused 8 0
  pub roots_release : says 2 2 (by 0 Release) (forged (too_many_roots ∷ [])) ≡ refused 10 0
  pub roots_start : says 2 2 (by 0 Start) (forged (too_many_roots ∷ put_hand 0 1 (copy 0 65535) ∷ [])) ≡ refused 8 0
  pub roots_complete : says 2 2 (by 0 Complete) (forged (too_many_roots ∷ root_in_hand ∷ [])) ≡ refused 8 0
  pub roots_before12 : says 2 2 (by 0 Complete) (forged (too_many_roots ∷ put_entries 2 ∷ root_in_hand ∷ [])) ≡ refused 8 0
  -- "E + R copies used; 12 .. follow these counts": before the other words
  pub record_full : says 2 2 (by 0 Complete) (forged (put_entries 1 ∷ put_hand 0 2 (copy 1 1) ∷ [])) ≡ refused 12 0
  -- "a predecessor word neither NIL nor below N is damaged", at Fetch and at Complete
  pub predecessor_fetch : says 2 2 (by 0 Fetch) (forged (put_slot 0 (copy 0 1) ∷ [])) ≡ refused 8 0
  pub predecessor_complete : says 2 2 (by 0 Complete) (forged (put_hand 0 2 (copy 0 1) ∷ [])) ≡ refused 8 0
  pub predecessor_below_n : says 2 2 (by 0 Fetch) (forged (put_slot 0 (copy 0 0) ∷ [])) ≡ copy_fetched (copy 0 0)
  -- two roots, each fetched by its own worker
  pub first_root : step_says (step engine 2 2 0 Fetch (fresh 2 2 two_roots)).answer ≡ copy_fetched (copy 0 65535)
  pub second_root : step_says (step engine 2 2 1 Fetch (step engine 2 2 0 Fetch (fresh 2 2 two_roots)).memory).answer ≡ copy_fetched (copy 1 65535)
  -- N 0: "0 steps, begun is finished"
  pub no_tasks : Runs 1 2 (lent 1 2 [] (0 ∷ []) [])
      (by 0 Fetch ∷ by 0 Start ∷ by 0 Complete ∷ by 0 Release ∷ [])
      (refused 10 0 ∷ refused 9 0 ∷ refused 9 0 ∷ refused 10 0 ∷ [])
      (mem_of [] (0 ∷ []) [] (0 ∷ []) [] [] [] (copy 0 0 ∷ copy 0 0 ∷ []) (0 ∷ 0 ∷ 0 ∷ []) (pos 0 ∷ []) [] [] (0 ∷ 0 ∷ 0 ∷ [])
      (row_of 0 65535 65535 0 0 0 0 ∷ []))
  pub no_steps : all_steps (fresh 1 2 (lent 1 2 [] (0 ∷ []) [])) ≡ 0

pub examples : Examples
unfolding ℕ_discrete dec_le dec_lt first_below occ_of joined tabulate all_of sum_to after around capped next_phase part sizes_fit first_bad first_twice first_on_cycle tables_answer check_answer below? among? light? good? bad? ends_fit? twice? twice_in? find-twice edge? thru? path? leads? on_cycle? succs_below succ_start succ_starts_of succ_words roots capacity slot_at ends_at store_ends sound empty full head_on tail_on sum_to_z load least_from least search all_steps all_entries numbers_fit all_fit others_fit lengths_fit counters_fit store_words updated written counted carried_out scan fetch_copy fetch_from fetch_rule start_rule complete_copy complete_sink complete_inner complete_last complete_rule advanced find_room release_to release_first release_later release_rule rule_of step_plan step weak_degrees roots_laid cleared begun roots_answer begin_answer begin turn turns desk_run memory_after answers
examples =
    record {
      begins = refl;
      laid_out = refl;
      nineteen = refl;
      listing = refl;
      fixed_words = refl;
      whole = refl;
      steps = record { begins = refl; answered = refl; leaves = refl };
      full_ring = record { begins = refl; answered = refl; leaves = refl };
      one_of_two = record { begins = refl; answered = refl; leaves = refl };
      both_of_two = record { begins = refl; answered = refl; leaves = refl };
      fallback = record { begins = refl; answered = refl; leaves = refl };
      fixed_p = refl;
      fixed_below_p = refl;
      fixed_none = refl;
      roots_fetch = refl;
      roots_fetched = refl;
      roots_release = refl;
      roots_start = refl;
      roots_complete = refl;
      roots_before12 = refl;
      record_full = refl;
      predecessor_fetch = refl;
      predecessor_complete = refl;
      predecessor_below_n = refl;
      first_root = refl;
      second_root = refl;
      no_tasks = record { begins = refl; answered = refl; leaves = refl };
      no_steps = refl;
    }

-- the run of `join` to some steps: to task 0 complete, to its copy placed and task 1 complete, to the first copy of task 2 running, to the last
abbrev pub first_ready : Mem
first_ready = memory_after 1 4 (by 0 Fetch ∷ by 0 Start ∷ by 0 Complete ∷ []) (fresh 1 4 join)

abbrev pub later_ready : Mem
later_ready = memory_after 1 4 (by 0 Release ∷ by 0 Fetch ∷ by 0 Start ∷ by 0 Complete ∷ []) first_ready

abbrev pub copy_runs : Mem
copy_runs = memory_after 1 4 (by 0 Release ∷ by 0 Fetch ∷ by 0 Start ∷ []) later_ready

abbrev pub last_runs : Mem
last_runs = memory_after 1 4 (by 0 Complete ∷ by 0 Fetch ∷ by 0 Start ∷ []) copy_runs

-- task 2's weight over 65,535, and the counter beyond 2^30
abbrev pub heavy : Mem → Mem
heavy m = written (store list.weights 2 65536 ∷ []) m

abbrev pub bad_counter : Mem → Mem
bad_counter m = written (put_counter 0 (pos 1073741825) ∷ []) m

-- Which words a step reads, and in which ranges.
pub record FurtherExamples : Type 0 where
  -- counters and weight are read with the first copy alone: "later copies go only to that worker's ring"
  pub first_counter : says 1 4 (by 0 Release) (bad_counter first_ready) ≡ refused 8 0
  pub first_weight : says 1 4 (by 0 Release) (heavy first_ready) ≡ refused 8 0
  pub later_counter : says 1 4 (by 0 Release) (bad_counter later_ready) ≡ copy_placed (copy 2 1) 0
  pub later_weight : says 1 4 (by 0 Release) (heavy later_ready) ≡ copy_placed (copy 2 1) 0
  -- and at Complete with the last copy alone
  pub copy_counter : says 1 4 (by 0 Complete) (bad_counter copy_runs) ≡ accepted
  pub copy_weight : says 1 4 (by 0 Complete) (heavy copy_runs) ≡ accepted
  pub last_counter : says 1 4 (by 0 Complete) (bad_counter last_runs) ≡ refused 8 0
  pub last_weight : says 1 4 (by 0 Complete) (heavy last_runs) ≡ refused 8 0
  -- "degree to be lowered outside 1..N": Complete reads it, Release doesn't
  pub degree_zero : says 1 4 (by 0 Complete) (written (put_degree 2 0 ∷ []) copy_runs) ≡ refused 8 0
  pub degree_n : says 1 4 (by 0 Complete) (written (put_degree 2 3 ∷ []) copy_runs) ≡ accepted
  pub degree_over_n : says 1 4 (by 0 Complete) (written (put_degree 2 4 ∷ []) copy_runs) ≡ refused 8 0
  pub degree_at_release : says 1 4 (by 0 Release) (written (put_degree 2 0 ∷ []) later_ready) ≡ copy_placed (copy 2 1) 0
  -- "the limits of the entries and accepted words follow these counts": one root, E + R is 1 and 4E + 3R is 3
  pub entries_over : says 2 2 (by 0 Complete) (forged (put_entries 2 ∷ root_in_hand ∷ [])) ≡ refused 8 0
  pub last_step : says 2 2 (by 0 Fetch) (forged (put_accepted 2 ∷ [])) ≡ copy_fetched (copy 0 65535)
  pub no_step_left : says 2 2 (by 0 Fetch) (forged (put_accepted 3 ∷ [])) ≡ refused 8 0
  -- a wrong R up to N is used as it stands
  pub no_roots : says 2 2 (by 0 Complete) (forged (store list.run 2 0 ∷ root_in_hand ∷ [])) ≡ refused 12 0

pub further : FurtherExamples
unfolding ℕ_discrete dec_le dec_lt first_below occ_of joined tabulate all_of sum_to after around capped next_phase part sizes_fit first_bad first_twice first_on_cycle tables_answer check_answer below? among? light? good? bad? ends_fit? twice? twice_in? find-twice edge? thru? path? leads? on_cycle? succs_below succ_start succ_starts_of succ_words roots capacity slot_at ends_at store_ends sound empty full head_on tail_on sum_to_z load least_from least search all_steps all_entries numbers_fit all_fit others_fit lengths_fit counters_fit store_words updated written counted carried_out scan fetch_copy fetch_from fetch_rule start_rule complete_copy complete_sink complete_inner complete_last complete_rule advanced find_room release_to release_first release_later release_rule rule_of step_plan step weak_degrees roots_laid cleared begun roots_answer begin_answer begin turn turns desk_run memory_after answers
further =
    record {
      first_counter = refl;
      first_weight = refl;
      later_counter = refl;
      later_weight = refl;
      copy_counter = refl;
      copy_weight = refl;
      last_counter = refl;
      last_weight = refl;
      degree_zero = refl;
      degree_n = refl;
      degree_over_n = refl;
      degree_at_release = refl;
      entries_over = refl;
      last_step = refl;
      no_step_left = refl;
      no_roots = refl;
    }

-- P 2, K 2, edges 0→1 .. 0→5; and once task 0 is complete and four copies have filled both rings that worker 0 fills
abbrev pub wide : Mem
wide = lent 2 2 (replicate 6 0) (0 ∷ 0 ∷ 1 ∷ 2 ∷ 3 ∷ 4 ∷ 5 ∷ []) (replicate 5 0)

abbrev pub all_full : Mem
all_full =
    memory_after 2 2 (by 0 Fetch ∷ by 0 Start ∷ by 0 Complete ∷ by 0 Release ∷ by 0 Release ∷ by 0 Release ∷ by 0 Release ∷ []) (fresh 2 2 wide)

-- another list of fixed words, record or run words
abbrev pub other_fixed : List ℕ → Mem → Mem
other_fixed l m = put list.fixed l m

abbrev pub other_record : List ℕ → Mem → Mem
other_record l m = put list.executed l m

abbrev pub other_run : List ℕ → Mem → Mem
other_run l m = put list.run l m

-- 11 of first copies, and where it stands; the lengths that a weak job alone has.
pub record RefusedExamples : Type 0 where
  -- "The first copy of a task picks its ring as in document 01": 11 where all P rings filled by worker 0 are full
  pub first_full : says 2 2 (by 0 Release) all_full ≡ refused 11 5
  -- before the weight, and before R, which is "read just before" the accepted word
  pub full_before_weight : says 2 2 (by 0 Release) (written (store list.weights 5 65536 ∷ []) all_full) ≡ refused 11 5
  pub full_before_roots : says 2 2 (by 0 Release) (written (store list.run 2 7 ∷ []) all_full) ≡ refused 11 5
  -- a later copy's ring is its worker's; a fixed word of P is damaged, with every ring full
  pub later_full : says 2 2 (by 0 Release) (written (put_fixed 5 1 ∷ []) all_full) ≡ refused 11 5
  pub fixed_before_full : says 2 2 (by 0 Release) (written (put_fixed 5 2 ∷ []) all_full) ≡ refused 8 0
  -- it is judged before that; another ring isn't looked at
  pub later_damaged : says 2 2 (by 0 Release) (written (put_fixed 5 1 ∷ store list.ends 2 (record { head = 0; tail = 0; count = 3 }) ∷ []) all_full) ≡ refused 8 0
  pub later_other : says 2 2 (by 0 Release) (written (put_fixed 5 1 ∷ store list.ends 0 (record { head = 0; tail = 0; count = 3 }) ∷ []) all_full) ≡ refused 11 5
  -- "N lent words", "length 3(E + N)", "A third run word": at begin and at a step
  pub fixed_short : begin_says 2 4 (other_fixed (replicate 3 7) diamond) ≡ refused 1 0
  pub record_short : begin_says 2 4 (other_record (replicate 8 7) diamond) ≡ refused 1 0
  pub run_short : begin_says 2 4 (other_run (7 ∷ 7 ∷ []) diamond) ≡ refused 1 0
  pub fixed_short_step : says 2 4 (by 0 Fetch) (other_fixed (replicate 3 65535) (fresh 2 4 diamond)) ≡ refused 1 0
  pub record_short_step : says 2 4 (by 0 Fetch) (other_record (replicate 8 0) (fresh 2 4 diamond)) ≡ refused 1 0
  pub run_short_step : says 2 4 (by 0 Fetch) (other_run (0 ∷ 0 ∷ []) (fresh 2 4 diamond)) ≡ refused 1 0

pub refusals : RefusedExamples
unfolding ℕ_discrete dec_le dec_lt first_below occ_of joined tabulate all_of sum_to after around capped next_phase part sizes_fit first_bad first_twice first_on_cycle tables_answer check_answer below? among? light? good? bad? ends_fit? twice? twice_in? find-twice edge? thru? path? leads? on_cycle? succs_below succ_start succ_starts_of succ_words roots capacity slot_at ends_at store_ends sound empty full head_on tail_on sum_to_z load least_from least search all_steps all_entries numbers_fit all_fit others_fit lengths_fit counters_fit store_words updated written counted carried_out scan fetch_copy fetch_from fetch_rule start_rule complete_copy complete_sink complete_inner complete_last complete_rule advanced find_room release_to release_first release_later release_rule rule_of step_plan step weak_degrees roots_laid cleared begun roots_answer begin_answer begin turn turns desk_run memory_after answers
refusals =
    record {
      first_full = refl;
      full_before_weight = refl;
      full_before_roots = refl;
      later_full = refl;
      fixed_before_full = refl;
      later_damaged = refl;
      later_other = refl;
      fixed_short = refl;
      record_short = refl;
      run_short = refl;
      fixed_short_step = refl;
      record_short_step = refl;
      run_short_step = refl;
    }

-- the figure that bounds the accepted steps of a run with any number of roots
pub steps-figure : (n e : ℕ) → weak_shape.steps n e ≡ 4 * e + 3 * n
steps-figure n e = refl
