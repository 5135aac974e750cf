-- Weak jobs' memories and the states that they are read as: the diamond at moments of the desk's run and a join of two copies, worked out by hand from
-- document 02's No. 6 and source document 000; steps of the algorithm between these states; and damaged words, each of which spoils only what is read
-- from it.
use Prim.Native.Nat.{ℕ}
use mathlib.Core.Path.{◌≡◌, refl, ap}
use mathlib.Core.List.{List, [], ◌∷◌}
use native.Mathlib.Decide.{ℕ_discrete, dec_le, dec_lt}
use lib.IntN.{ℤ, pos, negsuc}
use Rattle.lists.specs.Decided.{first_below}
use Rattle.lists.specs.Lists.{occ_of, joined, tabulate, all_of}
use Rattle.lists.specs.Squares.{square}
use Rattle.lists.specs.Sums.{sum_to, sum_to_z}
use Rattle.lists.specs.Circles.{after, around}
use Rattle.task.specs.Types.{capped}
use Rattle.task.specs.Phases.{next_phase}
use Rattle.task.specs.Entries.{Entry, entry_of}
use Rattle.task.specs.declared.Step.TheVariants.{Fetch, Start, Complete, Release}
use Rattle.weak_task.specs.Types.{Copy, copy}
use Rattle.graph.specs.Graph.{part}
use Rattle.graph.specs.Check.{sizes_fit, first_bad, first_twice, first_on_cycle, tables_answer, check_answer}
use Rattle.graph.specs.Decide.{below?, among?, light?, good?, bad?, ends_fit?, twice?, twice_in?, find-twice, edge?, thru?, path?, leads?, on_cycle?}
use Rattle.graph.specs.Successors.{succs_below, succ_start, succ_starts_of, succ_words, roots}
use Rattle.ring.specs.Ring.{capacity, slot_at, ends_at, store_ends, sound, empty, full, head_on, tail_on, queued, queue}
use Rattle.choice.specs.Least.{load, least_from, least}
use Rattle.choice.specs.Search.{search}
use Rattle.memory.specs.Shape.{all_fit}
use Rattle.memory.specs.Updates.{store_words, updated, written}
use Rattle.plans.specs.Sizes.{numbers_fit, others_fit, lengths_fit}
use Rattle.plans.specs.Laying.{roots_laid}
use Rattle.weak_rules.specs.Memory.{Mem, mem_of, all_steps, all_entries}
use Rattle.weak_rules.specs.Words.{counters_fit}
use Rattle.weak_rules.specs.Plans.{counted, carried_out}
use Rattle.weak_rules.specs.Steps.{scan, fetch_copy, fetch_from, fetch_rule, start_rule, complete_copy, complete_sink, complete_inner, complete_last, complete_rule, advanced, find_room, release_to, release_first, release_later, release_rule, rule_of, step_plan, step}
use Rattle.weak_rules.specs.Begin.{weak_degrees, cleared, begun, roots_answer, begin_answer, begin}
use Rattle.weak_rules.proofs.Examples.{lent, fresh, Call, by, memory_after, diamond, desk_run}
use Rattle.weak_rules.proofs.Examples as desk
use Rattle.split_lists.specs.Items.{thread_with, state_with}
use Rattle.split_lists.specs.Reading.{buffer_in, thread_in}
use Rattle.weak_algorithm.specs.State as state
use Rattle.weak_algorithm.specs.State.{Thread, State}
use Rattle.weak_algorithm.specs.Reading.{record_in, state_of}

-- P 2, K 4: a memory read as a state, as it is and after some calls
abbrev pub state_after : List Call → Mem → State
state_after calls m = state_of 2 4 (memory_after 2 4 calls m)

-- a state of the diamond: weights 0 5 3 0, edges 0→1, 0→2, 1→3, 2→3
abbrev pub diamond_state : List ℕ → List (List (List Copy)) → List (List ℤ) → List Thread → List (Entry Copy) → List ℕ → State
diamond_state d q c t x tids = state.state_of (state_with (0 ∷ 5 ∷ 3 ∷ 0 ∷ []) ((1 ∷ 2 ∷ []) ∷ (3 ∷ []) ∷ (3 ∷ []) ∷ [] ∷ []) d q c t x) tids

-- two roots, 0 and 1, and task 2 of weight 9 behind both
abbrev pub join : Mem
join = lent 2 4 (0 ∷ 0 ∷ 9 ∷ []) (0 ∷ 0 ∷ 0 ∷ 2 ∷ []) (0 ∷ 1 ∷ [])

abbrev pub join_state : List ℕ → List (List (List Copy)) → List (List ℤ) → List Thread → List (Entry Copy) → List ℕ → State
join_state d q c t x tids = state.state_of (state_with (0 ∷ 0 ∷ 9 ∷ []) ((2 ∷ []) ∷ (2 ∷ []) ∷ [] ∷ []) d q c t x) tids

-- a thread between two copies: "an empty hand NIL twice"
abbrev pub resting : List ℕ → ℕ → ℕ → Thread
resting buffer cursor pointer = thread_with buffer cursor 0 (copy 65535 65535) pointer

-- a worker runs the copy that it fetches
abbrev pub runs : ℕ → List Call → List Call
runs i calls = by i Fetch ∷ by i Start ∷ by i Complete ∷ calls

-- both roots of the join have run; then their tasks are released, first worker 0's
abbrev pub both_run : List Call → List Call
both_run calls = runs 0 (runs 1 calls)

abbrev pub both_released : List Call → List Call
both_released calls = both_run (by 0 Release ∷ by 1 Release ∷ calls)

-- the states of the join before the two Releases, between them and after
abbrev pub unfixed : State
unfixed =
    join_state (0 ∷ 0 ∷ 2 ∷ [])
    (([] ∷ [] ∷ []) ∷ ([] ∷ [] ∷ []) ∷ [])
    ((pos 0 ∷ pos 0 ∷ []) ∷ (pos 0 ∷ pos 0 ∷ []) ∷ [])
    (resting (0 ∷ []) 0 1 ∷ resting (1 ∷ []) 0 0 ∷ [])
    (entry_of (copy 0 65535) 0 ∷ entry_of (copy 1 65535) 1 ∷ [])
    (0 ∷ 1 ∷ 65535 ∷ [])

abbrev pub first_placed : State
first_placed =
    join_state (0 ∷ 0 ∷ 2 ∷ [])
    (((copy 2 0 ∷ []) ∷ [] ∷ []) ∷ ([] ∷ [] ∷ []) ∷ [])
    ((pos 9 ∷ pos 0 ∷ []) ∷ (pos 0 ∷ pos 0 ∷ []) ∷ [])
    (resting [] 0 1 ∷ resting (1 ∷ []) 0 0 ∷ [])
    (entry_of (copy 0 65535) 0 ∷ entry_of (copy 1 65535) 1 ∷ [])
    (0 ∷ 1 ∷ 0 ∷ [])

abbrev pub both_placed : State
both_placed =
    join_state (0 ∷ 0 ∷ 2 ∷ [])
    (((copy 2 0 ∷ []) ∷ (copy 2 1 ∷ []) ∷ []) ∷ ([] ∷ [] ∷ []) ∷ [])
    ((pos 9 ∷ pos 0 ∷ []) ∷ (pos 0 ∷ pos 0 ∷ []) ∷ [])
    (resting [] 0 1 ∷ resting [] 0 0 ∷ [])
    (entry_of (copy 0 65535) 0 ∷ entry_of (copy 1 65535) 1 ∷ [])
    (0 ∷ 1 ∷ 0 ∷ [])

-- four rings of three slots with these ends, every other list empty
abbrev pub four_rings : List ℕ → Mem
four_rings e =
    mem_of [] [] [] [] [] [] []
    (copy 1 9 ∷ copy 2 9 ∷ copy 0 9 ∷ copy 3 8 ∷ copy 4 8 ∷ copy 5 8 ∷ copy 6 7 ∷ copy 7 7 ∷ copy 8 7 ∷ copy 9 6 ∷ copy 10 6 ∷ copy 11 6 ∷ [])
    e [] [] [] [] []

-- one edge, so two entries where R is 1: (1, 0, 0) and (0, NIL, 1) and a third, these entries and this R
abbrev pub entries_of : ℕ → ℕ → Mem
entries_of n r = mem_of (1 ∷ 1 ∷ []) [] (0 ∷ []) [] [] [] [] [] [] [] [] (1 ∷ 0 ∷ 0 ∷ 0 ∷ 65535 ∷ 1 ∷ 1 ∷ 1 ∷ 1 ∷ []) (n ∷ 0 ∷ r ∷ []) []

pub record Examples : Type 0 where
  -- begun: "degrees are numbers of predecessors", "a root being begun with degree 1"; "a root has one copy with NIL", in ring (0, 0), and is fixed to
  -- worker 0, every other task to none
  pub begins : state_after [] (fresh 2 4 diamond)
      ≡ diamond_state (1 ∷ 1 ∷ 1 ∷ 2 ∷ [])
      (((copy 0 65535 ∷ []) ∷ [] ∷ []) ∷ ([] ∷ [] ∷ []) ∷ [])
      ((pos 0 ∷ pos 0 ∷ []) ∷ (pos 0 ∷ pos 0 ∷ []) ∷ [])
      (resting [] 0 0 ∷ resting [] 0 0 ∷ [])
      []
      (0 ∷ 65535 ∷ 65535 ∷ 65535 ∷ [])
  -- the root's copy runs: "A copy's Complete alone lowers the degree .., and the last one completes the task", which joins worker 0's buffer
  pub completes : state_after (runs 0 []) (fresh 2 4 diamond)
      ≡ diamond_state (0 ∷ 1 ∷ 1 ∷ 2 ∷ [])
      (([] ∷ [] ∷ []) ∷ ([] ∷ [] ∷ []) ∷ [])
      ((pos 0 ∷ pos 0 ∷ []) ∷ (pos 0 ∷ pos 0 ∷ []) ∷ [])
      (resting (0 ∷ []) 0 1 ∷ resting [] 0 0 ∷ [])
      (entry_of (copy 0 65535) 0 ∷ [])
      (0 ∷ 65535 ∷ 65535 ∷ 65535 ∷ [])
  -- worker 0 releases: the copies (1, 0) to worker 0, "the lowest number on equal sums", and (2, 0) to worker 1; each fixes its task, its weight joins, and
  -- no degree falls
  pub places : state_after (runs 0 (by 0 Release ∷ by 0 Release ∷ [])) (fresh 2 4 diamond)
      ≡ diamond_state (0 ∷ 1 ∷ 1 ∷ 2 ∷ [])
      (((copy 1 0 ∷ []) ∷ [] ∷ []) ∷ ((copy 2 0 ∷ []) ∷ [] ∷ []) ∷ [])
      ((pos 5 ∷ pos 0 ∷ []) ∷ (pos 3 ∷ pos 0 ∷ []) ∷ [])
      (resting [] 0 1 ∷ resting [] 0 0 ∷ [])
      (entry_of (copy 0 65535) 0 ∷ [])
      (0 ∷ 0 ∷ 1 ∷ 65535 ∷ [])
  -- the end of the desk's run: "nineteen" steps; task 3 was fixed to worker 0, which ran both its copies
  pub ends : state_after [] (desk_run (fresh 2 4 diamond))
      ≡ diamond_state (0 ∷ 0 ∷ 0 ∷ 0 ∷ [])
      (([] ∷ [] ∷ []) ∷ ([] ∷ [] ∷ []) ∷ [])
      ((pos 0 ∷ pos 0 ∷ []) ∷ (pos 3 ∷ negsuc 2 ∷ []) ∷ [])
      (resting [] 0 1 ∷ resting [] 0 1 ∷ [])
      (entry_of (copy 0 65535) 0 ∷ entry_of (copy 2 0) 1 ∷ entry_of (copy 1 0) 0 ∷ entry_of (copy 3 2) 0 ∷ entry_of (copy 3 1) 0 ∷ [])
      (0 ∷ 0 ∷ 1 ∷ 0 ∷ [])
  -- the join once both roots have run, root 1 by worker 1
  pub roots_run : state_after (both_run []) (fresh 2 4 join) ≡ unfixed
  -- worker 0 releases the first copy of task 2, whose weight 9 joins counter (0, 0)
  pub first : state_after (both_run (by 0 Release ∷ [])) (fresh 2 4 join) ≡ first_placed
  -- worker 1 releases a later one: worker 1's sum is the least, but "later copies go only to that worker's ring", (0, 1), and "Weight joins with the first
  -- copy", so no counter changes
  pub later : state_after (both_released []) (fresh 2 4 join) ≡ both_placed
  -- worker 0 runs one of the two, that of ring (0, 1), at which its pointer stands: the degree is 1, the weight stays, and nothing joins its buffer
  pub one_of_two : state_after (both_released (runs 0 [])) (fresh 2 4 join)
      ≡ join_state (0 ∷ 0 ∷ 1 ∷ [])
      (((copy 2 0 ∷ []) ∷ [] ∷ []) ∷ ([] ∷ [] ∷ []) ∷ [])
      ((pos 9 ∷ pos 0 ∷ []) ∷ (pos 0 ∷ pos 0 ∷ []) ∷ [])
      (resting [] 0 0 ∷ resting [] 0 0 ∷ [])
      (entry_of (copy 0 65535) 0 ∷ entry_of (copy 1 65535) 1 ∷ entry_of (copy 2 1) 0 ∷ [])
      (0 ∷ 1 ∷ 0 ∷ [])
  -- and the other: "Weight .. leaves when the last copy completes"
  pub both_of_two : state_after (both_released (runs 0 (runs 0 []))) (fresh 2 4 join)
      ≡ join_state (0 ∷ 0 ∷ 0 ∷ [])
      (([] ∷ [] ∷ []) ∷ ([] ∷ [] ∷ []) ∷ [])
      ((pos 0 ∷ pos 0 ∷ []) ∷ (pos 0 ∷ pos 0 ∷ []) ∷ [])
      (resting [] 0 1 ∷ resting [] 0 0 ∷ [])
      (entry_of (copy 0 65535) 0 ∷ entry_of (copy 1 65535) 1 ∷ entry_of (copy 2 1) 0 ∷ entry_of (copy 2 0) 0 ∷ [])
      (0 ∷ 1 ∷ 0 ∷ [])
  -- ring (0, 1) has "a head of K" and ring (1, 1) "A count over K": they read as empty, the others as they are
  pub damaged_ends : (state_of 2 3 (four_rings (0 ∷ 2 ∷ 2 ∷ 3 ∷ 1 ∷ 1 ∷ 2 ∷ 1 ∷ 2 ∷ 0 ∷ 1 ∷ 4 ∷ []))).lists.queues
      ≡ ((copy 1 9 ∷ copy 2 9 ∷ []) ∷ [] ∷ []) ∷ ((copy 8 7 ∷ copy 6 7 ∷ []) ∷ [] ∷ []) ∷ []
  -- E + R entries, one fewer, one more
  pub all_entries_read : (state_of 2 2 (entries_of 2 1)).lists.executed ≡ entry_of (copy 1 0) 0 ∷ entry_of (copy 0 65535) 1 ∷ []
  pub some_entries_read : (state_of 2 2 (entries_of 1 1)).lists.executed ≡ entry_of (copy 1 0) 0 ∷ []
  pub damaged_entries : (state_of 2 2 (entries_of 3 1)).lists.executed ≡ []
  -- R is used as it stands
  pub more_roots : (state_of 2 2 (entries_of 3 2)).lists.executed ≡ entry_of (copy 1 0) 0 ∷ entry_of (copy 0 65535) 1 ∷ entry_of (copy 1 1) 1 ∷ []

-- begin's words and the run's last ones are known from the rules' examples
pub examples : Examples
unfolding ℕ_discrete dec_le dec_lt first_below occ_of joined tabulate all_of square sum_to sum_to_z after around capped next_phase part sizes_fit first_bad first_twice first_on_cycle tables_answer check_answer below? among? light? good? bad? ends_fit? twice? twice_in? find-twice edge? thru? path? leads? on_cycle? succs_below succ_start succ_starts_of succ_words roots capacity slot_at ends_at store_ends sound empty full head_on tail_on queued queue load least_from least search all_steps all_entries numbers_fit all_fit others_fit lengths_fit counters_fit store_words updated written counted carried_out scan fetch_copy fetch_from fetch_rule start_rule complete_copy complete_sink complete_inner complete_last complete_rule advanced find_room release_to release_first release_later release_rule rule_of step_plan step weak_degrees roots_laid cleared begun roots_answer begin_answer begin memory_after buffer_in thread_in record_in state_of
examples =
    record {
      begins = ap (state_after []) (desk.examples).laid_out;
      completes = ap (state_after (runs 0 [])) (desk.examples).laid_out;
      places = ap (state_after (runs 0 (by 0 Release ∷ by 0 Release ∷ []))) (desk.examples).laid_out;
      ends = ap (state_after []) (desk.examples).whole;
      roots_run = refl;
      first = refl;
      later = refl;
      one_of_two = refl;
      both_of_two = refl;
      damaged_ends = refl;
      all_entries_read = refl;
      some_entries_read = refl;
      damaged_entries = refl;
      more_roots = refl;
    }
