-- Memories and the states that they are read as: the diamond at moments of the desk's run, worked out by hand from document 01, and damaged
-- words, each of which spoils only what is read from it.
use Prim.Native.Nat.{ℕ}
use mathlib.Core.Path.{◌≡◌, refl, ap}
use mathlib.Core.List.{List, [], ◌∷◌}
use lib.IntN.{ℤ, pos, negsuc}
use Rattle.lists.specs.Lists.{tabulate, all_of}
use Rattle.lists.specs.Squares.{square}
use Rattle.lists.specs.Sums.{sum_to_z}
use Rattle.lists.specs.Circles.{after, around}
use Rattle.task.specs.Types.{engine, capped}
use Rattle.task.specs.Phases.{next_phase}
use Rattle.task.specs.Entries.{Entry, entry_of}
use Rattle.task.specs.declared.Row.{Row}
use Rattle.graph.specs.Graph.{part}
use Rattle.graph.specs.Check.{sizes_fit}
use Rattle.ring.specs.Ring.{slot_at, ends_at, store_ends, sound, empty, full, head_on, tail_on, queued, queue}
use Rattle.choice.specs.Least.{load, least_from, least}
use Rattle.choice.specs.Search.{search}
use Rattle.rules.specs.Memory.{Mem, mem_of, all_steps, all_entries}
use Rattle.rules.specs.Sizes.{numbers_fit, others_fit, lengths_fit}
use Rattle.rules.specs.Words.{counters_fit}
use Rattle.memory.specs.Updates.{store_words, updated, written}
use Rattle.memory.specs.Shape.{all_fit}
use Rattle.rules.specs.Plans.{counted, carried_out}
use Rattle.rules.specs.Steps.{scan, fetch_task, fetch_from, fetch_rule, start_rule, complete_inner, complete_rule, advanced, find_room, release_to, release_ready, release_rule, rule_of, step_plan, step}
use Rattle.rules.specs.Desk.{turn, turns, desk_run}
use Rattle.rules.proofs.Examples.{row_of, fresh, diamond}
use Rattle.rules.proofs.Examples as desk
use Rattle.algorithm1.specs.State.{Thread, thread_with, State, state_with}
use Rattle.algorithm1.specs.Reading.{buffer_in, thread_in, record_in, state_of}

-- the desk's memory, P 2 and K 4, read as a state: as it is, and after n turns
abbrev pub desk_state : Mem → State
desk_state m = state_of 2 4 m

abbrev pub after_turns : ℕ → Mem → State
after_turns n m = desk_state (turns engine 2 4 n 0 m)

-- a state of the diamond: "`0 0 0`, `1 5 1 0`, `2 3 1 0`, `3 0 2 1 2`", so edges 0→1, 0→2, 1→3, 2→3
abbrev pub diamond_state : List ℕ → List (List (List ℕ)) → List (List ℤ) → List Thread → List (Entry ℕ) → State
diamond_state = state_with (0 ∷ 5 ∷ 3 ∷ 0 ∷ []) ((1 ∷ 2 ∷ []) ∷ (3 ∷ []) ∷ (3 ∷ []) ∷ [] ∷ [])

-- a thread between two tasks: "held becomes NIL"
abbrev pub resting : List ℕ → ℕ → ℕ → Thread
resting buffer cursor pointer = thread_with buffer cursor 0 65535 pointer

-- four rings of three slots with these ends, every other list empty
abbrev pub four_rings : List ℕ → Mem
four_rings e = mem_of [] [] [] [] [] [] (1 ∷ 2 ∷ 0 ∷ 3 ∷ 4 ∷ 5 ∷ 6 ∷ 7 ∷ 8 ∷ 9 ∷ 10 ∷ 11 ∷ []) e [] [] [] [] []

-- three tasks, two workers: the buffers 0, 1, 2 and 2, 0, 1, and these rows
abbrev pub buffers_of : Row → Row → Mem
buffers_of a b = mem_of (1 ∷ 1 ∷ 1 ∷ []) [] [] [] [] [] [] [] [] (0 ∷ 1 ∷ 2 ∷ 2 ∷ 0 ∷ 1 ∷ []) [] [] (a ∷ b ∷ [])

-- three tasks, the entries (2, 0), (0, 1), (1, 1), and this entries word
abbrev pub entries_of : ℕ → Mem
entries_of n = mem_of (1 ∷ 1 ∷ 1 ∷ []) [] [] [] [] [] [] [] [] [] (2 ∷ 0 ∷ 0 ∷ 1 ∷ 1 ∷ 1 ∷ []) (n ∷ 0 ∷ []) []

pub record Examples : Type 0 where
  -- begun: "degrees are numbers of predecessors"; "root number m, from 0, goes to the ring of owner and filler m mod P, and its weight to that
  -- counter": task 0 to ring (0, 0), and its weight is 0; "Everything is zeroed ..; held tasks become NIL."
  pub begins : desk_state (fresh 2 4 diamond)
      ≡ diamond_state (0 ∷ 1 ∷ 1 ∷ 2 ∷ [])
      (((0 ∷ []) ∷ [] ∷ []) ∷ ([] ∷ [] ∷ []) ∷ [])
      ((pos 0 ∷ pos 0 ∷ []) ∷ (pos 0 ∷ pos 0 ∷ []) ∷ [])
      (resting [] 0 0 ∷ resting [] 0 0 ∷ [])
      []
  -- "Turns go 0, 1, 0, 1, …": worker 0 fetches, starts and completes task 0, while worker 1 finds nothing. "The pointer becomes the ring
  -- after"; "(task, i) joins the record; the task joins i's completed buffer if it has successors; held becomes NIL."
  pub completes : after_turns 5 (fresh 2 4 diamond)
      ≡ diamond_state (0 ∷ 1 ∷ 1 ∷ 2 ∷ [])
      (([] ∷ [] ∷ []) ∷ ([] ∷ [] ∷ []) ∷ [])
      ((pos 0 ∷ pos 0 ∷ []) ∷ (pos 0 ∷ pos 0 ∷ []) ∷ [])
      (resting (0 ∷ []) 0 1 ∷ resting [] 0 0 ∷ [])
      (entry_of 0 0 ∷ [])
  -- worker 0's first Release: the degree of task 1 falls to zero, both sums are 0, "the lowest number on equal sums", so it goes to ring
  -- (0, 0) and its weight 5 to that counter; "The cursor advances"
  pub places : after_turns 7 (fresh 2 4 diamond)
      ≡ diamond_state (0 ∷ 0 ∷ 1 ∷ 2 ∷ [])
      (((1 ∷ []) ∷ [] ∷ []) ∷ ([] ∷ [] ∷ []) ∷ [])
      ((pos 5 ∷ pos 0 ∷ []) ∷ (pos 0 ∷ pos 0 ∷ []) ∷ [])
      (resting (0 ∷ []) 1 1 ∷ resting [] 0 0 ∷ [])
      (entry_of 0 0 ∷ [])
  -- its second: task 2, sums 5 and 0, so the target is worker 1, and the ring filled by worker 0 is (1, 0), whose counter takes the
  -- weight 3; "after the last successor it returns to 0 and the read place advances"
  pub places_next : after_turns 9 (fresh 2 4 diamond)
      ≡ diamond_state (0 ∷ 0 ∷ 0 ∷ 2 ∷ [])
      (((1 ∷ []) ∷ [] ∷ []) ∷ ((2 ∷ []) ∷ [] ∷ []) ∷ [])
      ((pos 5 ∷ pos 0 ∷ []) ∷ (pos 3 ∷ pos 0 ∷ []) ∷ [])
      (resting [] 0 1 ∷ resting [] 0 0 ∷ [])
      (entry_of 0 0 ∷ [])
  -- worker 1 fetches task 2: no counter changes
  pub fetches : after_turns 10 (fresh 2 4 diamond)
      ≡ diamond_state (0 ∷ 0 ∷ 0 ∷ 2 ∷ [])
      (((1 ∷ []) ∷ [] ∷ []) ∷ ([] ∷ [] ∷ []) ∷ [])
      ((pos 5 ∷ pos 0 ∷ []) ∷ (pos 3 ∷ pos 0 ∷ []) ∷ [])
      (resting [] 0 1 ∷ thread_with [] 0 1 2 1 ∷ [])
      (entry_of 0 0 ∷ [])
  -- it completes task 2 while worker 0 runs task 1: "the weight leaves counter (i, i) at Complete", which "may go below zero", so (1, 1) and not
  -- (1, 0)
  pub leaves : after_turns 14 (fresh 2 4 diamond)
      ≡ diamond_state (0 ∷ 0 ∷ 0 ∷ 2 ∷ [])
      (([] ∷ [] ∷ []) ∷ ([] ∷ [] ∷ []) ∷ [])
      ((pos 5 ∷ pos 0 ∷ []) ∷ (pos 3 ∷ negsuc 2 ∷ []) ∷ [])
      (thread_with [] 0 2 1 1 ∷ resting (2 ∷ []) 0 1 ∷ [])
      (entry_of 0 0 ∷ entry_of 2 1 ∷ [])
  -- the end: "`0 0`, `2 1`, `1 0`, `3 0`"; no degree, no circular list, no buffer has anything left
  pub ends : desk_state (desk_run (fresh 2 4 diamond))
      ≡ diamond_state (0 ∷ 0 ∷ 0 ∷ 0 ∷ [])
      (([] ∷ [] ∷ []) ∷ ([] ∷ [] ∷ []) ∷ [])
      ((pos 0 ∷ pos 0 ∷ []) ∷ (pos 3 ∷ negsuc 2 ∷ []) ∷ [])
      (resting [] 0 1 ∷ resting [] 0 1 ∷ [])
      (entry_of 0 0 ∷ entry_of 2 1 ∷ entry_of 1 0 ∷ entry_of 3 0 ∷ [])
  -- P 2, K 3: ring (0, 0) holds two tasks; ring (0, 1) has "a head of K" and reads as empty, ring (1, 1) has such a tail; ring (1, 0) has
  -- head 2 and tail 1, so it holds its last slot and then its first
  pub damaged_ends : (state_of 2 3 (four_rings (0 ∷ 2 ∷ 2 ∷ 3 ∷ 1 ∷ 1 ∷ 2 ∷ 1 ∷ 2 ∷ 0 ∷ 3 ∷ 3 ∷ []))).queues
      ≡ ((1 ∷ 2 ∷ []) ∷ [] ∷ []) ∷ ((8 ∷ 6 ∷ []) ∷ [] ∷ []) ∷ []
  -- ring (0, 0) "holds K tasks" from head 1, which is its tail too, and ring (1, 0) of this head and tail holds none: the count tells; ring
  -- (0, 1) has "A count over K", in ring (1, 1) head plus count doesn't lead to tail, and both read as empty
  pub counted_ends : (state_of 2 3 (four_rings (1 ∷ 1 ∷ 3 ∷ 0 ∷ 1 ∷ 4 ∷ 1 ∷ 1 ∷ 0 ∷ 0 ∷ 2 ∷ 1 ∷ []))).queues
      ≡ ((2 ∷ 0 ∷ 1 ∷ []) ∷ [] ∷ []) ∷ ([] ∷ [] ∷ []) ∷ []
  -- worker 0's places have write over N: its buffer reads as empty, the row's other words as they are; worker 1's is read from its own N
  -- places, up to the last
  pub damaged_write : (state_of 2 2 (buffers_of (row_of 7 9 8 0 4 5) (row_of 2 0 1 1 3 0))).threads
      ≡ thread_with [] 5 7 9 8 ∷ thread_with (0 ∷ 1 ∷ []) 0 2 0 1 ∷ []
  -- worker 1's have read over write
  pub damaged_read : (state_of 2 2 (buffers_of (row_of 0 65535 0 0 2 1) (row_of 0 65535 1 2 1 0))).threads
      ≡ thread_with (0 ∷ 1 ∷ []) 1 0 65535 0 ∷ thread_with [] 0 0 65535 1 ∷ []
  -- "entries over N"; N of them; fewer
  pub damaged_entries : (state_of 2 2 (entries_of 4)).executed ≡ []
  pub all_entries_read : (state_of 2 2 (entries_of 3)).executed ≡ entry_of 2 0 ∷ entry_of 0 1 ∷ entry_of 1 1 ∷ []
  pub some_entries_read : (state_of 2 2 (entries_of 2)).executed ≡ entry_of 2 0 ∷ entry_of 0 1 ∷ []
  -- a start that should be 1 is 3: task 0's successors run to the end of the table, task 1's are none, task 2's stay
  pub damaged_start : (state_of 2 2 (mem_of (1 ∷ 1 ∷ 1 ∷ []) [] [] (0 ∷ 3 ∷ 1 ∷ 2 ∷ []) (1 ∷ 2 ∷ []) [] [] [] [] [] [] [] [])).successors
      ≡ (1 ∷ 2 ∷ []) ∷ [] ∷ (2 ∷ []) ∷ []

-- begin's words and the run's last ones are known from the rules' examples
pub examples : Examples
unfolding tabulate all_of square sum_to_z after around capped next_phase part sizes_fit slot_at ends_at store_ends sound empty full head_on tail_on queued queue load least_from least search all_steps all_entries numbers_fit all_fit others_fit lengths_fit counters_fit store_words updated written counted carried_out scan fetch_task fetch_from fetch_rule start_rule complete_inner complete_rule advanced find_room release_to release_ready release_rule rule_of step_plan step turn turns buffer_in thread_in record_in state_of
examples =
    record {
      begins = ap desk_state (desk.examples).laid_out;
      completes = ap (after_turns 5) (desk.examples).laid_out;
      places = ap (after_turns 7) (desk.examples).laid_out;
      places_next = ap (after_turns 9) (desk.examples).laid_out;
      fetches = ap (after_turns 10) (desk.examples).laid_out;
      leaves = ap (after_turns 14) (desk.examples).laid_out;
      ends = ap desk_state (desk.examples).whole;
      damaged_ends = refl;
      counted_ends = refl;
      damaged_write = refl;
      damaged_read = refl;
      damaged_entries = refl;
      all_entries_read = refl;
      some_entries_read = refl;
      damaged_start = refl;
    }
