-- A state of Algorithm 1 whose items are no task numbers but pairs, each of a task and a mark: what waits, what a worker's counters add up to, and
-- what a Fetch and a Complete leave, worked out by hand.
use Prim.Native.Nat.{ℕ}
use mathlib.Core.Path.{◌≡◌, refl}
use mathlib.Core.List.{[], ◌∷◌}
use lib.IntN.{pos, negsuc}
use Rattle.lists.specs.Lists.{joined}
use Rattle.lists.specs.Squares.{cell, with_cell}
use Rattle.lists.specs.Sums.{sum_to_z}
use Rattle.task.specs.Entries.{entry_of}
use Rattle.split_lists.specs.Items.{thread_with, State, state_with, waiting_for, workload, thread_of}
use Rattle.split_lists.specs.Moves.{with_thread, with_queue, take_weight, holding, with_entry}

abbrev pub Pair : Type 0
Pair = ℕ × ℕ

-- no item
abbrev pub no_pair : Pair
no_pair = (65535, 65535)

-- P 2, tasks 0 to 3 with weights 4, 5, 3, 2 and no edges. Three pairs wait for worker 0, two of them of task 1, and one for worker 1, which holds
-- (2, 9): its weight 3 has joined counter (1, 0). Worker 1 has completed (0, 6), whose weight 4 had joined counter (1, 0) and left counter (1, 1).
abbrev pub pairs : State Pair
pairs =
    state_with (4 ∷ 5 ∷ 3 ∷ 2 ∷ []) [] (0 ∷ 0 ∷ 0 ∷ 0 ∷ [])
    ((((1, 7) ∷ (1, 8) ∷ []) ∷ ((2, 7) ∷ []) ∷ []) ∷ ([] ∷ ((3, 9) ∷ []) ∷ []) ∷ [])
    ((pos 10 ∷ pos 3 ∷ []) ∷ (pos 7 ∷ negsuc 1 ∷ []) ∷ [])
    (thread_with [] 0 0 no_pair 0 ∷ thread_with [] 0 1 (2, 9) 1 ∷ [])
    (entry_of (0, 6) 1 ∷ [])

-- worker 0 has fetched (1, 7) from its list 0
abbrev pub fetched_pair : State Pair
fetched_pair = with_thread 0 (holding 2 0 (1, 7) (thread_of no_pair pairs 0)) (with_queue 0 0 ((1, 8) ∷ []) pairs)

-- and has completed it
abbrev pub completed_pair : State Pair
completed_pair = with_thread 0 (thread_with [] 0 0 no_pair 1) (take_weight 0 0 1 (with_entry (1, 7) 0 fetched_pair))

pub record ItemExamples : Type 0 where
  pub waits : waiting_for 2 pairs 0 ≡ (1, 7) ∷ (1, 8) ∷ (2, 7) ∷ []
  pub waits_too : waiting_for 2 pairs 1 ≡ (3, 9) ∷ []
  -- 10 + 3, and 7 − 2
  pub load : workload 2 pairs 0 ≡ pos 13
  pub load_too : workload 2 pairs 1 ≡ pos 5
  -- one item fewer waits and the pair is in hand: its weight stays
  pub leaves : waiting_for 2 fetched_pair 0 ≡ (1, 8) ∷ (2, 7) ∷ []
  pub as_heavy : workload 2 fetched_pair 0 ≡ pos 13
  pub holds : thread_of no_pair fetched_pair 0 ≡ thread_with [] 0 1 (1, 7) 1
  -- then task 1's weight has left
  pub lighter : workload 2 completed_pair 0 ≡ pos 8
  -- worker 1's pair recorded, with its worker
  pub recorded : (with_entry (2, 9) 1 pairs).executed ≡ entry_of (0, 6) 1 ∷ entry_of (2, 9) 1 ∷ []

pub item-examples : ItemExamples
unfolding joined cell with_cell sum_to_z waiting_for
item-examples = record { waits = refl; waits_too = refl; load = refl; load_too = refl; leaves = refl; as_heavy = refl; holds = refl; lighter = refl; recorded = refl }
