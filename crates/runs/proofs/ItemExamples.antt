-- The state of pairs (`crates/algorithm1/proofs/ItemExamples.antt`): where a worker's items stand, and that its counters carry the weight of those that
-- wait and of the one in its hand, a pair weighing what its task does.
use Prim.Native.Nat.{ℕ, zero, suc, ◌<◌}
use mathlib.Core.Path.{◌≡◌, refl}
use mathlib.Core.List.{[], ◌∷◌}
use native.Mathlib.Omega.{arith}
use lib.IntN.{pos}
use Rattle.lists.specs.Lists.{joined}
use Rattle.lists.specs.Squares.{cell, with_cell}
use Rattle.lists.specs.Sums.{sum_to, sum_to_z, sum_of}
use Rattle.algorithm1.specs.Items.{State, weight_of, waiting_for, workload}
use Rattle.split_lists.proofs.ItemExamples.{Pair, no_pair, pairs, fetched_pair, completed_pair}
use Rattle.runs.specs.Items.{hand_of, waiting, held, charged, tasks_at, tasks_at_all, AddsUp}
use Rattle.runs.proofs.Invariant.{tasks_of}
use Rattle.runs.proofs.ItemCounters.{left}
use Rattle.runs.proofs.ItemBounds.{placed}

abbrev pub pair_weight : Pair → ℕ
pair_weight a = weight_of pairs a.0

pub record ItemExamples : Type 0 where
  -- worker 1 has one pair waiting and one in hand; its counters carry both; worker 0's hand is empty
  pub stand : tasks_at_all no_pair 2 pairs 1 (waiting ∷ held ∷ []) ≡ (3, 9) ∷ (2, 9) ∷ []
  pub carried : tasks_at_all no_pair 2 pairs 1 charged ≡ (3, 9) ∷ (2, 9) ∷ []
  pub empty : tasks_at_all no_pair 2 pairs 0 (held ∷ []) ≡ []
  -- 13 is 5 + 5 + 3, and 5 is task 3's 2 and task 2's 3
  pub adds_up : AddsUp no_pair pair_weight 2 pairs
  -- worker 0 takes a pair of weight 5 in hand, which still counts, and completes it: then it counts no more
  pub fetched_too : AddsUp no_pair pair_weight 2 fetched_pair
  pub completed_too : AddsUp no_pair pair_weight 2 completed_pair
  -- 4 recorded have left the counters; with the 13 and the 2 that wait and the 3 in hand, 22 have been placed
  pub gone : ◌≡◌ {A = ℕ} (left pair_weight pairs) 4
  pub all : ◌≡◌ {A = ℕ} (placed no_pair pair_weight 2 pairs) 22

pub item-examples : ItemExamples
unfolding joined cell with_cell sum_to sum_to_z sum_of waiting_for hand_of tasks_at tasks_at_all tasks_of left placed
item-examples =
    record {
      stand = refl;
      carried = refl;
      empty = refl;
      adds_up = each pairs refl refl;
      fetched_too = each fetched_pair refl refl;
      completed_too = each completed_pair refl refl;
      gone = refl;
      all = refl;
    }
  where
    each : (s : State Pair) → workload 2 s 0 ≡ pos (sum_of pair_weight (tasks_at_all no_pair 2 s 0 charged))
        → workload 2 s 1 ≡ pos (sum_of pair_weight (tasks_at_all no_pair 2 s 1 charged)) → AddsUp no_pair pair_weight 2 s
    each s first second = record { worker = at }
      where
        at : (i : ℕ) → i < 2 → workload 2 s i ≡ pos (sum_of pair_weight (tasks_at_all no_pair 2 s i charged))
        at zero h = first
        at (suc zero) h = second
        at (suc (suc i)) h = absurd (omega (arith, h))
