-- The algorithm's own steps between the states of the join, built by hand, and steps of wrong algorithms from the same states, which it hasn't.
use Prim.Native.Nat.{ℕ}
use mathlib.Core.Path.{refl, ap}
use mathlib.Core.List.{[], ◌∷◌}
use native.Mathlib.Omega.{arith}
use lib.IntN.{pos}
use Rattle.lists.specs.Lists.{tabulate, all_of}
use Rattle.lists.specs.Squares.{cell, with_cell}
use Rattle.lists.specs.Sums.{sum_to_z}
use Rattle.lists.proofs.Apart.{unequal, cons-not-nil}
use Rattle.task.specs.Entries.{entry_of}
use Rattle.task.specs.declared.Step.TheVariants.{Fetch, Release}
use Rattle.weak_task.specs.Types.{copy, task_copy}
use Rattle.weak_task.specs.Says.{outcome_says}
use Rattle.weak_task.specs.declared.WeakOutcome.{WeakOutcome}
use Rattle.weak_task.specs.declared.WeakOutcome.TheVariants.{Fetched, Placed}
use Rattle.choice.specs.Least.{least_from, least}
use Rattle.choice.proofs.Least.{least-worker}
use Rattle.split_lists.specs.Items.{thread_with, degree_of, counter_of, workload}
use Rattle.split_lists.specs.Moves.{with_degree, add_weight, take_weight}
use Rattle.weak_algorithm.specs.State.{State}
use Rattle.weak_algorithm.specs.Algorithm.{first, later, with_lists, Does}
use Rattle.weak_algorithm.proofs.Unique.{does-one}
use Rattle.weak_algorithm.proofs.Examples.{join_state, resting, unfixed, first_placed, both_placed}

abbrev placed : ℕ → ℕ → WeakOutcome
placed predecessor owner = Placed (task_copy (copy 2 predecessor)) (record { 0 = owner })

-- worker 0 releases the first copy of task 2 to itself, "the lowest number on equal sums"
pub first-copy : Does 2 4 0 Release unfixed first_placed (placed 0 0)
unfolding tabulate all_of cell with_cell sum_to_z least_from least
first-copy =
    record {
      thread = omega arith;
      few = omega arith;
      lines =
          first (record {
            task = 2;
            oldest = 0;
            next = resting [] 0 1;
            pass = record { phase = refl; rest = []; buffer = refl; inside = omega arith; successor = refl; thread = refl };
            unfixed = refl;
            target = 0;
            least = (least-worker 2 (workload 2 unfixed.lists) (omega arith)).0;
            owner = 0;
            room = record { distance = 0; inside = omega arith; there = refl; is = (omega arith, omega arith); before = λ d l h. omega (arith, l) };
            after = refl;
            outcome = refl;
          });
    }

-- worker 1 releases a later one, to the same worker
pub later-copy : Does 2 4 1 Release first_placed both_placed (placed 1 0)
unfolding cell with_cell
later-copy =
    record {
      thread = omega arith;
      few = omega arith;
      lines =
          later (record {
            task = 2;
            oldest = 1;
            next = resting [] 0 0;
            pass = record { phase = refl; rest = []; buffer = refl; inside = omega arith; successor = refl; thread = refl };
            owner = 0;
            fixed = refl;
            worker = omega arith;
            room = omega arith;
            after = refl;
            outcome = refl;
          });
    }

-- worker 0 fetches the copy at the head of its list 1, at which its pointer stands
abbrev fetched : State
fetched =
    join_state (0 ∷ 0 ∷ 2 ∷ [])
    (((copy 2 0 ∷ []) ∷ [] ∷ []) ∷ ([] ∷ [] ∷ []) ∷ [])
    ((pos 9 ∷ pos 0 ∷ []) ∷ (pos 0 ∷ pos 0 ∷ []) ∷ [])
    (thread_with [] 0 1 (copy 2 1) 0 ∷ resting [] 0 0 ∷ [])
    (entry_of (copy 0 65535) 0 ∷ entry_of (copy 1 65535) 1 ∷ [])
    (0 ∷ 1 ∷ 0 ∷ [])

pub fetch-head : Does 2 4 0 Fetch both_placed fetched (Fetched (task_copy (copy 2 1)))
unfolding cell with_cell
fetch-head =
    record {
      thread = omega arith;
      few = omega arith;
      lines =
          record {
            phase = refl;
            list = 1;
            first = record { distance = 0; inside = omega arith; there = refl; is = cons-not-nil (copy 2 1) []; before = λ d l h. omega (arith, l) };
            item = copy 2 1;
            rest = [];
            head = refl;
            after = refl;
            outcome = refl;
          };
    }

-- "every copy seeks its own target": worker 1's sum is the least
pub no-own-target : (s : State) → ¬ (Does 2 4 1 Release first_placed s (placed 1 1))
no-own-target s d = unequal (cc (ap outcome_says (does-one 2 4 1 Release first_placed both_placed s (placed 1 0) (placed 1 1) later-copy d).1))

-- "the weight joins with each copy"
pub no-weight-again : ¬ (Does 2 4 1 Release first_placed (with_lists (add_weight 0 1 2 both_placed.lists) both_placed) (placed 1 0))
unfolding cell with_cell
no-weight-again d =
    unequal (cc (ap (λ (s : State). counter_of s.lists 0 1) (does-one 2 4 1 Release first_placed both_placed _ (placed 1 0) (placed 1 0) later-copy d).0))

-- "Release lowers the degree too"
pub no-degree-lowered : ¬ (Does 2 4 1 Release first_placed (with_lists (with_degree 2 1 both_placed.lists) both_placed) (placed 1 0))
no-degree-lowered d =
    unequal (cc (ap (λ (s : State). degree_of s.lists 2) (does-one 2 4 1 Release first_placed both_placed _ (placed 1 0) (placed 1 0) later-copy d).0))

-- the weight leaves at Fetch, where source document 000 has line 11
pub no-weight-at-fetch : ¬ (Does 2 4 0 Fetch both_placed (with_lists (take_weight 0 0 2 fetched.lists) fetched) (Fetched (task_copy (copy 2 1))))
unfolding cell with_cell
no-weight-at-fetch d =
    unequal (cc (ap (λ (s : State). counter_of s.lists 0 0) (does-one 2 4 0 Fetch both_placed fetched _ _ _ fetch-head d).0))
