-- How much a job can have in its stages: no more than all its items; and how many steps an unfinished run can have made.
use Prim.Native.Nat.{ℕ, ◌+◌, ◌*◌, ◌≤◌, ◌<◌}
use mathlib.Core.Path.{◌≡◌}
use mathlib.Core.List.{List, ◌++◌}
use native.Mathlib.Omega.{arith}
use lib.ListN.{length}
use Rattle.lists.specs.Lists.{occ_of, joined}
use Rattle.lists.specs.Sums.{sum_to, sum_of}
use Rattle.lists.proofs.Occurrences.{occ-append, occ-joined}
use Rattle.lists.proofs.Sums.{sum_same, sum-le, sum_twice, sum_of-one, sum_of-append, sum_of-joined, sum_of-within}
use Rattle.system.specs.Stages.{Hand, idle, fetched, running, in_hand, phase, Stages, places}
use Rattle.system.specs.System.{Items, State, Invariant}

phase-le : {A : Type 0} (r : Hand A) → phase r ≤ 2 * length (in_hand r)
phase-le idle = omega arith
phase-le (fetched a) = omega arith
phase-le (running a) = omega arith

module _ {A : Type 0} (same : Discrete A) (G : Items A) (P : ℕ) (all : List A) (each : (a : A) → occ_of same a all ≡ G.want a) where
  -- the items that aren't blocked, in one list
  placed : Stages A → List A
  placed s = (joined P s.waiting ++ joined P (λ i. in_hand (s.hand i))) ++ s.done

  placed-within : {s : State A} → Invariant same G P s → (a : A) → occ_of same a (placed s.stages) ≤ occ_of same a all
  unfolding placed places
  placed-within {s} v a =
      omega (
        arith,
        v.stage a,
        each a,
        occ-append same a (joined P s.stages.waiting ++ joined P (λ i. in_hand (s.stages.hand i))) s.stages.done,
        occ-append same a (joined P s.stages.waiting) (joined P (λ i. in_hand (s.stages.hand i))),
        occ-joined same a P s.stages.waiting,
        occ-joined same a P (λ i. in_hand (s.stages.hand i)),
      )

  pub weight-within : (w : A → ℕ) {s : State A} → Invariant same G P s
      → sum_to P (λ i. sum_of w (s.stages.waiting i)) + sum_to P (λ i. sum_of w (in_hand (s.stages.hand i))) + sum_of w s.stages.done ≤ sum_of w all
  unfolding placed
  weight-within w {s} v =
      omega (
        arith,
        sum_of-within same w (placed s.stages) all (placed-within v),
        sum_of-append w (joined P s.stages.waiting ++ joined P (λ i. in_hand (s.stages.hand i))) s.stages.done,
        sum_of-append w (joined P s.stages.waiting) (joined P (λ i. in_hand (s.stages.hand i))),
        sum_of-joined w P s.stages.waiting,
        sum_of-joined w P (λ i. in_hand (s.stages.hand i)),
      )

  -- the items that are recorded or in a hand
  pub held-few : {s : State A} → Invariant same G P s → length s.stages.done + sum_to P (λ i. length (in_hand (s.stages.hand i))) ≤ length all
  held-few {s} v =
      omega (
        arith,
        weight-within (λ a. 1) v,
        sum_same P (λ i. length (in_hand (s.stages.hand i))) (λ i. sum_of (λ a. 1) (in_hand (s.stages.hand i))) (λ i l. sum_of-one (in_hand (s.stages.hand i))),
        sum_of-one s.stages.done,
        sum_of-one all,
      )

  -- a run that isn't finished has made fewer steps than a finished one
  pub below_all : {s : State A} → Invariant same G P s → length s.stages.done < length all → (most : ℕ) → s.dues ≤ most
      → s.steps < 3 * length all + most
  below_all {s} v h most few =
      omega (
        arith,
        h,
        v.count,
        held-few v,
        few,
        sum-le P (λ i. phase (s.stages.hand i)) (λ i. 2 * length (in_hand (s.stages.hand i))) (λ i l. phase-le (s.stages.hand i)),
        sum_twice P (λ i. length (in_hand (s.stages.hand i))),
      )
