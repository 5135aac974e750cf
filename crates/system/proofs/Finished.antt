-- A finished run: each item of the job is recorded once, nothing is in another stage, and the number of steps is known.
use Prim.Native.Nat.{ℕ, ◌+◌, ◌*◌, ◌<◌}
use mathlib.Core.Path.{◌≡◌, refl, ◌∙◌}
use mathlib.Core.List.{List, []}
use native.Mathlib.Omega.{arith}
use lib.ListN.{length}
use Rattle.lists.specs.Lists.{occ_of}
use Rattle.lists.proofs.Occurrences.{occ-hit, occ-none}
use Rattle.lists.proofs.Sums.{sum-zero, sum-prefix, occ-full}
use Rattle.system.specs.Stages.{Hand, idle, fetched, running, in_hand, phase, places}
use Rattle.system.specs.System.{Items, State, Invariant}

hand-none : {A : Type 0} (same : Discrete A) (r : Hand A) → ((a : A) → occ_of same a (in_hand r) ≡ 0) → r ≡ idle
hand-none same idle h = refl
hand-none same (fetched a) h = absurd (omega (arith, h a, occ-hit same a a [] refl))
hand-none same (running a) h = absurd (omega (arith, h a, occ-hit same a a [] refl))

module _ {A : Type 0} (same : Discrete A) (G : Items A) (P : ℕ) (all : List A) (each : (a : A) → occ_of same a all ≡ G.want a)
    {s : State A} (v : Invariant same G P s) (full : length s.stages.done ≡ length all) where
  pub finished-record : (a : A) → occ_of same a s.stages.done ≡ G.want a
  unfolding places
  finished-record a = occ-full same s.stages.done all (λ x. omega (arith, v.stage x, each x)) full a ∙ each a

  -- so no item stands elsewhere, and none is blocked
  pub finished-waiting : (i : ℕ) → i < P → s.stages.waiting i ≡ []
  unfolding places
  finished-waiting i h =
      occ-none same (s.stages.waiting i) (λ a. omega (arith, v.stage a, finished-record a, sum-prefix P (λ j. occ_of same a (s.stages.waiting j)) i h))

  pub finished-hand : (i : ℕ) → i < P → s.stages.hand i ≡ idle
  unfolding places
  finished-hand i h =
      hand-none same (s.stages.hand i) (λ a. omega (arith, v.stage a, finished-record a, sum-prefix P (λ j. occ_of same a (in_hand (s.stages.hand j))) i h))

  pub finished-degree : (a : A) → s.degree a ≡ 0
  unfolding places
  finished-degree a = omega (arith, v.stage a, finished-record a)

  pub finished-pending : (i : ℕ) → i < P → s.pending i ≡ []
  finished-pending i h =
      occ-none same (s.pending i) (λ a. omega (arith, v.degree a, finished-degree a, sum-prefix P (λ j. occ_of same a (s.pending j)) i h))

  pub finished-steps : s.steps ≡ 3 * length all + s.dues
  finished-steps =
      omega (
        arith,
        v.count,
        full,
        sum-zero P (λ i. length (s.pending i)) (λ i h. rw (finished-pending i h)),
        sum-zero P (λ i. phase (s.stages.hand i)) (λ i h. rw (finished-hand i h)),
      )
