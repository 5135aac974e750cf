-- PROMISE: a finished weak run is at rest: every ring and every buffer is empty, every worker idle and every degree 0. A step with begin's P and K, limits
-- that these and N and E keep, and a worker below P then only ever meets 9 and 10: Fetch and Release find nothing there, Start and Complete don't
-- suit the phase.
use Prim.Native.Nat.{ℕ, ◌+◌}
use mathlib.Core.Path.{◌≡◌, refl}
use mathlib.Core.Logic.{inl, inr}
use native.Mathlib.Omega.{arith}
use Rattle.task.specs.Refusals.{nothing_there}
use Rattle.task.specs.declared.Step.TheVariants.{Fetch, Start, Complete, Release}
use Rattle.plans.specs.Sizes.{Fits}
use Rattle.weak_rules.specs.Memory.{Mem, edges, row_in, roots_word, entries_in}
use Rattle.weak_rules.proofs.Follows.{step_follows}
use Rattle.views.proofs.Idle.{unsuited, own_row}
use Rattle.weak_runs.specs.Calls.{Run, memory_of, view_of}
use Rattle.weak_runs.specs.Demand.{Finished}
use Rattle.weak_runs.specs.Corollaries.{FinishedSays}
use Rattle.weak_runs.specs.AtRest.{AtRest}
use Rattle.weak_runs.proofs.Honest.{honest-under, honest-run}
use Rattle.weak_runs.proofs.Live.{row-pointer, scan-sound}
use Rattle.weak_runs.proofs.LiveRelease.{places-good}
use Rattle.weak_runs.proofs.Full.{rest-phase, rest-buffer, rest-scan, rests-from}
use Rattle.weak_runs.proofs.Ranges.{ranges-run}
use Rattle.weak_runs.proofs.Demand.{record-full}

module _ (r : Run) (f : Finished (view_of r)) where
  abbrev p : ℕ
  p = r.workers

  abbrev k : ℕ
  k = r.slots

  abbrev now : Mem
  now = memory_of r

  full : entries_in now ≡ edges now + roots_word now
  full = record-full r f

  pub rests : AtRest (view_of r)
  rests = rests-from r (honest-run r) (ranges-run r) full

  pub finished-says : FinishedSays (view_of r)
  finished-says i worker limits w = (
    own_row limits p k i Fetch now (step_follows limits p k i Fetch now) fits worker free refl nothing_there 0
        (inr (
          λ d c. omega (arith, row-pointer (honest-run r) i worker, c.1),
          inr (λ d c. scan-sound (honest-run r) i worker c.1, inl (refl, (refl, rest-scan (honest-run r) full i worker))),
        )),
    unsuited limits p k i Start now (step_follows limits p k i Start now) fits worker free (λ e. omega (arith, e)),
    unsuited limits p k i Complete now (step_follows limits p k i Complete now) fits worker free (λ e. omega (arith, e)),
    own_row limits p k i Release now (step_follows limits p k i Release now) fits worker free refl nothing_there 0
        (inr (
          λ d c. places-good (honest-run r) (ranges-run r) i worker c.1,
          inl (refl, (refl, rest-buffer (honest-run r) full i worker (ranges-run r))),
        )),
  )
    where
      free : ◌≡◌ {A = ℕ} (row_in now i).phase 0
      free = rest-phase (honest-run r) full i worker

      fits : Fits limits p k now
      fits = (honest-under r limits w).fits
