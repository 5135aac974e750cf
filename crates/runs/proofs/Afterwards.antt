-- A finished run is at rest: every ring and every buffer is empty, every worker idle and every degree 0. A step with begin's P and K, limits that these and
-- N and E keep, and a worker below P then only ever meets 9 and 10: Fetch and Release find nothing there, Start and Complete don't suit the phase.
use Prim.Native.Nat.{ℕ, ◌+◌, ◌%◌, ◌<◌}
use mathlib.Core.Path.{◌≡◌, refl, sym, ◌∙◌}
use mathlib.Core.Logic.{inl, inr}
use mathlib.Core.List.{[]}
use native.Mathlib.Omega.{arith}
use native.Mathlib.Decide.{ℕ_discrete}
use native.Mathlib.Nat.{mod-lt}
use Rattle.task.specs.Refusals.{nothing_there}
use Rattle.task.specs.declared.Step.TheVariants.{Fetch, Start, Complete, Release}
use Rattle.ring.specs.Ring.{Sound, Empty}
use Rattle.ring.proofs.Queues.{queue-empty}
use Rattle.rules.specs.Memory.{Mem, graph_in, ring_number, ends_in, rings_in, degree_in, row_in, pointer_in}
use Rattle.rules.specs.Sizes.{Fits}
use Rattle.rules.specs.Tables.{GoesOn, scanned_ends}
use Rattle.rules.proofs.Follows.{step_follows}
use Rattle.algorithm1.specs.State.{State}
use Rattle.algorithm1.specs.Reading.{queue_in, state_of}
use Rattle.algorithm1.proofs.Readings.{degree-at, queue-at}
use Rattle.system.specs.Stages.{idle}
use Rattle.system.proofs.Finished.{finished-waiting, finished-hand, finished-degree, finished-pending}
use Rattle.runs.specs.Calls.{Run, memory_of, view_of}
use Rattle.runs.specs.Demand.{Finished}
use Rattle.runs.specs.Corollaries.{FinishedSays}
use Rattle.runs.specs.AtRest.{AtRest}
use Rattle.runs.proofs.Invariant.{meaning}
use Rattle.runs.proofs.Begun.{all_listed}
use Rattle.runs.proofs.Waiting.{waiting_none}
use Rattle.views.proofs.Idle.{unsuited, own_row}
use Rattle.runs.proofs.Honest.{system_in, ends-sound, honest-under, honest-run}
use Rattle.runs.proofs.Live.{row-phase, row-pointer, scan-sound}
use Rattle.runs.proofs.LiveRelease.{places-good, pending-none}
use Rattle.runs.proofs.Demand.{invariant-run, all-recorded, finished-full}

module _ (r : Run) (f : Finished (view_of r)) where
  abbrev p : ℕ
  p = r.workers

  abbrev k : ℕ
  k = r.slots

  abbrev now : Mem
  now = memory_of r

  abbrev state : State
  state = state_of p k now

  queue-none : (i j : ℕ) → i < p → j < p → queue_in p k now i j ≡ []
  unfolding meaning
  queue-none i j hi hj =
      sym (queue-at p k now i j hi hj)
      ∙ waiting_none p state i
      (finished-waiting ℕ_discrete _ p _ (all_listed (graph_in now)) {s = system_in p k now} (invariant-run r) (all-recorded r (finished-full r f)) i hi)
      j hj

  ring-empty : (i j : ℕ) → i < p → j < p → Sound k (ends_in now (ring_number p i j)) × Empty (ends_in now (ring_number p i j))
  ring-empty i j hi hj = (sound, (queue-empty 0 k (rings_in now) (ring_number p i j) sound).1 (queue-none i j hi hj))
    where
      sound : Sound k (ends_in now (ring_number p i j))
      sound = ends-sound (honest-run r) i hi j hj

  phase-idle : (i : ℕ) → i < p → ◌≡◌ {A = ℕ} (row_in now i).phase 0
  unfolding meaning
  phase-idle i h =
      row-phase (honest-run r) i h idle
      (finished-hand ℕ_discrete _ p _ (all_listed (graph_in now)) {s = system_in p k now} (invariant-run r) (all-recorded r (finished-full r f)) i h)

  buffer-empty : (i : ℕ) → i < p → (row_in now i).read ≡ (row_in now i).write
  unfolding meaning
  buffer-empty i h =
      pending-none (honest-run r) i h
      (finished-pending ℕ_discrete _ p _ (all_listed (graph_in now)) {s = system_in p k now} (invariant-run r) (all-recorded r (finished-full r f)) i h)

  degree-none : (t : ℕ) → ◌≡◌ {A = ℕ} (degree_in now t) 0
  unfolding meaning
  degree-none t =
      sym (degree-at p k now t)
      ∙ finished-degree ℕ_discrete _ p _ (all_listed (graph_in now)) {s = system_in p k now} (invariant-run r) (all-recorded r (finished-full r f)) t

  pub rests : AtRest (view_of r)
  rests = record { queues = queue-none; rings = ring-empty; phases = phase-idle; buffers = buffer-empty; degrees = degree-none }

  -- the scan finds all P rings empty
  pub scan-none : (i : ℕ) → i < p → GoesOn k Empty (scanned_ends p i now) p
  scan-none i worker d h = ring-empty i ((pointer_in now i + d) % p) worker (mod-lt (pointer_in now i + d) (honest-run r).fits.limits.one_worker)

  pub finished-says : FinishedSays (view_of r)
  finished-says i worker limits w = (
    own_row limits p k i Fetch now (step_follows limits p k i Fetch now) fits worker free refl nothing_there 0
        (inr (λ d c. omega (arith, row-pointer (honest-run r) i worker, c.1), inr (λ d c. scan-sound (honest-run r) i worker c.1, inl (refl, (refl, scan-none i worker))))),
    unsuited limits p k i Start now (step_follows limits p k i Start now) fits worker free (λ e. omega (arith, e)),
    unsuited limits p k i Complete now (step_follows limits p k i Complete now) fits worker free (λ e. omega (arith, e)),
    own_row limits p k i Release now (step_follows limits p k i Release now) fits worker free refl nothing_there 0
        (inr (λ d c. places-good (honest-run r) i worker c.1, inl (refl, (refl, buffer-empty i worker)))),
  )
    where
      free : ◌≡◌ {A = ℕ} (row_in now i).phase 0
      free = phase-idle i worker

      fits : Fits limits p k now
      fits = (honest-under r limits w).fits
