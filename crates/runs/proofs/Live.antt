-- Where a run isn't finished and a worker has something to do, its step is accepted: Start with a fetched task, Complete with a running one,
-- Fetch where a task waits for an idle worker. `Honest` holds of every memory that a run reaches.
use Prim.Native.Nat.{ℕ, ◌+◌, ◌*◌, ◌%◌, ◌≤◌, ◌<◌}
use mathlib.Core.Path.{◌≡◌, refl, sym, ap, ◌∙◌}
use mathlib.Core.Logic.{inl, inr}
use mathlib.Core.List.{List, []}
use native.Mathlib.Omega.{arith}
use native.Mathlib.Decide.{ℕ_discrete}
use lib.IntN.{ℤ}
use lib.Signed.{le_z_yes, clash_ℤ}
use Rattle.lists.specs.Lists.{occ}
use Rattle.lists.proofs.Integers.{≤ℤ-trans}
use Rattle.lists.proofs.Sums.{sum-prefix}
use Rattle.task.specs.Refusals.{step_says}
use Rattle.task.specs.Rows.{Acceptance}
use Rattle.task.specs.declared.Limits.{Limits}
use Rattle.task.specs.declared.Step.TheVariants.{Fetch, Start, Complete}
use Rattle.task.specs.declared.StepOutcome.TheVariants.{Moved, Fetched}
use Rattle.ring.specs.Ring.{Empty}
use Rattle.memory.specs.Field as list
use Rattle.rules.specs.Memory.{Mem, tasks, edges, ring_number, head_word, counter_in, succ_count, row_in, held, pointer_in, entries_in, accepted_in}
use Rattle.rules.specs.Updates.{Update}
use Rattle.rules.specs.Steps.{scan, step}
use Rattle.rules.specs.Tables.{Beyond2^30, BadEnds, StopsAt, scanned, scanned_ends, NextTask}
use Rattle.rules.specs.Moves.{Ranged, Completing, sink, inner, Completes}
use Rattle.plans.proofs.Searches.{scan-looked}
use Rattle.rules.proofs.Makes.{allowed-accepted, good-ranged}
use Rattle.algorithm1.specs.State.{Thread, State, thread_of, waiting_for}
use Rattle.algorithm1.specs.Reading.{record_in, thread_in, state_of}
use Rattle.algorithm1.proofs.Readings.{thread-at, phase-at}
use Rattle.system.specs.Stages.{Hand, idle, fetched, running, phase}
use Rattle.runs.specs.Items.{hand_of}
use Rattle.runs.specs.Counters.{Within}
use Rattle.runs.proofs.Hands.{hand-phase, running-held}
use Rattle.runs.proofs.Rings as rings
use Rattle.runs.proofs.Honest.{Honest}
use Rattle.runs.proofs.Weights.{honest-within}

-- a counter of an honest run is far from the range's ends
pub within-range : (c : ℤ) → Within c → ¬ (Beyond2^30 c)
within-range c w (inl h) = clash_ℤ h (≤ℤ-trans (le_z_yes tt) w.low)
within-range c w (inr h) = clash_ℤ h (≤ℤ-trans w.high (le_z_yes tt))

-- the words of worker i
module _ {limits : Limits} {p k : ℕ} {m : Mem} (h : Honest limits p k m) (i : ℕ) (worker : i < p) where
  abbrev state : State
  state = state_of p k m

  -- the row's words are those of the thread
  thread-phase : (x : Hand ℕ) → hand_of (thread_of state i) ≡ x → (thread_of state i).phase ≡ phase x
  thread-phase x e = hand-phase (thread_of state i) (h.sane.phases i) ∙ ap (λ (y : Hand ℕ). phase y) e

  pub row-phase : (x : Hand ℕ) → hand_of (thread_of state i) ≡ x → (row_in m i).phase ≡ phase x
  row-phase x e = sym (phase-at p k m i worker) ∙ thread-phase x e

  pub row-held : (a : ℕ) → hand_of (thread_of state i) ≡ running a → held m i ≡ a
  unfolding thread_in
  row-held a e =
      sym (ap (λ (r : Thread). r.held) (thread-at p k m i worker)) ∙ running-held (thread_of state i) a (thread-phase (running a) e) e

  pub row-pointer : pointer_in m i < p
  unfolding thread_in
  row-pointer = rw (ap (λ (r : Thread). r.pointer) (thread-at p k m i worker)) at (h.sane.pointers i worker)

  -- no more tasks have joined the buffer than are recorded
  pub joined-recorded : (row_in m i).write ≤ entries_in m
  joined-recorded = omega (arith, sum-prefix p (λ j. (row_in m j).write) i worker, h.words.filled)

  -- a task's successors, as the rules read them
  pub task-ranged : (t : ℕ) → t < tasks m → Ranged m t
  task-ranged t l = good-ranged m (h.fits.lengths.list list.succs) t l (h.good t l)

  -- the next task waits
  pub next-waits : (t : ℕ) → NextTask p k i m t → 0 < occ t (waiting_for p state i)
  unfolding state_of
  next-waits t (e, stop, q) = rw q at (rings.next-waits h.fits h.words.ends i worker (record_in m) ℕ_discrete e stop)

  -- the scan comes to no damaged ends
  pub scan-sound : ¬ (BadEnds p k Empty (scanned_ends p i m))
  scan-sound = rings.scan-sound h.fits h.words.ends i worker

  -- where a task waits, the scan stops
  scan-stops-at : ¬ (waiting_for p state i ≡ []) → (e : ℕ) × StopsAt p k Empty (scanned_ends p i m) e
  unfolding state_of
  scan-stops-at = rings.scan-stops-at h.fits h.words.ends i worker (record_in m) row-pointer (scan p k i m) (scan-looked p k i m)

  -- the run isn't finished
  module _ (low : accepted_in m < 3 * tasks m + edges m) where
    pub start-live : (a : ℕ) → hand_of (thread_of state i) ≡ fetched a → Acceptance (step_says (step limits p k i Start m).answer)
    start-live a hand =
        allowed-accepted limits p k i Start m Moved _
        (record {
          fits = h.fits;
          worker = worker;
          phase = row-phase (fetched a) hand;
          low = low;
          made = record { outcome = refl; updates = refl };
        })

    pub complete-live : entries_in m < tasks m → (a : ℕ) → a < tasks m → hand_of (thread_of state i) ≡ running a
        → Acceptance (step_says (step limits p k i Complete m).answer)
    complete-live free a below hand = go (ℕ_discrete (succ_count m (held m i)) 0)
      where
        task : held m i < tasks m
        task = rw (row-held a hand) below

        common : Completing p i m
        common =
            record {
              entries = free;
              task = task-ranged (held m i) task;
              light = h.graph.light (held m i) task;
              counter = within-range (counter_in m (ring_number p i i)) (honest-within h i i worker worker);
            }

        accepts : (us : List Update) → Completes p i m Moved us → Acceptance (step_says (step limits p k i Complete m).answer)
        accepts us c =
            allowed-accepted limits p k i Complete m Moved us
            (record { fits = h.fits; worker = worker; phase = row-phase (running a) hand; low = low; made = c })

        go : Dec (succ_count m (held m i) ≡ 0) → Acceptance (step_says (step limits p k i Complete m).answer)
        go (yes e) = accepts _ (sink (record { common = common; none = e; outcome = refl; updates = refl }))
        go (no n) =
            accepts _
            (inner (record {
              common = common;
              successors = omega (arith, n);
              places = h.words.places i worker;
              room = omega (arith, joined-recorded, free);
              outcome = refl;
              updates = refl;
            }))

    pub fetch-live : hand_of (thread_of state i) ≡ idle → ¬ (waiting_for p state i ≡ [])
        → ((t : ℕ) → 0 < occ t (waiting_for p state i) → t < tasks m) → Acceptance (step_says (step limits p k i Fetch m).answer)
    fetch-live hand some below = go (scan-stops-at some)
      where
        go : (e : ℕ) × StopsAt p k Empty (scanned_ends p i m) e → Acceptance (step_says (step limits p k i Fetch m).answer)
        go (e, stop) =
            allowed-accepted limits p k i Fetch m (Fetched (record { 0 = head_word k m (scanned p i m e) })) _
            (record {
              fits = h.fits;
              worker = worker;
              phase = row-phase idle hand;
              low = low;
              made = record {
                pointer = row-pointer;
                distance = e;
                stop = stop;
                ring = scanned p i m e;
                ring_is = refl;
                filler = (pointer_in m i + e) % p;
                filler_is = refl;
                task = head_word k m (scanned p i m e);
                task_is = refl;
                below = task;
                outcome = refl;
                updates = refl;
              };
            })
          where
            task : head_word k m (scanned p i m e) < tasks m
            task = below (head_word k m (scanned p i m e)) (next-waits (head_word k m (scanned p i m e)) (e, stop, refl))
