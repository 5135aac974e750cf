-- An accepted Release of document 01 is Algorithm 1's, one pass of its lines 6 to 12, whatever the lent memory holds.
use Prim.Native.Nat.{ℕ, ◌+◌, ◌-◌, ◌<◌}
use mathlib.Core.Path.{◌≡◌, refl, ap, ◌∙◌}
use mathlib.Core.List.{List, ◌∷◌}
use native.Mathlib.Omega.{arith}
use lib.ListN.{length, set}
use lib.IntN.{ℤ, pos, ◌+ℤ◌}
use Rattle.lists.specs.Circles.{after}
use Rattle.task.specs.Types.{nil}
use Rattle.task.specs.Phases.{suits}
use Rattle.task.specs.declared.Limits.{Limits}
use Rattle.task.specs.declared.Step.TheVariants.{Release}
use Rattle.task.specs.declared.StepOutcome.{StepOutcome}
use Rattle.ring.specs.Ring.{capacity, Sound, Full, tail_on, appended_at}
use Rattle.choice.specs.Form.{Form}
use Rattle.choice.proofs.Least.{least-same}
use Rattle.choice.proofs.Form.{Chooses}
use Rattle.memory.specs.Family.{Places}
use Rattle.memory.specs.Updates.{updated, written}
use Rattle.rules.specs.Memory.{Mem, ring_number, ends_in, weight_in, degree_in, row_in, moved_to, succ_count, oldest, successor}
use Rattle.rules.specs.Sizes.{Lengths, Fits}
use Rattle.rules.specs.Updates.{Update, put_accepted}
use Rattle.rules.specs.Moves as moves
use Rattle.rules.specs.Moves.{Advances, next, last, Releasing, waiting, placed}
use Rattle.split_lists.proofs.Memories.{between, thread_from, counters-put}
use Rattle.split_lists.proofs.Lists.{queues-appended, first-room}
use Rattle.split_lists.proofs.Buffers.{buffer-is, cursor-inside, successor-is, thread-next, thread-last}
use Rattle.algorithm1.specs.State.{successors_of, queue_of, thread_of}
use Rattle.algorithm1.specs.Algorithm.{First, passed, Passes, Releases, lowers, allocates}
use Rattle.algorithm1.specs.Reading.{record_in, state_of}
use Rattle.algorithm1.proofs.Readings.{state-same, degree-at, phase-at}
use Rattle.algorithm1.proofs.Memories.{state-after, first-lt}

module _ (p k i : ℕ) (m : Mem) (worker : i < p) (lengths : Lengths p k m) where
  -- line 6: the successor at the cursor is the one that Algorithm 1 passes
  passes : (to : Places) → ◌≡◌ {A = ℕ} (row_in m i).phase 0 → Releasing i m to
      → Passes i (state_of p k m) (successor m i) (thread_from m i (moved_to to (row_in m i)))
  unfolding state_of
  passes to phase f =
      record {
        phase = phase-at p k m i worker ∙ phase;
        oldest = oldest m i;
        rest = rest;
        buffer = buffer-is p k i m (record_in m) nil.0 worker f.not_empty f.places;
        inside = cursor-inside p k i m (record_in m) nil.0 worker lengths f.task f.cursor;
        successor = successor-is p k i m (record_in m) nil.0 worker lengths f.task f.cursor;
        waits = rw (degree-at p k m (successor m i)) f.positive;
        thread = goes_on to f.advances;
      }
    where
      rest : List ℕ
      rest = between m i ((row_in m i).read + 1) (row_in m i).write

      -- the row advances as the thread does
      goes_on : (to : Places) → Advances (succ_count m (oldest m i)) (row_in m i) to
          → thread_from m i (moved_to to (row_in m i)) ≡ passed (length (successors_of (state_of p k m) (oldest m i))) rest (thread_of (state_of p k m) i)
      goes_on to (next h) = thread-next p k i m (record_in m) nil.0 worker lengths f.task f.cursor h
      goes_on to (last h) = thread-last p k i m (record_in m) nil.0 worker lengths f.task f.cursor f.not_empty f.places h

-- a Release by a sane form, whose sums the loads W are of its candidates
module _ (form : Form) (W : ℕ → ℤ) (limits : Limits) (p k i : ℕ) (m : Mem) (sane : Chooses p form) (same : (h : ℕ) → form.Candidate h → W h ≡ form.sum h)
    (fits : Fits limits p k m) (worker : i < p) (n : ℕ) where
  waiting-does : (o : StepOutcome) (us : List Update) → (row_in m i).phase ≡ suits Release → moves.ReleasesWaiting i m o us
      → Releases form.Candidate W p (capacity k) i (state_of p k m) (state_of p k (written (put_accepted n ∷ us) m)) o
  unfolding written updated state_of
  waiting-does o us phase f =
      rw f.updates
      (lowers (record {
        task = successor m i;
        next = thread_from m i (moved_to f.to (row_in m i));
        pass = passes p k i m worker fits.lengths f.to phase f.common;
        some = λ z. f.not_ready (omega (arith, z, f.common.positive));
        after =
            state-after p k i m worker fits.lengths _
            (set m.degrees (successor m i) (degree_in m (successor m i) - 1)) m.rings m.ends m.counters n;
        outcome = f.outcome;
      }))

  placed-does : (o : StepOutcome) (us : List Update) → (row_in m i).phase ≡ suits Release → moves.ReleasesPlaced form p k i m o us
      → Releases form.Candidate W p (capacity k) i (state_of p k m) (state_of p k (written (put_accepted n ∷ us) m)) o
  unfolding written updated state_of appended_at tail_on after
  placed-does o us phase f =
      rw (f.updates, f.ring_is)
      (allocates (record {
        task = successor m i;
        next = thread_from m i (moved_to f.to (row_in m i));
        pass = passes p k i m worker fits.lengths f.to phase f.common;
        zero = omega (arith, f.ready);
        target = f.target;
        least = least-same same f.least;
        owner = f.owner;
        room = room;
        after =
            state-after p k i m worker fits.lengths _ _ _ _ _ n
            ∙ state-same refl refl
            (ap (λ (d : ℕ). set m.degrees (successor m i) d) (omega (arith, f.ready)))
            (queues-appended p k i m (record_in m) worker f.owner (first-lt room) sound free fits.lengths (successor m i))
            -- line 10: "W_j = W_j + w_T"
            (counters-put p f.owner i (first-lt room) worker k m fits.lengths (record_in m) (λ c. c +ℤ pos (weight_in m (successor m i))))
            refl refl;
        outcome = f.outcome;
      }))
    where
      room : First p (λ h. form.Candidate h × (length (queue_of (state_of p k m) h i) < capacity k)) f.target f.owner
      room =
          rw f.owner_is
          (first-room p k i m (record_in m) worker form.Candidate sane.below f.target (form.offered f.target)
          (sane.offers f.target f.least.candidate) f.place f.stop)

      sound : Sound k (ends_in m (ring_number p f.owner i))
      sound = rw f.owner_is f.stop.sound

      free : ¬ (Full k (ends_in m (ring_number p f.owner i)))
      free = rw f.owner_is f.stop.stops

  -- an accepted Release is Algorithm 1's; the phase is the one that suits it
  pub release-does : (o : StepOutcome) (us : List Update) → (row_in m i).phase ≡ suits Release → moves.Releases form p k i m o us
      → Releases form.Candidate W p (capacity k) i (state_of p k m) (state_of p k (written (put_accepted n ∷ us) m)) o
  release-does o us phase (waiting f) = waiting-does o us phase f
  release-does o us phase (placed f) = placed-does o us phase f
