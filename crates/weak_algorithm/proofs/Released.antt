-- An accepted Release of a weak job is Algorithm 1's, one pass of its lines 16 to 26, whatever the lent memory holds.
use Prim.Native.Nat.{ℕ, ◌+◌, ◌<◌}
use mathlib.Core.Path.{◌≡◌, refl, ◌∙◌}
use mathlib.Core.List.{List, ◌∷◌}
use lib.ListN.{length}
use lib.IntN.{ℤ, pos, ◌+ℤ◌}
use Rattle.lists.specs.Circles.{after}
use Rattle.task.specs.Phases.{suits}
use Rattle.task.specs.declared.Limits.{Limits}
use Rattle.task.specs.declared.Step.TheVariants.{Release}
use Rattle.weak_task.specs.Types.{copy}
use Rattle.weak_task.specs.declared.WeakOutcome.{WeakOutcome}
use Rattle.ring.specs.Ring.{capacity, Sound, Full, tail_on, appended_at}
use Rattle.choice.specs.Form.{Form}
use Rattle.choice.proofs.Least.{least-same}
use Rattle.choice.proofs.Form.{Chooses}
use Rattle.memory.specs.Family.{Places}
use Rattle.memory.specs.Updates.{updated, written}
use Rattle.plans.specs.Sizes.{Lengths, Fits}
use Rattle.weak_rules.specs.Memory.{weak, Mem, ring_number, ends_in, weight_in, row_in, succ_count, oldest, successor}
use Rattle.weak_rules.specs.Updates.{Update, put_accepted}
use Rattle.weak_rules.specs.Moves as moves
use Rattle.weak_rules.specs.Moves.{Advances, next, last, Releasing}
use Rattle.split_lists.specs.Items.{successors_of, queue_of}
use Rattle.split_lists.specs.Moves.{First, passed}
use Rattle.split_lists.proofs.Readings.{state-same}
use Rattle.split_lists.proofs.Memories.{between, thread_from, counters-put, first-lt}
use Rattle.split_lists.proofs.Lists.{has_room, queues-appended, first-room}
use Rattle.split_lists.proofs.Buffers.{buffer-is, cursor-inside, successor-is, thread-next, thread-last}
use Rattle.weak_algorithm.specs.State.{no_item, thread_of}
use Rattle.weak_algorithm.specs.Algorithm.{Passes, Releases, first, later}
use Rattle.weak_algorithm.specs.Reading.{record_in, state_of}
use Rattle.weak_algorithm.proofs.Readings.{phase-at, tid-at}
use Rattle.weak_algorithm.proofs.Memories.{states-same, state-after}

module _ (p k i : ℕ) (m : Mem) (worker : i < p) (lengths : Lengths p k m) where
  -- lines 15 and 16: the successor at the cursor is the one that Algorithm 1 passes
  passes : (to : Places) → ◌≡◌ {A = ℕ} (row_in m i).phase 0 → Releasing i m to
      → Passes i (state_of p k m) (successor m i) (oldest m i) (thread_from m i (weak.with_places to (row_in m i)))
  unfolding state_of
  passes to phase f =
      record {
        phase = phase-at p k m i worker ∙ phase;
        rest = rest;
        buffer = buffer-is p k i m (record_in m) no_item worker f.not_empty f.places;
        inside = cursor-inside p k i m (record_in m) no_item worker lengths f.task f.cursor;
        successor = successor-is p k i m (record_in m) no_item worker lengths f.task f.cursor;
        thread = goes_on to f.advances;
      }
    where
      rest : List ℕ
      rest = between m i ((row_in m i).read + 1) (row_in m i).write

      -- the row advances as the thread does
      goes_on : (to : Places) → Advances (succ_count m (oldest m i)) (row_in m i) to
          → thread_from m i (weak.with_places to (row_in m i))
          ≡ passed (length (successors_of (state_of p k m).lists (oldest m i))) rest (thread_of (state_of p k m) i)
      goes_on to (next h) = thread-next p k i m (record_in m) no_item worker lengths f.task f.cursor h
      goes_on to (last h) = thread-last p k i m (record_in m) no_item worker lengths f.task f.cursor f.not_empty f.places h

-- a Release by a form that chooses among P workers, whose sums the loads W are of its candidates
module _ (form : Form) (W : ℕ → ℤ) (limits : Limits) (p k i : ℕ) (m : Mem) (chooses : Chooses p form)
    (same : (h : ℕ) → form.Candidate h → W h ≡ form.sum h) (fits : Fits limits p k m) (worker : i < p) (n : ℕ) where
  -- line 18: "if tid_{T_s} = NIL"
  first_does : (o : WeakOutcome) (us : List Update) → (row_in m i).phase ≡ suits Release → moves.ReleasesFirst form p k i m o us
      → Releases form.Candidate W p (capacity k) i (state_of p k m) (state_of p k (written (put_accepted n ∷ us) m)) o
  unfolding written updated state_of appended_at tail_on after
  first_does o us phase f =
      rw (f.updates, f.ring_is)
      (first (record {
        task = successor m i;
        oldest = oldest m i;
        next = thread_from m i (weak.with_places f.to (row_in m i));
        pass = passes p k i m worker fits.lengths f.to phase f.common;
        unfixed = tid-at p k m (successor m i) ∙ f.first;
        target = f.target;
        least = least-same same f.least;
        owner = f.owner;
        room = room;
        after =
            state-after p k i m worker fits.lengths _ _ _ _ _ n
            ∙ states-same
            (state-same refl refl refl
            (queues-appended p k i m (record_in m) worker f.owner (first-lt room) sound free fits.lengths (copy (successor m i) (oldest m i)))
            -- line 22: "W_j = W_j + w_{T_s}"
            (counters-put p f.owner i (first-lt room) worker k m fits.lengths (record_in m) (λ c. c +ℤ pos (weight_in m (successor m i))))
            refl refl)
            refl;
        outcome = f.outcome;
      }))
    where
      room : First p (λ h. form.Candidate h × (length (queue_of (state_of p k m).lists h i) < capacity k)) f.target f.owner
      room =
          rw f.owner_is
          (first-room p k i m (record_in m) worker form.Candidate chooses.below f.target (form.offered f.target)
          (chooses.offers f.target f.least.candidate) f.place f.stop)

      sound : Sound k (ends_in m (ring_number p f.owner i))
      sound = rw f.owner_is f.stop.sound

      free : ¬ (Full k (ends_in m (ring_number p f.owner i)))
      free = rw f.owner_is f.stop.stops

  -- line 23: "else"
  later-does : (o : WeakOutcome) (us : List Update) → (row_in m i).phase ≡ suits Release → moves.ReleasesLater p k i m o us
      → Releases form.Candidate W p (capacity k) i (state_of p k m) (state_of p k (written (put_accepted n ∷ us) m)) o
  unfolding written updated state_of appended_at tail_on after
  later-does o us phase f =
      rw (f.updates, f.ring_is)
      (later (record {
        task = successor m i;
        oldest = oldest m i;
        next = thread_from m i (weak.with_places f.to (row_in m i));
        pass = passes p k i m worker fits.lengths f.to phase f.common;
        owner = f.owner;
        fixed = tid-at p k m (successor m i) ∙ f.fixed;
        worker = f.worker;
        room = has_room p k i m (record_in m) worker f.owner f.worker sound free;
        after =
            state-after p k i m worker fits.lengths _ _ _ _ _ n
            ∙ states-same
            (state-same refl refl refl
            (queues-appended p k i m (record_in m) worker f.owner f.worker sound free fits.lengths (copy (successor m i) (oldest m i)))
            refl refl refl)
            refl;
        outcome = f.outcome;
      }))
    where
      sound : Sound k (ends_in m (ring_number p f.owner i))
      sound = rw f.ring_is at f.sound

      free : ¬ (Full k (ends_in m (ring_number p f.owner i)))
      free = rw f.ring_is at f.room

  -- an accepted Release is Algorithm 1's; the phase is the one that suits it
  pub release-does : (o : WeakOutcome) (us : List Update) → (row_in m i).phase ≡ suits Release → moves.Releases form p k i m o us
      → Releases form.Candidate W p (capacity k) i (state_of p k m) (state_of p k (written (put_accepted n ∷ us) m)) o
  release-does o us phase (moves.first f) = first_does o us phase f
  release-does o us phase (moves.later f) = later-does o us phase f
