-- An accepted Fetch and an accepted Start of document 01 are Algorithm 1's, whatever the lent memory holds.
use Prim.Native.Nat.{ℕ, ◌+◌, ◌%◌, ◌<◌}
use mathlib.Core.Path.{◌≡◌, refl, sym, ap, ◌∙◌}
use mathlib.Core.List.{List, ◌∷◌}
use Rattle.lists.specs.Circles.{after}
use Rattle.task.specs.Types.{idle}
use Rattle.task.specs.Phases.{suits}
use Rattle.task.specs.declared.Limits.{Limits}
use Rattle.task.specs.declared.Step.TheVariants.{Fetch, Start}
use Rattle.task.specs.declared.StepOutcome.{StepOutcome}
use Rattle.ring.specs.Ring.{capacity, head_on, taken_at}
use Rattle.memory.specs.Updates.{updated, written}
use Rattle.memory.proofs.Fields.{set-again}
use Rattle.rules.specs.Memory.{Mem, ring_number, row_in, with_hand, with_pointer}
use Rattle.rules.specs.Sizes.{Fits}
use Rattle.rules.specs.Updates.{Update, put_accepted}
use Rattle.rules.specs.Moves as moves
use Rattle.split_lists.proofs.Lists.{first-waiting, rest, queue-taken, queues-taken}
use Rattle.algorithm1.specs.Algorithm.{Lines}
use Rattle.algorithm1.specs.Reading.{buffer_in, thread_in, record_in, state_of}
use Rattle.algorithm1.proofs.Readings.{state-same, thread-at, phase-at}
use Rattle.algorithm1.proofs.Memories.{state-after, first-lt}

module _ (limits : Limits) (p k i : ℕ) (m : Mem) (fits : Fits limits p k m) (worker : i < p) (n : ℕ) where
  pub start-does : (o : StepOutcome) (us : List Update) → (row_in m i).phase ≡ suits Start → moves.Starts i m o us
      → Lines p (capacity k) i Start (state_of p k m) (state_of p k (written (put_accepted n ∷ us) m)) o
  unfolding written updated state_of thread_in buffer_in
  start-does o us phase f =
      rw f.updates
      (record {
        phase = phase-at p k m i worker ∙ phase;
        after = rw (thread-at p k m i worker) (state-after p k i m worker fits.lengths _ m.degrees m.rings m.ends m.counters n);
        outcome = f.outcome;
      })

  pub fetch-does : (o : StepOutcome) (us : List Update) → (row_in m i).phase ≡ suits Fetch → moves.Fetches p k i m o us
      → Lines p (capacity k) i Fetch (state_of p k m) (state_of p k (written (put_accepted n ∷ us) m)) o
  unfolding state_of written updated taken_at head_on after thread_in buffer_in
  fetch-does o us phase f =
      rw (f.updates, ring-is)
      (record {
        phase = phase-at p k m i worker ∙ phase;
        list = f.filler;
        -- "the scan stops at the first ring that isn't empty"
        first = rw (thread-at p k m i worker, f.filler_is) (first-waiting p k i m (record_in m) worker f.distance f.stop);
        task = f.task;
        rest = rest p k i m (record_in m) worker f.filler filler-lt;
        -- line 15: the list was the task, then the rest
        head =
            rw (f.task_is, ring-is)
            (queue-taken p k i m (record_in m) worker f.filler filler-lt fits.lengths (rw f.filler_is f.stop.sound) (rw f.filler_is f.stop.stops));
        after =
            rw (
              set-again m.rows i (with_hand 1 (record { 0 = f.task }) (row_in m i)) idle (with_pointer ((f.filler + 1) % p)),
              thread-at p k m i worker,
            )
            (state-after p k i m worker fits.lengths _ _ _ _ _ n
            ∙ state-same refl refl refl (queues-taken p k i m (record_in m) worker f.filler filler-lt) refl refl refl);
        outcome = f.outcome;
      })
    where
      filler-lt : f.filler < p
      filler-lt = rw f.filler_is (first-lt (first-waiting p k i m (record_in m) worker f.distance f.stop))

      ring-is : f.ring ≡ ring_number p i f.filler
      ring-is = f.ring_is ∙ ap (ring_number p i) (sym f.filler_is)
