-- PROMISE: "A task with p tasks ahead of it in its ring is therefore taken within (p+1)·P accepted fetches of its owner."
use Prim.Native.Nat.{ℕ, ◌<◌}
use mathlib.Core.Path.{◌≡◌, sym, ap, ◌∙◌}
use mathlib.Core.List.{List}
use Rattle.task.specs.Refusals.{task_fetched, outcome_says, step_says}
use Rattle.task.specs.declared.Limits.{Limits}
use Rattle.task.specs.declared.Step.TheVariants.{Fetch}
use Rattle.rules.specs.Memory.{Mem}
use Rattle.rules.specs.Steps.{step}
use Rattle.rules.specs.Moves.{AcceptedStep}
use Rattle.rules.proofs.Moves.{accepted-step}
use Rattle.algorithm1.specs.State.{queue_of}
use Rattle.algorithm1.specs.Algorithm.{Fetches}
use Rattle.algorithm1.specs.Reading.{state_of}
use Rattle.algorithm1.proofs.Readings.{queue-at}
use Rattle.algorithm1.proofs.Accepted.{step-does}
use Rattle.runs.specs.Calls.{Call, plain_calls, memory_of}
use Rattle.runs.specs.Fairness.{fetches, TakenWithin, FairFetching}
use Rattle.runs.proofs.Calls.{plain-laws}
use Rattle.runs.proofs.Honest.{honest-run}
use Rattle.runs.proofs.Invariant.{state-shaped}
use Rattle.runs.proofs.Spares.{pointer_of, spared-fetch, spared, taking, pointer-on}
use Rattle.views.proofs.Turns.{fetches-count, Spared, Turn, Turns, Taken, taken-soon}

module _ (p k : ℕ) where
  abbrev lists : Mem → ℕ → ℕ → List ℕ
  lists m = queue_of (state_of p k m)

  abbrev pointer : Mem → ℕ → ℕ
  pointer m = pointer_of (state_of p k m)

  own_turn : (limits : Limits) (owner : ℕ) (m : Mem) → AcceptedStep limits p k owner Fetch m
      → Turn plain_calls lists pointer task_fetched p owner m (step limits p k owner Fetch m).memory (step_says (step limits p k owner Fetch m).answer)
  own_turn limits owner m a =
      record {
        list = f.list;
        item = f.task;
        takes = taking a.allowed.worker (state-shaped p k m) f;
        moves = pointer-on a.allowed.worker (state-shaped p k m) f;
        answer = a.answered ∙ ap outcome_says f.outcome;
      }
    where
      f : Fetches p owner (state_of p k m) (state_of p k (step limits p k owner Fetch m).memory) a.outcome
      f = (step-does limits p k owner Fetch m a).lines

  other-turn : (limits : Limits) (i : ℕ) (m : Mem) → AcceptedStep limits p k i Fetch m → (owner : ℕ) → ¬ (owner ≡ i)
      → Spared plain_calls lists pointer owner m (step limits p k i Fetch m).memory
  other-turn limits i m a owner n =
      spared-fetch a.allowed.worker (state-shaped p k m) owner n (step-does limits p k i Fetch m a).lines

  turns : Turns plain_calls lists pointer task_fetched p k
  turns =
      record {
        own = λ limits owner m a. own_turn limits owner m (accepted-step limits p k owner Fetch m a);
        others = λ limits i m a. other-turn limits i m (accepted-step limits p k i Fetch m a);
        steps = λ limits i s m e a owner.
            spared (state-shaped p k m) owner s e (step-does limits p k i s m (accepted-step limits p k i s m a));
      }

  -- what is taken from the lists is taken from the rings
  module _ (owner filler t : ℕ) (behind : List ℕ) (owns : owner < p) (fills : filler < p) where
    taken-within : (bound : ℕ) (cs : List Call) (m : Mem) → Taken plain_calls lists fetches task_fetched p k owner filler t behind bound cs m
        → TakenWithin p k owner filler t behind bound cs m
    taken-within bound cs m w =
        record {
          earlier = w.earlier;
          later = w.later;
          limits = w.limits;
          split = w.split;
          same_run = w.same_run;
          number = w.number;
          answered = w.answered;
          added = w.added;
          first = sym (queue-at p k _ owner filler owns fills) ∙ w.first;
          taken = sym (queue-at p k _ owner filler owns fills) ∙ w.taken;
        }

pub fair-fetching : FairFetching
fair-fetching =
    record {
      soon = λ r owner filler owns fills ahead t behind stands further many.
          taken-within r.workers r.slots owner filler t behind owns fills _ further (memory_of r)
          (taken-soon plain_calls (lists r.workers r.slots) (pointer r.workers r.slots) fetches task_fetched r.workers r.slots owner filler t behind
          (fetches-count plain_calls) (turns r.workers r.slots) plain-laws fills (memory_of r) (honest-run r).fits.lengths ahead
          (queue-at r.workers r.slots (memory_of r) owner filler owns fills ∙ stands) further many);
    }
