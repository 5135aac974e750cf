-- PROMISE: "A task with p tasks ahead of it in its ring is therefore taken within (p+1)·P accepted fetches of its owner.", of copies.
use Prim.Native.Nat.{ℕ, ◌+◌, ◌%◌, ◌<◌}
use mathlib.Core.Path.{◌≡◌, refl, sym, ap, ◌∙◌}
use mathlib.Core.Bool.{Bool, true, false, cond}
use mathlib.Core.List.{List}
use lib.IntN.{ℤ}
use lib.Dec.{eqb}
use Rattle.lists.proofs.Apart.{unequal}
use Rattle.task.specs.declared.Limits.{Limits}
use Rattle.task.specs.declared.Step.{Step}
use Rattle.task.specs.declared.Step.TheVariants.{Fetch, Start, Complete, Release}
use Rattle.weak_task.specs.Types.{Copy, copy}
use Rattle.weak_task.specs.Says.{copy_fetched, outcome_says, step_says}
use Rattle.weak_task.specs.declared.WeakOutcome.{WeakOutcome}
use Rattle.weak_rules.specs.Memory.{Mem}
use Rattle.weak_rules.specs.Steps.{step}
use Rattle.weak_rules.specs.Moves.{AcceptedStep}
use Rattle.weak_rules.proofs.Moves.{accepted-step}
use Rattle.split_lists.specs.Items.{successors_of, queue_of}
use Rattle.split_lists.specs.Items as items
use Rattle.split_lists.specs.Moves.{holding, executing, buffered, passed}
use Rattle.split_lists.proofs.Memories.{first-lt}
use Rattle.split_lists.proofs.RoundRobin.{Takes}
use Rattle.weak_algorithm.specs.State.{no_item, Thread, State, thread_of}
use Rattle.weak_algorithm.specs.Algorithm.{Fetches, Starts, letting_go, CompletesCopy, CompletesTask, Passes, AllocatesFirst, AllocatesLater, copies, completes, first, later, Lines, Does}
use Rattle.weak_algorithm.specs.Reading.{record_in, state_of}
use Rattle.weak_algorithm.proofs.Readings.{queue-at}
use Rattle.weak_algorithm.proofs.Accepted.{step-does}
use Rattle.runs.proofs.Invariant.{Shaped, from-shaped}
use Rattle.runs.proofs.Meaning.{Acts, acts}
use Rattle.runs.proofs.Spares.{OwnerSpared, kept-spared, joined-spared, other-spared, owner-takes}
use Rattle.views.proofs.Turns.{fetches-count, Spared, Turn, Turns, Taken, taken-soon}
use Rattle.weak_runs.specs.Calls.{Call, is_fetch, weak_calls, memory_of}
use Rattle.weak_runs.specs.Fairness.{fetches, TakenWithin, FairFetching}
use Rattle.weak_runs.proofs.Calls.{weak-laws}
use Rattle.weak_runs.proofs.Events.{lengths-reached}

-- A step of thread i of Algorithm 1 spares another thread's lists and pointer, and an owner's own but for its Fetch.
passed-pointer : (count : ℕ) (rest : List ℕ) (r : Thread) → (passed count rest r).pointer ≡ r.pointer
passed-pointer count rest r = go (eqb (r.cursor + 1) count)
  where
    go : (b : Bool)
        → (cond b (items.thread_with rest 0 r.phase r.held r.pointer)
        (items.thread_with r.buffer (r.cursor + 1) r.phase r.held r.pointer)
        ).pointer
        ≡ r.pointer
    go true = refl
    go false = refl

passes-pointer : {i : ℕ} {s : State} {T oldest : ℕ} {r : Thread} → Passes i s T oldest r → r.pointer ≡ (thread_of s i).pointer
passes-pointer {i} {s} f = ap (λ (r : Thread). r.pointer) f.thread ∙ passed-pointer _ f.rest (thread_of s i)

module _ {p i : ℕ} {s s' : State} {o : WeakOutcome} (worker : i < p) (shaped : Shaped p s.lists) where
  fetch-acts : (f : Fetches p i s s' o) → Acts no_item p i s.lists s'.lists (holding p f.list f.item (thread_of s i))
  fetch-acts f = acts worker shaped (rw f.after) (rw f.after)

  start-acts : Starts i s s' o → Acts no_item p i s.lists s'.lists (executing (thread_of s i))
  start-acts f = acts worker shaped (rw f.after) (rw f.after)

  copy-acts : CompletesCopy i s s' o → Acts no_item p i s.lists s'.lists (letting_go (thread_of s i).buffer (thread_of s i))
  copy-acts f = acts worker shaped (rw f.after) (rw f.after)

  task-acts : CompletesTask i s s' o
      → Acts no_item p i s.lists s'.lists
      (letting_go (buffered (successors_of s.lists (thread_of s i).held.task) (thread_of s i).held.task (thread_of s i).buffer) (thread_of s i))
  task-acts f = acts worker shaped (rw f.after) (rw f.after)

  first-acts : {C : ℕ → Type 0} {W : ℕ → ℤ} {capacity : ℕ} (f : AllocatesFirst C W p capacity i s s' o) → Acts no_item p i s.lists s'.lists f.next
  first-acts f = acts worker shaped (rw f.after) (rw f.after)

  later-acts : {capacity : ℕ} (f : AllocatesLater p capacity i s s' o) → Acts no_item p i s.lists s'.lists f.next
  later-acts f = acts worker shaped (rw f.after) (rw f.after)

  spared-fetch : (owner : ℕ) → ¬ (owner ≡ i) → Fetches p i s s' o → OwnerSpared no_item owner s.lists s'.lists
  spared-fetch owner n f = other-spared (fetch-acts f) owner n f.list f.rest (rw f.after)

  taking : (f : Fetches p i s s' o) → Takes p (queue_of s.lists i) (queue_of s'.lists i) (thread_of s i).pointer f.list f.item
  taking f = owner-takes s.lists s'.lists worker shaped (thread_of s i).pointer f.list f.item f.rest f.first f.head (rw f.after)

  pointer-on : (f : Fetches p i s s' o) → (thread_of s' i).pointer ≡ (f.list + 1) % p
  pointer-on f = ap (λ (r : Thread). r.pointer) (fetch-acts f).own

-- the steps that are no Fetch
spared : {p capacity i : ℕ} {s s' : State} {o : WeakOutcome} → Shaped p s.lists → (owner : ℕ) (st : Step) → is_fetch st ≡ false
    → Does p capacity i st s s' o → OwnerSpared no_item owner s.lists s'.lists
spared {p} {capacity} {i} {s} {s'} {o} shaped owner st n d = go st n d.lines
  where
    go : (st : Step) → is_fetch st ≡ false → Lines p capacity i st s s' o → OwnerSpared no_item owner s.lists s'.lists
    go Fetch e f = unequal cc
    go Start e f = kept-spared (start-acts d.thread shaped f) owner refl (rw f.after)
    go Complete e (copies f) = kept-spared (copy-acts d.thread shaped f) owner refl (rw f.after)
    go Complete e (completes f) = kept-spared (task-acts d.thread shaped f) owner refl (rw f.after)
    go Release e (first f) =
        joined-spared (first-acts d.thread shaped f) owner (passes-pointer f.pass) shaped f.owner i
        (first-lt f.room) d.thread (copy f.task f.oldest) (rw f.after)
    go Release e (later f) =
        joined-spared (later-acts d.thread shaped f) owner (passes-pointer f.pass) shaped f.owner i
        f.worker d.thread (copy f.task f.oldest) (rw f.after)

-- the state of any memory is shaped
weak-shaped : (p k : ℕ) (m : Mem) → Shaped p (state_of p k m).lists
unfolding state_of
weak-shaped p k m = from-shaped p k m (record_in m)

module _ (p k : ℕ) where
  abbrev lists : Mem → ℕ → ℕ → List Copy
  lists m = queue_of (state_of p k m).lists

  abbrev pointer : Mem → ℕ → ℕ
  pointer m i = (thread_of (state_of p k m) i).pointer

  own_turn : (limits : Limits) (owner : ℕ) (m : Mem) → AcceptedStep limits p k owner Fetch m
      → Turn weak_calls lists pointer copy_fetched p owner m (step limits p k owner Fetch m).memory (step_says (step limits p k owner Fetch m).answer)
  own_turn limits owner m a =
      record {
        list = f.list;
        item = f.item;
        takes = taking a.allowed.worker (weak-shaped p k m) f;
        moves = pointer-on a.allowed.worker (weak-shaped p k m) f;
        answer = a.answered ∙ ap outcome_says f.outcome;
      }
    where
      f : Fetches p owner (state_of p k m) (state_of p k (step limits p k owner Fetch m).memory) a.outcome
      f = (step-does limits p k owner Fetch m a).lines

  other-turn : (limits : Limits) (i : ℕ) (m : Mem) → AcceptedStep limits p k i Fetch m → (owner : ℕ) → ¬ (owner ≡ i)
      → Spared weak_calls lists pointer owner m (step limits p k i Fetch m).memory
  other-turn limits i m a owner n =
      spared-fetch a.allowed.worker (weak-shaped p k m) owner n (step-does limits p k i Fetch m a).lines

  step-spares : (limits : Limits) (i : ℕ) (s : Step) (m : Mem) → is_fetch s ≡ false → AcceptedStep limits p k i s m → (owner : ℕ)
      → Spared weak_calls lists pointer owner m (step limits p k i s m).memory
  step-spares limits i s m e a owner = spared (weak-shaped p k m) owner s e (step-does limits p k i s m a)

  turns : Turns weak_calls lists pointer copy_fetched p k
  turns =
      record {
        own = λ limits owner m a. own_turn limits owner m (accepted-step limits p k owner Fetch m a);
        others = λ limits i m a. other-turn limits i m (accepted-step limits p k i Fetch m a);
        steps = λ limits i s m e a. step-spares limits i s m e (accepted-step limits p k i s m a);
      }

  -- what is taken from the lists is taken from the rings
  module _ (owner filler : ℕ) (c : Copy) (behind : List Copy) (owns : owner < p) (fills : filler < p) where
    taken-within : (bound : ℕ) (cs : List Call) (m : Mem) → Taken weak_calls lists fetches copy_fetched p k owner filler c behind bound cs m
        → TakenWithin p k owner filler c behind bound cs m
    taken-within bound cs m w =
        record {
          earlier = w.earlier;
          later = w.later;
          limits = w.limits;
          split = w.split;
          same_run = w.same_run;
          number = w.number;
          answered = w.answered;
          added = w.added;
          first = sym (queue-at p k _ owner filler owns fills) ∙ w.first;
          taken = sym (queue-at p k _ owner filler owns fills) ∙ w.taken;
        }

pub fair-fetching : FairFetching
fair-fetching =
    record {
      soon = λ r owner filler owns fills ahead c behind stands further many.
          taken-within r.workers r.slots owner filler c behind owns fills _ further (memory_of r)
          (taken-soon weak_calls (lists r.workers r.slots) (pointer r.workers r.slots) fetches copy_fetched r.workers r.slots owner filler c behind
          (fetches-count weak_calls) (turns r.workers r.slots) weak-laws fills (memory_of r) (lengths-reached r) ahead
          (queue-at r.workers r.slots (memory_of r) owner filler owns fills ∙ stands) further many);
    }
