-- Each step of Algorithm 1 is a step of the system of runs, by the plain job's rule, and keeps the state sane.
use Prim.Native.Nat.{ℕ, suc, ◌+◌, ◌-◌, ◌%◌, ◌≤◌, ◌<◌}
use mathlib.Core.Path.{◌≡◌, refl, ap, ◌∙◌}
use mathlib.Core.List.{List, [], ◌∷◌, ◌++◌}
use native.Mathlib.Omega.{arith}
use native.Mathlib.Nat.{mod-lt}
use native.Mathlib.Decide.{ℕ_discrete}
use lib.IntN.{ℤ}
use lib.ListN.{length, set, length-set}
use lib.Seq.{get_or-set_same, get_or-set_other}
use Rattle.lists.specs.Decided.{tally}
use Rattle.lists.specs.Lists.{occ}
use Rattle.lists.specs.Squares.{with_cell}
use Rattle.lists.proofs.Prefixes.{occ-snoc, inside}
use Rattle.lists.proofs.Occurrences.{occ-cons, occ-joined}
use Rattle.lists.proofs.Squares.{Even, even-with}
use Rattle.lists.proofs.Sums.{sum_of-snoc}
use Rattle.task.specs.Types.{nil}
use Rattle.task.specs.Entries.{entry_of}
use Rattle.task.specs.declared.Step.{Step}
use Rattle.task.specs.declared.Step.TheVariants.{Fetch, Start, Complete, Release}
use Rattle.task.specs.declared.StepOutcome.{StepOutcome}
use Rattle.graph.specs.Graph.{Graph}
use Rattle.algorithm1.specs.State.{Thread, State, degree_of, successors_of, queue_of, thread_of, waiting_for}
use Rattle.algorithm1.specs.Algorithm.{holding, executing, completed, Fetches, Starts, Completes, Passes, Lowers, Allocates, lowers, allocates, Lines, Does}
use Rattle.algorithm1.proofs.Memories.{first-lt}
use Rattle.system.specs.System as system
use Rattle.system.proofs.Plain.{completes-all, all-due}
use Rattle.runs.proofs.Invariant.{items_of, pending_of, tasks_of, meaning, Buffered, Sane}
use Rattle.runs.proofs.Hands.{hand-idle, hand-fetched, hand-running}
use Rattle.runs.proofs.Waiting.{waiting-other, waiting-own}
use Rattle.runs.proofs.Meaning.{tasks-snoc, same-buffer, pending-completed, buffered-completed, Goes, passes-goes, Acts, thread-each, hand-moves, hand-stays}
use Rattle.runs.proofs.Meaning.{pending-moves, pending-stays, fetch-acts, start-acts, complete-acts, lower-acts, allocate-acts}

-- a step of the system, by the plain job's rule
abbrev pub PlainStep : Graph → ℕ → system.State ℕ → system.State ℕ → Type 0
PlainStep g p v v' = (t : system.Step ℕ_discrete (items_of g) p v v') × system.ByRule ℕ_discrete (items_of g) p (system.all_due (items_of g)) t

-- Thread i of P, from s to s'
module _ (g : Graph) (p i : ℕ) (worker : i < p) (s s' : State) (sane : Sane g p s) where
  sane-after : {r : Thread} → Acts nil.0 p i s s' r → length s'.degrees ≡ length s.degrees → Even p s'.queues → Even p s'.counters
      → Buffered s r → r.phase ≤ 2 → r.pointer < p → Sane g p s'
  sane-after {r} a d q c b phase pointer =
      record {
        shaped =
            record {
              queues = q;
              counters = c;
              threads = rw a.threads (length-set s.threads i r ∙ sane.shaped.threads);
            };
        degrees = d ∙ sane.degrees;
        successors = λ t. rw a.successors (sane.successors t);
        buffers = λ j. buffer j (thread-each a (Buffered s) b j (sane.buffers j));
        phases = λ j. thread-each a (λ t. t.phase ≤ 2) phase j (sane.phases j);
        pointers = λ j l. thread-each a (λ t. t.pointer < p) pointer j (sane.pointers j l);
      }
    where
      buffer : (j : ℕ) → Buffered s (thread_of s' j) → Buffered s' (thread_of s' j)
      buffer j b = record { each = rw a.successors b.each; cursor = rw a.successors b.cursor; none = b.none }

  released-sane : {T : ℕ} {r : Thread} → Acts nil.0 p i s s' r → Passes i s T r → length s'.degrees ≡ length s.degrees → Even p s'.queues
      → Even p s'.counters → Sane g p s'
  released-sane {T} {r} a f d q c =
      sane-after a d q c (goes.buffer (sane.buffers i)) (rw goes.phase (sane.phases i)) (rw goes.pointer (sane.pointers i worker))
    where
      goes : Goes s T (thread_of s i) r
      goes = passes-goes f

  module _ (o : StepOutcome) where
    module _ (n : ℕ) where
      abbrev Steps : Type 0
      Steps = PlainStep g p (meaning p n s) (meaning p (suc n) s')

      fetch-steps : Fetches p i s s' o → Steps
      unfolding meaning pending_of
      fetch-steps f = (
        system.fetch i f.task
            (record {
              takes =
                  record {
                    waiting = waiting-other p i f.list worker s s' f.rest queues;
                    removed = record { more = fewer };
                    hand =
                        hand-moves (fetch-acts worker sane.shaped f) (hand-idle (thread_of s i) f.phase)
                        (hand-fetched (holding p f.list f.task (thread_of s i)) refl);
                    done = rw f.after;
                  };
              keeps = record { pending = pending-stays (fetch-acts worker sane.shaped f) refl; degree = λ a. rw f.after; steps = refl; dues = rw f.after };
            }),
        tt,
      )
        where
          queues : s'.queues ≡ with_cell s.queues i f.list f.rest
          queues = rw f.after

          fewer : (x : ℕ) → occ x (waiting_for p s i) ≡ tally (ℕ_discrete x f.task) + occ x (waiting_for p s' i)
          fewer x =
              omega (
                arith,
                waiting-own p i f.list worker s s' f.rest queues (first-lt f.first) sane.shaped (occ x) (occ-joined ℕ_discrete x p),
                ap (occ x) f.head,
                occ-cons ℕ_discrete x f.task f.rest,
              )

      start-steps : Starts i s s' o → Steps
      unfolding meaning pending_of waiting_for
      start-steps f = (
        system.start i (thread_of s i).held
            (record {
              runs =
                  record {
                    waiting = λ j. rw f.after;
                    hand =
                        hand-moves (start-acts worker sane.shaped f) (hand-fetched (thread_of s i) f.phase)
                        (hand-running (executing (thread_of s i)) refl);
                    done = rw f.after;
                  };
              keeps = record { pending = pending-stays (start-acts worker sane.shaped f) refl; degree = λ a. rw f.after; steps = refl; dues = rw f.after };
            }),
        tt,
      )

      complete-all : Completes i s s' o → system.CompletesAll ℕ_discrete (items_of g) p i (thread_of s i).held (meaning p n s) (meaning p (suc n) s')
      unfolding meaning waiting_for
      complete-all f =
          record {
            finishes =
                record {
                  waiting = λ j. rw f.after;
                  hand =
                      hand-moves (complete-acts worker sane.shaped f) (hand-running (thread_of s i) f.phase)
                      (hand-idle (completed (successors_of s (thread_of s i).held) (thread_of s i)) refl);
                  done = rw f.after (tasks-snoc s.executed (entry_of (thread_of s i).held i));
                };
            old = pending_of s (thread_of s i);
            pending =
                pending-moves (complete-acts worker sane.shaped f) refl
                (pending-completed s (thread_of s i) (sane.buffers i) (thread_of s i).held 0 nil.0
                ∙ ap (λ (l : List ℕ). pending_of s (thread_of s i) ++ l) (sane.successors (thread_of s i).held));
            degree = λ x. rw f.after;
            steps = refl;
            dues = rw (f.after, tasks-snoc s.executed (entry_of (thread_of s i).held i)) (omega (
              arith,
              sum_of-snoc (λ t. length (successors_of s t)) (tasks_of s.executed) (thread_of s i).held,
              ap length (sane.successors (thread_of s i).held),
            ));
          }

      complete-steps : Completes i s s' o → Steps
      unfolding meaning
      complete-steps f = (
        system.complete i (thread_of s i).held (completes-all ℕ_discrete (items_of g) p (complete-all f)),
        all-due ℕ_discrete (items_of g) p (complete-all f),
      )

      -- d_T falls by one
      falls : (T left : ℕ) → s'.degrees ≡ set s.degrees T (degree_of s T - 1) → 1 ≤ degree_of s T → degree_of s T - 1 ≡ left
          → system.Falls ℕ_discrete (items_of g) p T left (meaning p n s) (meaning p (suc n) s')
      unfolding meaning
      falls T left e h q =
          record {
            was = omega (arith, h, q);
            now = rw e (get_or-set_same s.degrees T (degree_of s T - 1) 0 (inside s.degrees T (omega (arith, h))) ∙ q);
            others = λ t m. rw e (get_or-set_other s.degrees T t (degree_of s T - 1) 0 m);
          }

      -- T's release is due no more
      releases : {T : ℕ} {r : Thread} → Acts nil.0 p i s s' r → Passes i s T r
          → s'.executed ≡ s.executed
          → system.Releases ℕ_discrete (items_of g) p i T (meaning p n s) (meaning p (suc n) s')
      unfolding meaning
      releases {r = r} a f e =
          record { rest = pending_of s r; pending = pending-moves a (passes-goes f).pending refl; steps = refl; dues = rw (e, a.successors) }

      lower-steps : Lowers i s s' o → Steps
      unfolding meaning waiting_for
      lower-steps f = (
        system.lower i f.task
            (record {
              stays =
                  record {
                    waiting = λ j. rw f.after;
                    hand = hand-stays (lower-acts worker sane.shaped f) (passes-goes f.pass).hand;
                    done = rw f.after;
                  };
              releases = releases (lower-acts worker sane.shaped f) f.pass (rw f.after);
              left = degree_of s f.task - 1;
              blocked = omega (arith, f.some);
              falls = falls f.task (degree_of s f.task - 1) (rw f.after) f.pass.waits refl;
            }),
        tt,
      )

      allocate-steps : {C : ℕ → Type 0} {W : ℕ → ℤ} (capacity : ℕ) → Allocates C W p capacity i s s' o → Steps
      unfolding meaning
      allocate-steps capacity f = (
        system.place i f.owner f.task
            (record {
              enters =
                  record {
                    waiting = waiting-other p f.owner i (first-lt f.room) s s' (queue_of s f.owner i ++ (f.task ∷ [])) queues;
                    added = record { more = more };
                    hand = hand-stays (allocate-acts worker sane.shaped f) (passes-goes f.pass).hand;
                    done = rw f.after;
                  };
              releases = releases (allocate-acts worker sane.shaped f) f.pass (rw f.after);
              falls = falls f.task 0 (rw f.after) f.pass.waits f.zero;
            }),
        tt,
      )
        where
          queues : s'.queues ≡ with_cell s.queues f.owner i (queue_of s f.owner i ++ (f.task ∷ []))
          queues = rw f.after

          more : (x : ℕ) → occ x (waiting_for p s' f.owner) ≡ tally (ℕ_discrete x f.task) + occ x (waiting_for p s f.owner)
          more x =
              omega (
                arith,
                waiting-own p f.owner i (first-lt f.room) s s' (queue_of s f.owner i ++ (f.task ∷ [])) queues worker sane.shaped (occ x)
                    (occ-joined ℕ_discrete x p),
                occ-snoc x f.task (queue_of s f.owner i),
              )

    fetch-sane : Fetches p i s s' o → Sane g p s'
    fetch-sane f =
        sane-after (fetch-acts worker sane.shaped f) (rw f.after)
        (rw f.after (even-with sane.shaped.queues i f.list f.rest)) (rw f.after sane.shaped.counters)
        (same-buffer s (thread_of s i) (sane.buffers i) 1 f.task ((f.list + 1) % p)) (omega arith) (mod-lt (f.list + 1) (omega (arith, worker)))

    start-sane : Starts i s s' o → Sane g p s'
    start-sane f =
        sane-after (start-acts worker sane.shaped f) (rw f.after) (rw f.after sane.shaped.queues) (rw f.after sane.shaped.counters)
        (same-buffer s (thread_of s i) (sane.buffers i) 2 (thread_of s i).held (thread_of s i).pointer) (omega arith) (sane.pointers i worker)

    complete-sane : Completes i s s' o → Sane g p s'
    complete-sane f =
        sane-after (complete-acts worker sane.shaped f) (rw f.after) (rw f.after sane.shaped.queues)
        (rw f.after (even-with sane.shaped.counters i i _))
        (buffered-completed s (thread_of s i) (sane.buffers i) (thread_of s i).held 0 nil.0) (omega arith) (sane.pointers i worker)

    lower-sane : Lowers i s s' o → Sane g p s'
    lower-sane f =
        released-sane (lower-acts worker sane.shaped f) f.pass (rw f.after (length-set s.degrees f.task (degree_of s f.task - 1)))
        (rw f.after sane.shaped.queues) (rw f.after sane.shaped.counters)

    allocate-sane : {C : ℕ → Type 0} {W : ℕ → ℤ} (capacity : ℕ) → Allocates C W p capacity i s s' o → Sane g p s'
    allocate-sane capacity f =
        released-sane (allocate-acts worker sane.shaped f) f.pass (rw f.after (length-set s.degrees f.task (degree_of s f.task - 1)))
        (rw f.after (even-with sane.shaped.queues f.owner i (queue_of s f.owner i ++ (f.task ∷ []))))
        (rw f.after (even-with sane.shaped.counters f.owner i _))

-- each step of Algorithm 1 is a step of the system by the plain job's rule, and keeps the state sane
module _ (g : Graph) (p capacity i : ℕ) (s s' : State) (o : StepOutcome) (sane : Sane g p s) where
  pub does-steps : (n : ℕ) (step : Step) → Does p capacity i step s s' o → PlainStep g p (meaning p n s) (meaning p (suc n) s')
  does-steps n step d = go step d.lines
    where
      go : (step : Step) → Lines p capacity i step s s' o → PlainStep g p (meaning p n s) (meaning p (suc n) s')
      go Fetch f = fetch-steps g p i d.thread s s' sane o n f
      go Start f = start-steps g p i d.thread s s' sane o n f
      go Complete f = complete-steps g p i d.thread s s' sane o n f
      go Release (lowers f) = lower-steps g p i d.thread s s' sane o n f
      go Release (allocates f) = allocate-steps g p i d.thread s s' sane o n capacity f

  pub does-sane : (step : Step) → Does p capacity i step s s' o → Sane g p s'
  does-sane step d = go step d.lines
    where
      go : (step : Step) → Lines p capacity i step s s' o → Sane g p s'
      go Fetch f = fetch-sane g p i d.thread s s' sane o f
      go Start f = start-sane g p i d.thread s s' sane o f
      go Complete f = complete-sane g p i d.thread s s' sane o f
      go Release (lowers f) = lower-sane g p i d.thread s s' sane o f
      go Release (allocates f) = allocate-sane g p i d.thread s s' sane o capacity f
