-- Each step of Algorithm 1 of source document 000 is a step of the system of copies, by the weak rule, and keeps the state sane.
use Prim.Native.Nat.{ℕ, suc, ◌+◌, ◌-◌, ◌%◌, ◌≤◌, ◌<◌, min}
use mathlib.Core.Path.{◌≡◌, refl, sym, ap, ◌∙◌}
use mathlib.Core.List.{List, [], ◌∷◌, ◌++◌, map, append-nil}
use native.Mathlib.Omega.{arith}
use native.Mathlib.Nat.{mod-lt}
use native.Mathlib.Decide.{ℕ_discrete}
use lib.IntN.{ℤ}
use lib.ListN.{length, get_or, set, length-set}
use lib.Seq.{get_or-set_same, get_or-set_other}
use Rattle.lists.specs.Decided.{tally}
use Rattle.lists.specs.Lists.{occ_of}
use Rattle.lists.specs.Squares.{with_cell}
use Rattle.lists.specs.Sums.{sum_to}
use Rattle.lists.proofs.Occurrences.{occ-nil, occ-cons, occ-hit, occ-miss, occ-append, occ-joined}
use Rattle.lists.proofs.Squares.{Even, even-with}
use Rattle.lists.proofs.Sums.{sum_kept, sum-prefix}
use Rattle.task.specs.Entries.{Entry, entry_of}
use Rattle.task.specs.declared.Step.{Step}
use Rattle.task.specs.declared.Step.TheVariants.{Fetch, Start, Complete, Release}
use Rattle.weak_task.specs.declared.WeakOutcome.{WeakOutcome}
use Rattle.graph.specs.Graph.{Graph}
use Rattle.graph.specs.Conditions.{Sound}
use Rattle.split_lists.specs.Items.{degree_of, successors_of, queue_of, waiting_for}
use Rattle.split_lists.specs.Moves.{holding, executing, buffered}
use Rattle.split_lists.proofs.Memories.{first-lt}
use Rattle.system.specs.Stages.{Finishes}
use Rattle.system.specs.System as system
use Rattle.system.specs.System.{missing}
use Rattle.system.proofs.Stages.{sum-replaced}
use Rattle.system.proofs.Records.{missing-snoc}
use Rattle.system.proofs.Kept.{running-fresh}
use Rattle.copies.specs.Copies.{Copy, copy, same_copy, task_copies, next_copies, is_copy, copies_of, NoneTwice}
use Rattle.copies.specs.Weak.{last_due, Weak}
use Rattle.copies.specs.Weak as weak
use Rattle.copies.proofs.Copies.{if_any-some, copies-other, copy-task, copies-reversed}
use Rattle.copies.proofs.Weak.{missing-less, due-last, due-early, owed_more}
use Rattle.copies.proofs.Runs.{weak-invariant, weak-complete, weak-single}
use Rattle.runs.proofs.Invariant.{tasks_of, Buffered}
use Rattle.runs.proofs.Hands.{hand-idle, hand-fetched, hand-running}
use Rattle.runs.proofs.Waiting.{waiting-other, waiting-own}
use Rattle.runs.proofs.Meaning.{tasks-snoc, same-buffer, buffered-completed, Acts, acts, thread-each, hand-moves, hand-stays}
use Rattle.weak_algorithm.specs.State.{Thread, no_item, State, thread_of}
use Rattle.weak_algorithm.specs.Algorithm.{Fetches, Starts, letting_go, CompletesCopy, CompletesTask, copies, completes, Passes}
use Rattle.weak_algorithm.specs.Algorithm.{AllocatesFirst, AllocatesLater, first, later, Lines, Does}
use Rattle.weak_runs.proofs.Invariant.{pending_of, done_of, pending_in, meaning, Sane}
use Rattle.weak_runs.proofs.Meaning.{made_of, pending-completed, passes-goes, passes-pending, pending-moves, pending-stays}
use Rattle.weak_runs.proofs.Meaning.{fetch-acts, start-acts, first-acts, later-acts}

-- Thread i of P, from s to s'
module _ (g : Graph) (sound : Sound g) (once : NoneTwice g) (p i : ℕ) (worker : i < p) (s s' : State) (sane : Sane g p s) where
  sane-after : {r : Thread} → Acts no_item p i s.lists s'.lists r → length s'.lists.degrees ≡ length s.lists.degrees
      → length s'.tids ≡ length s.tids → Even p s'.lists.queues → Even p s'.lists.counters
      → Buffered s.lists r → r.phase ≤ 2 → r.pointer < p
      → ((t : ℕ) → t < g.tasks → degree_of s'.lists t ≡ missing same_copy (task_copies g t) (done_of s')) → Sane g p s'
  sane-after {r} a d t q c b phase pointer left =
      record {
        shaped =
            record {
              queues = q;
              counters = c;
              threads = rw a.threads (length-set s.lists.threads i r ∙ sane.shaped.threads);
            };
        degrees = d ∙ sane.degrees;
        tids = t ∙ sane.tids;
        successors = λ u. rw a.successors (sane.successors u);
        buffers = λ j. buffer j (thread-each a (Buffered s.lists) b j (sane.buffers j));
        phases = λ j. thread-each a (λ t. t.phase ≤ 2) phase j (sane.phases j);
        pointers = λ j l. thread-each a (λ t. t.pointer < p) pointer j (sane.pointers j l);
        left = left;
      }
    where
      buffer : (j : ℕ) → Buffered s.lists (thread_of s' j) → Buffered s'.lists (thread_of s' j)
      buffer j b = record { each = rw a.successors b.each; cursor = rw a.successors b.cursor; none = b.none }

  -- what a copy's task makes is what waits for the copy
  made-next : (c : Copy) → is_copy g c ≡ 1 → made_of s.lists c.task ≡ (copies_of g).succs c
  unfolding copies_of next_copies
  made-next c e =
      ap (λ (l : List ℕ). map (λ x. copy x c.task) l) (sane.successors c.task)
      ∙ sym (if_any-some (is_copy g c) (next_copies g c.task) (omega (arith, e)))

  -- the copy in hand
  abbrev held : Copy
  held = (thread_of s i).held

  -- the buffer once its task has joined it
  abbrev buffer_after : List ℕ
  buffer_after = buffered (successors_of s.lists held.task) held.task (thread_of s i).buffer

  -- what every Complete does, with this buffer
  record Finished (buffer : List ℕ) : Type 0 where
    phase : ◌≡◌ {A = ℕ} (thread_of s i).phase 2
    acts : Acts no_item p i s.lists s'.lists (letting_go buffer (thread_of s i))
    executed : s'.lists.executed ≡ s.lists.executed ++ (entry_of held i ∷ [])
    queues : s'.lists.queues ≡ s.lists.queues
    degrees : s'.lists.degrees ≡ set s.lists.degrees held.task (degree_of s.lists held.task - 1)

  module _ (n : ℕ) where
    abbrev before : system.State Copy
    before = meaning g p n s

    abbrev after : system.State Copy
    after = meaning g p (suc n) s'

    -- where nothing is recorded
    missed : (c : Copy) → s'.lists.executed ≡ s.lists.executed
        → missing same_copy ((copies_of g).preds c) (done_of s') ≡ missing same_copy ((copies_of g).preds c) (done_of s)
    missed c e = ap (λ (l : List (Entry Copy)). missing same_copy ((copies_of g).preds c) (tasks_of l)) e

    keeps : s'.lists.executed ≡ s.lists.executed → ((j : ℕ) → pending_in s' j ≡ pending_in s j) → system.Keeps same_copy (copies_of g) p before after
    unfolding meaning
    keeps e q = record { pending = q; degree = λ c. omega (arith, missed c e, sum_kept (occ_of same_copy c) p q); steps = refl; dues = rw e }

    fetch-step : {o : WeakOutcome} (f : Fetches p i s s' o) → system.Fetches same_copy (copies_of g) p i f.item before after
    unfolding meaning pending_of
    fetch-step f =
        record {
          takes =
              record {
                waiting = waiting-other p i f.list worker s.lists s'.lists f.rest queues;
                removed = record { more = fewer };
                hand = hand-moves a (hand-idle (thread_of s i) f.phase) (hand-fetched (holding p f.list f.item (thread_of s i)) refl);
                done = rw f.after;
              };
          keeps = keeps (rw f.after) (pending-stays a refl);
        }
      where
        a : Acts no_item p i s.lists s'.lists (holding p f.list f.item (thread_of s i))
        a = fetch-acts worker sane.shaped f

        queues : s'.lists.queues ≡ with_cell s.lists.queues i f.list f.rest
        queues = rw f.after

        fewer : (x : Copy) → occ_of same_copy x (waiting_for p s.lists i)
            ≡ tally (same_copy x f.item) + occ_of same_copy x (waiting_for p s'.lists i)
        fewer x =
            omega (
              arith,
              waiting-own p i f.list worker s.lists s'.lists f.rest queues (first-lt f.first) sane.shaped (occ_of same_copy x)
                  (occ-joined same_copy x p),
              ap (occ_of same_copy x) f.head,
              occ-cons same_copy x f.item f.rest,
            )

    start-step : {o : WeakOutcome} → Starts i s s' o → system.Starts same_copy (copies_of g) p i held before after
    unfolding meaning pending_of waiting_for
    start-step f =
        record {
          runs =
              record {
                waiting = λ j. rw f.after;
                hand = hand-moves a (hand-fetched (thread_of s i) f.phase) (hand-running (executing (thread_of s i)) refl);
                done = rw f.after;
              };
          keeps = keeps (rw f.after) (pending-stays a refl);
        }
      where
        a : Acts no_item p i s.lists s'.lists (executing (thread_of s i))
        a = start-acts worker sane.shaped f

    module _ (w : Weak g p before) where
      -- the copy in hand is recorded
      module _ {buffer : List ℕ} (f : Finished buffer) where
        joins : done_of s' ≡ done_of s ++ (held ∷ [])
        joins = ap tasks_of f.executed ∙ tasks-snoc s.lists.executed (entry_of held i)

        finishes : Finishes same_copy p i held before.stages after.stages
        unfolding meaning waiting_for
        finishes =
            record {
              waiting = λ j. rw f.queues;
              hand = hand-moves f.acts (hand-running (thread_of s i) f.phase) (hand-idle (letting_go buffer (thread_of s i)) refl);
              done = joins;
            }

        -- it is a copy of the graph, not recorded yet
        fresh : (is_copy g held ≡ 1) × (occ_of same_copy held (done_of s) ≡ 0)
        unfolding meaning copies_of
        fresh =
            let (one, new, _) = running-fresh same_copy (copies_of g) p (copies-reversed g sound once) finishes (weak-invariant g sound once p w) in
            (one, new)

        task : held.task < g.tasks
        task = copy-task g sound held (omega (arith, fresh.0))

        -- so its task misses one copy less, as the degree says
        less : degree_of s.lists held.task ≡ suc (missing same_copy (task_copies g held.task) (done_of s ++ (held ∷ [])))
        less = sane.left held.task task ∙ missing-less g (done_of s) held fresh.0 fresh.1

        left_after : (t : ℕ) → t < g.tasks → degree_of s'.lists t ≡ missing same_copy (task_copies g t) (done_of s')
        left_after t h = rw (joins, f.degrees) (go (ℕ_discrete t held.task))
          where
            d : ℕ
            d = degree_of s.lists held.task - 1

            go : Dec (t ≡ held.task) → get_or (set s.lists.degrees held.task d) t 0 ≡ missing same_copy (task_copies g t) (done_of s ++ (held ∷ []))
            go (yes e) =
                rw e (omega (
                  arith,
                  less,
                  get_or-set_same s.lists.degrees held.task d 0 (omega (arith, task, sane.degrees)),
                ))
            go (no m) =
                omega (
                  arith,
                  sane.left t h,
                  get_or-set_other s.lists.degrees held.task t d 0 m,
                  missing-snoc same_copy (task_copies g t) (done_of s) held fresh.1,
                  copies-other g held t (λ e. m (sym e)),
                )

        finished-sane : Even p s'.lists.counters → length s'.tids ≡ length s.tids → Buffered s.lists (letting_go buffer (thread_of s i)) → Sane g p s'
        finished-sane c t b =
            sane-after f.acts (rw f.degrees (length-set s.lists.degrees held.task (degree_of s.lists held.task - 1))) t
            (rw f.queues sane.shaped.queues) c b (omega arith) (sane.pointers i worker) left_after

        -- what falls due is what the weak rule says
        completes-copy : pending_of s.lists (letting_go buffer (thread_of s i)) ≡ pending_in s i ++ last_due g (done_of s) held
            → weak.CompletesCopy g p i held before after
        unfolding meaning
        completes-copy due =
            record {
              finishes = finishes;
              old = pending_in s i;
              pending = pending-moves f.acts refl due;
              degree = λ x. rw joins (omega (
                arith,
                missing-snoc same_copy ((copies_of g).preds x) (done_of s) held fresh.1,
                (copies-reversed g sound once).reverse held x,
                sum-replaced (occ_of same_copy x) (pending-moves f.acts refl due),
                occ-append same_copy x (pending_in s i) (last_due g (done_of s) held),
              ));
              steps = refl;
              dues = rw joins (owed_more g sound (done_of s) held fresh.0 fresh.1);
            }

        finished-weak : pending_of s.lists (letting_go buffer (thread_of s i)) ≡ pending_in s i ++ last_due g (done_of s) held → Weak g p after
        finished-weak due = weak-complete g sound once p w (completes-copy due)

      module _ {o : WeakOutcome} where
        copy-finished : CompletesCopy i s s' o → Finished (thread_of s i).buffer
        copy-finished f =
            record {
              phase = f.phase;
              acts = acts worker sane.shaped (rw f.after) (rw f.after);
              executed = rw f.after;
              queues = rw f.after;
              degrees = rw f.after;
            }

        copy-sane : CompletesCopy i s s' o → Sane g p s'
        copy-sane f =
            finished-sane (copy-finished f) (rw f.after sane.shaped.counters) (rw f.after)
            (same-buffer s.lists (thread_of s i) (sane.buffers i) 0 no_item (thread_of s i).pointer)

        -- not the task's last: nothing falls due
        copy-weak : CompletesCopy i s s' o → Weak g p after
        unfolding pending_of
        copy-weak f =
            finished-weak (copy-finished f)
            (sym (ap (λ (l : List Copy). pending_in s i ++ l) (due-early g (done_of s) held (λ e. f.some (omega (arith, e, less (copy-finished f)))))
            ∙ append-nil (pending_in s i)))

        task-finished : CompletesTask i s s' o → Finished buffer_after
        task-finished f =
            record {
              phase = f.phase;
              acts = acts worker sane.shaped (rw f.after) (rw f.after);
              executed = rw f.after;
              queues = rw f.after;
              degrees = rw f.after;
            }

        task-sane : CompletesTask i s s' o → Sane g p s'
        task-sane f =
            finished-sane (task-finished f) (rw f.after (even-with sane.shaped.counters i i _)) (rw f.after)
            (buffered-completed s.lists (thread_of s i) (sane.buffers i) held.task 0 no_item)

        -- the task's last: the copies of all its successors fall due
        task-weak : CompletesTask i s s' o → Weak g p after
        task-weak f =
            finished-weak (task-finished f)
            (pending-completed s.lists (thread_of s i) (sane.buffers i) held.task 0 no_item
            ∙ ap (λ (l : List Copy). pending_in s i ++ l) (made ∙ sym (due-last g (done_of s) held (omega (arith, f.zero, less (task-finished f))))))
          where
            made : made_of s.lists held.task ≡ (copies_of g).succs held
            made = made-next held (fresh (task-finished f)).0

      -- a copy is made, and waits for its owner
      module _ {T oldest : ℕ} {r : Thread} (a : Acts no_item p i s.lists s'.lists r) (f : Passes i s T oldest r) (owner : ℕ) (inside : owner < p)
          (same : s'.lists.executed ≡ s.lists.executed)
          (queues : s'.lists.queues ≡ with_cell s.lists.queues owner i (queue_of s.lists owner i ++ (copy T oldest ∷ []))) where
        more : (x : Copy) → occ_of same_copy x (waiting_for p s'.lists owner)
            ≡ tally (same_copy x (copy T oldest)) + occ_of same_copy x (waiting_for p s.lists owner)
        more x =
            omega (
              arith,
              waiting-own p owner i inside s.lists s'.lists (queue_of s.lists owner i ++ (copy T oldest ∷ [])) queues worker sane.shaped
                  (occ_of same_copy x) (occ-joined same_copy x p),
              occ-append same_copy x (queue_of s.lists owner i) (copy T oldest ∷ []),
              occ-cons same_copy x (copy T oldest) [],
              occ-nil same_copy x,
            )

        releases : system.Releases same_copy (copies_of g) p i (copy T oldest) before after
        unfolding meaning
        releases = record { rest = pending_of s.lists r; pending = pending-moves a (passes-pending f) refl; steps = refl; dues = rw same }

        -- all copies of its predecessor are recorded, and its release is due once
        falls : system.Falls same_copy (copies_of g) p (copy T oldest) 0 before after
        unfolding meaning
        falls =
            record {
              was = omega (arith, single, due, occ-hit same_copy (copy T oldest) (copy T oldest) (pending_of s.lists r) refl);
              now = omega (
                arith,
                single,
                due,
                missed (copy T oldest) same,
                occ-hit same_copy (copy T oldest) (copy T oldest) (pending_of s.lists r) refl,
                occ-hit same_copy (copy T oldest) (copy T oldest) releases.rest refl,
                sum-replaced (occ_of same_copy (copy T oldest)) releases.pending,
              );
              others = λ x m. omega (
                arith,
                missed x same,
                occ-miss same_copy x (copy T oldest) releases.rest m,
                sum-replaced (occ_of same_copy x) releases.pending,
              );
            }
          where
            single : sum_to p (λ j. occ_of same_copy (copy T oldest) (pending_in s j))
                + min 1 (missing same_copy ((copies_of g).preds (copy T oldest)) (done_of s)) ≤ 1
            single = weak-single g sound once p (copy T oldest) w

            due : occ_of same_copy (copy T oldest) (copy T oldest ∷ pending_of s.lists r)
                ≤ sum_to p (λ j. occ_of same_copy (copy T oldest) (pending_in s j))
            due =
                omega (
                  arith,
                  sum-prefix p (λ j. occ_of same_copy (copy T oldest) (pending_in s j)) i worker,
                  ap (occ_of same_copy (copy T oldest)) (passes-pending f),
                )

        released-weak : Weak g p after
        unfolding meaning
        released-weak =
            system.further w
            (system.place i owner (copy T oldest)
            (record {
              releases = releases;
              enters =
                  record {
                    waiting =
                        waiting-other p owner i inside s.lists s'.lists (queue_of s.lists owner i ++ (copy T oldest ∷ [])) queues;
                    added = record { more = more };
                    hand = hand-stays a (passes-goes f).hand;
                    done = rw same;
                  };
              falls = falls;
            }))
            tt

        released-sane : s'.lists.degrees ≡ s.lists.degrees → length s'.tids ≡ length s.tids → Even p s'.lists.counters → Sane g p s'
        released-sane d t c =
            sane-after a (ap length d) t
            (rw queues (even-with sane.shaped.queues owner i (queue_of s.lists owner i ++ (copy T oldest ∷ [])))) c
            ((passes-goes f).buffer (sane.buffers i)) (rw (passes-goes f).phase (sane.phases i)) (rw (passes-goes f).pointer (sane.pointers i worker))
            (λ u h. rw (d, same) (sane.left u h))

      module _ {o : WeakOutcome} {capacity : ℕ} where
        first-weak : {C : ℕ → Type 0} {W : ℕ → ℤ} → AllocatesFirst C W p capacity i s s' o → Weak g p after
        first-weak f =
            released-weak (first-acts worker sane.shaped f) f.pass f.owner (first-lt f.room) (rw f.after) (rw f.after)

        first-sane : {C : ℕ → Type 0} {W : ℕ → ℤ} → AllocatesFirst C W p capacity i s s' o → Sane g p s'
        first-sane f =
            released-sane (first-acts worker sane.shaped f) f.pass f.owner (first-lt f.room) (rw f.after) (rw f.after) (rw f.after)
            (rw f.after (length-set s.tids f.task f.owner)) (rw f.after (even-with sane.shaped.counters f.owner i _))

        later-weak : AllocatesLater p capacity i s s' o → Weak g p after
        later-weak f = released-weak (later-acts worker sane.shaped f) f.pass f.owner f.worker (rw f.after) (rw f.after)

        later-sane : AllocatesLater p capacity i s s' o → Sane g p s'
        later-sane f =
            released-sane (later-acts worker sane.shaped f) f.pass f.owner f.worker (rw f.after) (rw f.after) (rw f.after)
            (rw f.after) (rw f.after sane.shaped.counters)

  module _ {o : WeakOutcome} where
    fetch-sane : Fetches p i s s' o → Sane g p s'
    fetch-sane f =
        sane-after (fetch-acts worker sane.shaped f) (rw f.after) (rw f.after)
        (rw f.after (even-with sane.shaped.queues i f.list f.rest)) (rw f.after sane.shaped.counters)
        (same-buffer s.lists (thread_of s i) (sane.buffers i) 1 f.item ((f.list + 1) % p)) (omega arith) (mod-lt (f.list + 1) (omega (arith, worker)))
        (λ t h. rw f.after (sane.left t h))

    start-sane : Starts i s s' o → Sane g p s'
    start-sane f =
        sane-after (start-acts worker sane.shaped f) (rw f.after) (rw f.after) (rw f.after sane.shaped.queues)
        (rw f.after sane.shaped.counters)
        (same-buffer s.lists (thread_of s i) (sane.buffers i) 2 held (thread_of s i).pointer) (omega arith) (sane.pointers i worker)
        (λ t h. rw f.after (sane.left t h))

-- in a weak run, of a graph that begin accepts
module _ (g : Graph) (sound : Sound g) (once : NoneTwice g) (p capacity i : ℕ) (s s' : State) (o : WeakOutcome) (sane : Sane g p s) (n : ℕ)
    (w : Weak g p (meaning g p n s)) where
  -- each step of Algorithm 1 is a step of the system of copies, by the weak rule
  pub does-steps : (step : Step) → Does p capacity i step s s' o → Weak g p (meaning g p (suc n) s')
  does-steps step d = go step d.lines
    where
      go : (step : Step) → Lines p capacity i step s s' o → Weak g p (meaning g p (suc n) s')
      go Fetch f = system.further w (system.fetch i f.item (fetch-step g sound once p i d.thread s s' sane n f)) tt
      go Start f = system.further w (system.start i (thread_of s i).held (start-step g sound once p i d.thread s s' sane n f)) tt
      go Complete (copies f) = copy-weak g sound once p i d.thread s s' sane n w f
      go Complete (completes f) = task-weak g sound once p i d.thread s s' sane n w f
      go Release (first f) = first-weak g sound once p i d.thread s s' sane n w f
      go Release (later f) = later-weak g sound once p i d.thread s s' sane n w f

  -- and keeps the state sane
  pub does-sane : (step : Step) → Does p capacity i step s s' o → Sane g p s'
  does-sane step d = go step d.lines
    where
      go : (step : Step) → Lines p capacity i step s s' o → Sane g p s'
      go Fetch f = fetch-sane g sound once p i d.thread s s' sane f
      go Start f = start-sane g sound once p i d.thread s s' sane f
      go Complete (copies f) = copy-sane g sound once p i d.thread s s' sane n w f
      go Complete (completes f) = task-sane g sound once p i d.thread s s' sane n w f
      go Release (first f) = first-sane g sound once p i d.thread s s' sane n w f
      go Release (later f) = later-sane g sound once p i d.thread s s' sane n w f
