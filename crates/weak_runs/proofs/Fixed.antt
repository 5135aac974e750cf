-- A task's copies are all its worker's, once the first is made: after an accepted begin, and after each step of Algorithm 1 if they were before. A first
-- copy sets the thread ID of a task that has none: no copy of it waits, is in hand or is recorded then, since each of these has a thread below P.
use Prim.Native.Nat.{ℕ, ◌+◌, ◌≤◌, ◌<◌}
use mathlib.Core.Path.{◌≡◌, refl, sym, ap, ◌∙◌}
use mathlib.Core.Bool.{Bool, true, false, cond}
use mathlib.Core.Logic.{◌⊎◌, inr}
use mathlib.Core.List.{List, [], ◌∷◌, ◌++◌, map}
use native.Mathlib.Omega.{arith}
use native.Mathlib.Decide.{ℕ_discrete, dec_lt}
use lib.IntN.{ℤ}
use lib.Dec.{eqb, leb}
use lib.ListN.{length, get_or, set, get_or-eq_default}
use lib.Seq.{get_or-set_same, get_or-set_other}
use Rattle.lists.specs.Lists.{occ, occ_of, tabulate}
use Rattle.lists.specs.Squares.{cell, with_cell}
use Rattle.lists.proofs.Appends.{each_append}
use Rattle.lists.proofs.Decided.{stable, both?}
use Rattle.lists.proofs.Occurrences.{occ-nil, occ-cons, occ-hit, occ-miss, occ-append}
use Rattle.lists.proofs.Squares.{Even, even-put, cell_other}
use Rattle.lists.proofs.Told.{cond_either}
use Rattle.task.specs.Types.{nil}
use Rattle.task.specs.Entries.{Entry, entry_of}
use Rattle.task.specs.Refusals.{accepted, answer_says}
use Rattle.task.specs.declared.Limits.{Limits}
use Rattle.task.specs.declared.Step.{Step}
use Rattle.task.specs.declared.Step.TheVariants.{Fetch, Start, Complete, Release}
use Rattle.weak_task.specs.declared.WeakOutcome.{WeakOutcome}
use Rattle.weak_task.specs.declared.WeakRow.{WeakRow}
use Rattle.graph.specs.Graph.{Graph}
use Rattle.copies.specs.Copies.{Copy, copy, same_copy}
use Rattle.split_lists.specs.Items.{thread_with, fresh, queue_of}
use Rattle.split_lists.specs.Moves.{holding, executing, passed}
use Rattle.split_lists.proofs.Memories.{first-lt}
use Rattle.weak_rules.specs.Memory.{Mem, edges, graph_in, fixed_in, roots_word}
use Rattle.weak_rules.specs.Begin.{begin}
use Rattle.weak_rules.specs.Begun.{LaidDown, roots_of}
use Rattle.weak_rules.proofs.Begin.{begin-accepted}
use Rattle.weak_rules.proofs.Begun.{laid-row, laid-run, laid-fixes, laid-down}
use Rattle.weak_algorithm.specs.State.{no_item, Thread, State, thread_of, tid_of}
use Rattle.weak_algorithm.specs.Algorithm.{Fetches, Starts, CompletesCopy, CompletesTask, Passes, AllocatesFirst, AllocatesLater, copies, completes, first, later, Lines, Does}
use Rattle.weak_algorithm.specs.Reading.{record_in, state_of}
use Rattle.weak_algorithm.proofs.Readings.{queue-at, phase-at}
use Rattle.weak_runs.proofs.Invariant.{none, Sane, Fixed}

-- what holds of each place of a list, and of each cell of a table, where one is changed
pub place-each : {A : Type 0} (Q : ℕ → A → Type 0) (l : List A) (i : ℕ) (a d : A) → i < length l → Q i a
    → (j : ℕ) → Q j (get_or l j d) → Q j (get_or (set l i a) j d)
place-each Q l i a d h new j old = go (ℕ_discrete j i)
  where
    go : Dec (j ≡ i) → Q j (get_or (set l i a) j d)
    go (yes e) = rw (e, get_or-set_same l i a d h) new
    go (no n) = rw (get_or-set_other l i j a d n) old

pub cell-each : {A : Type 0} {n : ℕ} {rows : List (List A)} → Even n rows → (Q : ℕ → ℕ → A → Type 0) (i j : ℕ) (a d : A) → i < n → j < n → Q i j a
    → (h x : ℕ) → Q h x (cell d rows h x) → Q h x (cell d (with_cell rows i j a) h x)
cell-each {rows = rows} even Q i j a d hi hj new h x old = go (both? h x i j)
  where
    go : Dec ((h ≡ i) × (x ≡ j)) → Q h x (cell d (with_cell rows i j a) h x)
    go (yes (e, q)) = rw (e, q, even-put even i j a d hi hj) new
    go (no n) = rw (cell_other rows i j a d h x n) old

-- the place in a list of one
the-first : {x : ℕ} → x < 1 → ◌≡◌ {A = ℕ} x 0
the-first h = omega (arith, h)

-- Release leaves the phase
pub passed-phase : (count : ℕ) (rest : List ℕ) (r : Thread) → (passed count rest r).phase ≡ r.phase
passed-phase count rest r = go (eqb (r.cursor + 1) count)
  where
    go : (b : Bool)
        → (cond b (thread_with rest 0 r.phase r.held r.pointer) (thread_with r.buffer (r.cursor + 1) r.phase r.held r.pointer)).phase
        ≡ r.phase
    go true = refl
    go false = refl

module _ {g : Graph} {p i : ℕ} {s : State} (sane : Sane g p s) (fixed : Fixed g p s) (worker : i < p) where
  abbrev was : Thread
  was = thread_of s i

  thread-there : i < length s.lists.threads
  thread-there = omega (arith, worker, sane.shaped.threads)

  -- thread i becomes r, which is idle or holds a copy of a task that is fixed to i
  hands : (r : Thread) → (¬ (◌≡◌ {A = ℕ} r.phase 0) → tid_of s r.held.task ≡ i)
      → (h : ℕ) → h < p → ¬ (◌≡◌ {A = ℕ} (get_or (set s.lists.threads i r) h (fresh no_item)).phase 0)
      → tid_of s (get_or (set s.lists.threads i r) h (fresh no_item)).held.task ≡ h
  hands r own h l =
      place-each (λ h t. ¬ (◌≡◌ {A = ℕ} t.phase 0) → tid_of s t.held.task ≡ h) s.lists.threads i r (fresh no_item) thread-there own h
      (fixed.in_hand h l)

  fetch-fixed : {s' : State} {o : WeakOutcome} → Fetches p i s s' o → Fixed g p s'
  fetch-fixed f =
      rw f.after (record {
        range = fixed.range;
        waiting = λ h x c hh hx.
            cell-each sane.shaped.queues (λ h x l. 0 < occ_of same_copy c l → tid_of s c.task ≡ h) i f.list f.rest [] worker below
            (λ m. own c (omega (arith, m, occ-cons same_copy c f.item f.rest))) h x (fixed.waiting h x c hh hx);
        in_hand = hands (holding p f.list f.item was) (λ n. own f.item (omega (arith, occ-hit same_copy f.item f.item f.rest refl)));
        recorded = fixed.recorded;
        named = fixed.named;
      })
    where
      below : f.list < p
      below = first-lt f.first

      own : (c : Copy) → 0 < occ_of same_copy c (f.item ∷ f.rest) → tid_of s c.task ≡ i
      own c h = fixed.waiting i f.list c worker below (rw f.head h)

  start-fixed : {s' : State} {o : WeakOutcome} → Starts i s s' o → Fixed g p s'
  start-fixed f =
      rw f.after (record {
        range = fixed.range;
        waiting = fixed.waiting;
        in_hand = hands (executing was) (λ n. fixed.in_hand i worker (λ z. omega (arith, z, f.phase)));
        recorded = fixed.recorded;
        named = fixed.named;
      })

  -- the copy in hand joins the record
  record-own : ¬ (◌≡◌ {A = ℕ} was.phase 0) → (x : ℕ) → x < length (s.lists.executed ++ (entry_of was.held i ∷ []))
      → tid_of s (get_or (s.lists.executed ++ (entry_of was.held i ∷ [])) x none).item.task
      ≡ (get_or (s.lists.executed ++ (entry_of was.held i ∷ [])) x none).worker
  record-own busy =
      each_append (λ (e : Entry Copy). tid_of s e.item.task ≡ e.worker) none s.lists.executed (entry_of was.held i ∷ []) fixed.recorded single
    where
      single : (x : ℕ) → x < 1
          → tid_of s (get_or (entry_of was.held i ∷ []) x none).item.task ≡ (get_or (entry_of was.held i ∷ []) x none).worker
      single x h = rw (the-first h) (fixed.in_hand i worker busy)

  record-named : (x : ℕ) → x < length (s.lists.executed ++ (entry_of was.held i ∷ []))
      → (get_or (s.lists.executed ++ (entry_of was.held i ∷ [])) x none).worker < p
  record-named =
      each_append (λ (e : Entry Copy). e.worker < p) none s.lists.executed (entry_of was.held i ∷ []) fixed.named single
    where
      single : (x : ℕ) → x < 1 → (get_or (entry_of was.held i ∷ []) x none).worker < p
      single x h = rw (the-first h) worker

  copy-fixed : {s' : State} {o : WeakOutcome} → CompletesCopy i s s' o → Fixed g p s'
  copy-fixed f =
      rw f.after (record {
        range = fixed.range;
        waiting = fixed.waiting;
        in_hand = hands _ (λ n. absurd (n refl));
        recorded = record-own (λ z. omega (arith, z, f.phase));
        named = record-named;
      })

  task-fixed : {s' : State} {o : WeakOutcome} → CompletesTask i s s' o → Fixed g p s'
  task-fixed f =
      rw f.after (record {
        range = fixed.range;
        waiting = fixed.waiting;
        in_hand = hands _ (λ n. absurd (n refl));
        recorded = record-own (λ z. omega (arith, z, f.phase));
        named = record-named;
      })

  module _ {T oldest : ℕ} {next : Thread} (pass : Passes i s T oldest next) where
    -- thread i stays idle
    next-idle : ◌≡◌ {A = ℕ} next.phase 0
    next-idle = ap (λ (r : Thread). r.phase) pass.thread ∙ passed-phase _ pass.rest was ∙ pass.phase

  later-fixed : {capacity : ℕ} {s' : State} {o : WeakOutcome} → AllocatesLater p capacity i s s' o → Fixed g p s'
  later-fixed f =
      rw f.after (record {
        range = fixed.range;
        waiting = λ h x c hh hx.
            cell-each sane.shaped.queues (λ h x l. 0 < occ_of same_copy c l → tid_of s c.task ≡ h) f.owner i _ [] f.worker worker
            (λ m. own c m (same_copy c new)) h x (fixed.waiting h x c hh hx);
        in_hand = hands f.next (λ n. absurd (n (next-idle f.pass)));
        recorded = fixed.recorded;
        named = fixed.named;
      })
    where
      new : Copy
      new = copy f.task f.oldest

      own : (c : Copy) → 0 < occ_of same_copy c (queue_of s.lists f.owner i ++ (new ∷ [])) → Dec (c ≡ new) → tid_of s c.task ≡ f.owner
      own c m (yes e) = rw e f.fixed
      own c m (no n) =
          fixed.waiting f.owner i c f.worker worker
          (omega (arith, m, occ-append same_copy c (queue_of s.lists f.owner i) (new ∷ []), occ-miss same_copy c new [] n, occ-nil same_copy c))

  module _ (few : p ≤ nil.0) (T owner : ℕ) (unfixed : tid_of s T ≡ nil.0) (below : owner < p) where
    -- a task without a thread ID is a task, and no worker's
    pub unfixed-task : T < g.tasks
    unfixed-task =
        stable (dec_lt T g.tasks) (λ n. omega (arith, unfixed, get_or-eq_default s.tids 0 {n = T} (omega (arith, n, sane.tids))))

    pub fixed-other : (t h : ℕ) → h < p → tid_of s t ≡ h → ¬ (t ≡ T)
    fixed-other t h l e q = omega (arith, l, few, e, unfixed, ap (tid_of s) q)

    still : (t h : ℕ) → h < p → tid_of s t ≡ h → get_or (set s.tids T owner) t 0 ≡ h
    still t h l e = get_or-set_other s.tids T t owner 0 (fixed-other t h l e) ∙ e

    now : get_or (set s.tids T owner) T 0 ≡ owner
    now = get_or-set_same s.tids T owner 0 (omega (arith, unfixed-task, sane.tids))

    range-now : (t : ℕ) → t < g.tasks → (get_or (set s.tids T owner) t 0 ≡ nil.0) ⊎ (get_or (set s.tids T owner) t 0 < p)
    range-now t h =
        place-each (λ t x. (x ≡ nil.0) ⊎ (x < p)) s.tids T owner 0 (omega (arith, unfixed-task, sane.tids)) (inr below) t (fixed.range t h)

  first-fixed : {C : ℕ → Type 0} {W : ℕ → ℤ} {capacity : ℕ} {s' : State} {o : WeakOutcome} → p ≤ nil.0 → AllocatesFirst C W p capacity i s s' o → Fixed g p s'
  first-fixed few f =
      rw f.after (record {
        range = range-now few f.task f.owner f.unfixed below;
        waiting = λ h x c hh hx.
            cell-each sane.shaped.queues (λ h x l. 0 < occ_of same_copy c l → get_or (set s.tids f.task f.owner) c.task 0 ≡ h) f.owner i _ []
            below worker (λ m. own c m (same_copy c new)) h x (λ m. kept c.task h hh (fixed.waiting h x c hh hx m));
        in_hand = λ h hh n. kept _ h hh (hands f.next (λ n. absurd (n (next-idle f.pass))) h hh n);
        recorded = λ x h. kept _ _ (fixed.named x h) (fixed.recorded x h);
        named = fixed.named;
      })
    where
      below : f.owner < p
      below = first-lt f.room

      new : Copy
      new = copy f.task f.oldest

      kept : (t h : ℕ) → h < p → tid_of s t ≡ h → get_or (set s.tids f.task f.owner) t 0 ≡ h
      kept = still few f.task f.owner f.unfixed below

      own : (c : Copy) → 0 < occ_of same_copy c (queue_of s.lists f.owner i ++ (new ∷ [])) → Dec (c ≡ new)
          → get_or (set s.tids f.task f.owner) c.task 0 ≡ f.owner
      own c m (yes e) = rw e (now few f.task f.owner f.unfixed below)
      own c m (no n) =
          kept c.task f.owner below
          (fixed.waiting f.owner i c below worker
          (omega (arith, m, occ-append same_copy c (queue_of s.lists f.owner i) (new ∷ []), occ-miss same_copy c new [] n, occ-nil same_copy c)))

pub does-fixed : {g : Graph} {p capacity i : ℕ} {step : Step} {s s' : State} {o : WeakOutcome} → Sane g p s → Fixed g p s
    → Does p capacity i step s s' o → Fixed g p s'
does-fixed {g} {p} {capacity} {i} {step} {s} {s'} {o} sane fixed d = go step d.lines
  where
    go : (step : Step) → Lines p capacity i step s s' o → Fixed g p s'
    go Fetch f = fetch-fixed sane fixed d.thread f
    go Start f = start-fixed sane fixed d.thread f
    go Complete (copies f) = copy-fixed sane fixed d.thread f
    go Complete (completes f) = task-fixed sane fixed d.thread f
    go Release (first f) = first-fixed sane fixed d.thread d.few f
    go Release (later f) = later-fixed sane fixed d.thread f

-- a root's copy that stands among those of a list of roots
root-among : (c : Copy) (ts : List ℕ) → 0 < occ_of same_copy c (map (λ t. copy t nil.0) ts) → 0 < occ c.task ts
root-among c [] h = absurd (omega (arith, h, occ-nil same_copy c))
root-among c (t ∷ ts) h = go (same_copy c (copy t nil.0)) (root-among c ts)
  where
    go : Dec (c ≡ copy t nil.0) → (0 < occ_of same_copy c (map (λ t. copy t nil.0) ts) → 0 < occ c.task ts) → 0 < occ c.task (t ∷ ts)
    go (yes e) r = omega (arith, occ-hit ℕ_discrete c.task t ts (ap (λ (x : Copy). x.task) e))
    go (no n) r =
        omega (
          arith,
          r (omega (arith, h, occ-miss same_copy c (copy t nil.0) (map (λ t. copy t nil.0) ts) n)),
          occ-cons ℕ_discrete c.task t ts,
        )

module _ {p k : ℕ} {m b : Mem} (one : 1 ≤ p) (laid : LaidDown p k m b) where
  -- nothing is recorded
  laid-record : (state_of p k b).lists.executed ≡ []
  unfolding state_of record_in tabulate
  laid-record = rw (laid-run laid 0 (omega arith)) (cond_either (leb 0 (edges b + roots_word b)) [])

  laid-waiting : (i j : ℕ) (c : Copy) → i < p → j < p → 0 < occ_of same_copy c (queue_of (state_of p k b).lists i j) → fixed_in b c.task ≡ i
  laid-waiting i j c hi hj h = go (ℕ_discrete i j)
    where
      go : Dec (i ≡ j) → fixed_in b c.task ≡ i
      go (yes e) =
          laid.fixed_root i c.task hi (root-among c (roots_of p i m) (rw (queue-at p k b i j hi hj, sym e, laid.own i hi) at h))
      go (no n) = absurd (omega (arith, occ-nil same_copy c, rw (queue-at p k b i j hi hj, laid.empty i j hi hj n) at h))

  -- a root's copy waits with the worker that it is fixed to
  pub laid-fixed : Fixed (graph_in b) p (state_of p k b)
  unfolding state_of
  laid-fixed =
      record {
        range = λ t h. laid-fixes laid one t (omega (arith, h, ap length laid.weights));
        waiting = laid-waiting;
        in_hand = λ i h n. absurd (n (phase-at p k b i h ∙ ap (λ (r : WeakRow). r.phase) (laid-row laid i)));
        recorded = λ x h. absurd (omega (arith, h, ap length laid-record));
        named = λ x h. absurd (omega (arith, h, ap length laid-record));
      }

pub begun-fixed : (limits : Limits) (p k : ℕ) (m : Mem) → answer_says (begin limits p k m).answer ≡ accepted
    → Fixed (graph_in (begin limits p k m).memory) p (state_of p k (begin limits p k m).memory)
begun-fixed limits p k m e = laid-fixed ((begin-accepted limits p k m).0 e).0.limits.one_worker (laid-down limits p k m e)
