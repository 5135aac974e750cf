-- "65,535 before": a task of which no copy waits, is in hand or is recorded has no thread ID, after an accepted begin and after each step of Algorithm 1. A step
-- after which there is no such copy had none before it, since a copy only ever moves on: from a list into a hand, from a hand into the record.
use Prim.Native.Nat.{ℕ, ◌≤◌, ◌<◌}
use mathlib.Core.Path.{◌≡◌, refl, sym, ap, ◌∙◌}
use mathlib.Core.List.{List, [], ◌∷◌, ◌++◌}
use native.Mathlib.Omega.{arith}
use native.Mathlib.Decide.{ℕ_discrete}
use lib.IntN.{ℤ}
use lib.ListN.{length, get_or, set, length-append}
use lib.Seq.{get_or-set_same, get_or-set_other}
use Rattle.lists.specs.Lists.{occ, occ_of}
use Rattle.lists.specs.Squares.{cell, with_cell}
use Rattle.lists.proofs.Appends.{get_d-snoc-other}
use Rattle.lists.proofs.Decided.{both?}
use Rattle.lists.proofs.Occurrences.{occ-hit, occ-miss, occ-append}
use Rattle.lists.proofs.Squares.{Even, even-put, cell_other}
use Rattle.lists.proofs.Sums.{sum-find}
use Rattle.task.specs.Types.{nil}
use Rattle.task.specs.Entries.{Entry, entry_of}
use Rattle.task.specs.Refusals.{accepted, answer_says}
use Rattle.task.specs.declared.Limits.{Limits}
use Rattle.task.specs.declared.Step.{Step}
use Rattle.task.specs.declared.Step.TheVariants.{Fetch, Start, Complete, Release}
use Rattle.weak_task.specs.declared.WeakOutcome.{WeakOutcome}
use Rattle.graph.specs.Graph.{Graph, preds_of}
use Rattle.graph.specs.Successors.{roots}
use Rattle.graph.proofs.Reversed.{roots-are}
use Rattle.plans.specs.Laying.{dealt}
use Rattle.plans.proofs.Dealt.{occ-dealt}
use Rattle.copies.specs.Copies.{Copy, copy, same_copy}
use Rattle.copies.proofs.Copies.{occ-map}
use Rattle.split_lists.specs.Items.{fresh, queue_of}
use Rattle.split_lists.specs.Moves.{holding, executing}
use Rattle.split_lists.proofs.Memories.{first-lt}
use Rattle.weak_rules.specs.Memory.{Mem, tasks, graph_in, fixed_in}
use Rattle.weak_rules.specs.Begin.{begin}
use Rattle.weak_rules.specs.Begun.{LaidDown, roots_of}
use Rattle.weak_rules.proofs.Begin.{begin-accepted}
use Rattle.weak_rules.proofs.Begun.{laid-down}
use Rattle.weak_algorithm.specs.State.{no_item, Thread, State, thread_of, tid_of}
use Rattle.weak_algorithm.specs.Algorithm.{Fetches, Starts, CompletesCopy, CompletesTask, AllocatesFirst, AllocatesLater, copies, completes, first, later, Lines, Does}
use Rattle.weak_algorithm.specs.Reading.{state_of}
use Rattle.weak_algorithm.proofs.Readings.{queue-at}
use Rattle.weak_runs.proofs.Invariant.{none, Sane}

-- no copy of task t waits, is in hand or is recorded
pub record NoCopy (p : ℕ) (s : State) (t : ℕ) : Type 0 where
  pub waiting : (i j : ℕ) (c : Copy) → i < p → j < p → c.task ≡ t → ◌≡◌ {A = ℕ} (occ_of same_copy c (queue_of s.lists i j)) 0
  pub in_hand : (i : ℕ) → i < p → ¬ (◌≡◌ {A = ℕ} (thread_of s i).phase 0) → ¬ ((thread_of s i).held.task ≡ t)
  pub recorded : (x : ℕ) → x < length s.lists.executed → ¬ ((get_or s.lists.executed x none).item.task ≡ t)

pub record Unmade (g : Graph) (p : ℕ) (s : State) : Type 0 where
  pub before : (t : ℕ) → t < g.tasks → NoCopy p s t → tid_of s t ≡ nil.0

-- what held of each place of a list, and of each cell of a table, before one was changed
place-was : {A : Type 0} (Q : ℕ → A → Type 0) (l : List A) (i : ℕ) (a d : A) → i < length l → (Q i a → Q i (get_or l i d))
    → (j : ℕ) → Q j (get_or (set l i a) j d) → Q j (get_or l j d)
place-was Q l i a d h old j new = go (ℕ_discrete j i)
  where
    go : Dec (j ≡ i) → Q j (get_or l j d)
    go (yes e) = rw e (old (rw (e, get_or-set_same l i a d h) at new))
    go (no n) = rw (get_or-set_other l i j a d n) at new

cell-was : {A : Type 0} {n : ℕ} {rows : List (List A)} → Even n rows → (Q : ℕ → ℕ → A → Type 0) (i j : ℕ) (a d : A) → i < n → j < n
    → (Q i j a → Q i j (cell d rows i j)) → (h x : ℕ) → Q h x (cell d (with_cell rows i j a) h x) → Q h x (cell d rows h x)
cell-was {rows = rows} even Q i j a d hi hj old h x new = go (both? h x i j)
  where
    go : Dec ((h ≡ i) × (x ≡ j)) → Q h x (cell d rows h x)
    go (yes (e, q)) = rw (e, q) (old (rw (e, q, even-put even i j a d hi hj) at new))
    go (no n) = rw (cell_other rows i j a d h x n) at new

-- where one member is added
snoc-last : {A : Type 0} (l : List A) (a d : A) → get_or (l ++ (a ∷ [])) (length l) d ≡ a
snoc-last [] a d = refl
snoc-last (x ∷ l) a d = snoc-last l a d

module _ {g : Graph} {p i : ℕ} {s : State} (sane : Sane g p s) (unmade : Unmade g p s) (worker : i < p) where
  abbrev was : Thread
  was = thread_of s i

  thread-there : i < length s.lists.threads
  thread-there = omega (arith, worker, sane.shaped.threads)

  -- nobody's hand but i's changes, which had no copy of t
  hands-were : (t : ℕ) (r : Thread)
      → ((¬ (◌≡◌ {A = ℕ} r.phase 0) → ¬ (r.held.task ≡ t)) → ¬ (◌≡◌ {A = ℕ} was.phase 0) → ¬ (was.held.task ≡ t))
      → (h : ℕ) → (¬ (◌≡◌ {A = ℕ} (get_or (set s.lists.threads i r) h (fresh no_item)).phase 0)
      → ¬ ((get_or (set s.lists.threads i r) h (fresh no_item)).held.task ≡ t))
      → ¬ (◌≡◌ {A = ℕ} (thread_of s h).phase 0) → ¬ ((thread_of s h).held.task ≡ t)
  hands-were t r own h new =
      place-was (λ h (x : Thread). ¬ (◌≡◌ {A = ℕ} x.phase 0) → ¬ (x.held.task ≡ t)) s.lists.threads i r (fresh no_item) thread-there own h new

  fetch-unmade : {s' : State} {o : WeakOutcome} → Fetches p i s s' o → Unmade g p s'
  fetch-unmade f =
      rw f.after (record {
        before = λ t h n. unmade.before t h (record {
          waiting = λ a x c ha hx e.
              cell-was sane.shaped.queues (λ a x l. ◌≡◌ {A = ℕ} (occ_of same_copy c l) 0) i f.list f.rest [] worker (first-lt f.first)
              (λ z. rw f.head (head t c e z (taken t (n.in_hand i worker)) (same_copy c f.item))) a x (n.waiting a x c ha hx e);
          in_hand = λ a ha. hands-were t (holding p f.list f.item was) (λ new busy. absurd (busy f.phase)) a (n.in_hand a ha);
          recorded = n.recorded;
        });
      })
    where
      -- the copy taken is another task's
      taken : (t : ℕ)
          → (¬ (◌≡◌ {A = ℕ} (get_or (set s.lists.threads i (holding p f.list f.item was)) i (fresh no_item)).phase 0)
          → ¬ ((get_or (set s.lists.threads i (holding p f.list f.item was)) i (fresh no_item)).held.task ≡ t))
          → ¬ (f.item.task ≡ t)
      taken t n =
          (rw (get_or-set_same s.lists.threads i (holding p f.list f.item was) (fresh no_item) thread-there) at n) (λ z. omega (arith, z))

      head : (t : ℕ) (c : Copy) → c.task ≡ t → ◌≡◌ {A = ℕ} (occ_of same_copy c f.rest) 0 → ¬ (f.item.task ≡ t) → Dec (c ≡ f.item)
          → ◌≡◌ {A = ℕ} (occ_of same_copy c (f.item ∷ f.rest)) 0
      head t c e z other (yes q) = absurd (other (ap (λ (x : Copy). x.task) (sym q) ∙ e))
      head t c e z other (no q) = omega (arith, z, occ-miss same_copy c f.item f.rest q)

  start-unmade : {s' : State} {o : WeakOutcome} → Starts i s s' o → Unmade g p s'
  start-unmade f =
      rw f.after (record {
        before = λ t h n. unmade.before t h (record {
          waiting = n.waiting;
          in_hand = λ a ha. hands-were t (executing was) (λ new busy. new (λ z. omega (arith, z))) a (n.in_hand a ha);
          recorded = n.recorded;
        });
      })

  -- the copy in hand joins the record
  joined-other : (t : ℕ) → ((x : ℕ) → x < length (s.lists.executed ++ (entry_of was.held i ∷ []))
      → ¬ ((get_or (s.lists.executed ++ (entry_of was.held i ∷ [])) x none).item.task ≡ t))
      → ¬ (was.held.task ≡ t)
  joined-other t n e =
      n (length s.lists.executed) (omega (arith, length-append s.lists.executed (entry_of was.held i ∷ [])))
      (ap (λ (x : Entry Copy). x.item.task) (snoc-last s.lists.executed (entry_of was.held i) none) ∙ e)

  joined-others : (t : ℕ) → ((x : ℕ) → x < length (s.lists.executed ++ (entry_of was.held i ∷ []))
      → ¬ ((get_or (s.lists.executed ++ (entry_of was.held i ∷ [])) x none).item.task ≡ t))
      → (x : ℕ) → x < length s.lists.executed → ¬ ((get_or s.lists.executed x none).item.task ≡ t)
  joined-others t n x h e =
      n x (omega (arith, h, length-append s.lists.executed (entry_of was.held i ∷ [])))
      (ap (λ (y : Entry Copy). y.item.task) (get_d-snoc-other s.lists.executed (entry_of was.held i) x none (λ q. omega (arith, q, h))) ∙ e)

  copy-unmade : {s' : State} {o : WeakOutcome} → CompletesCopy i s s' o → Unmade g p s'
  copy-unmade f =
      rw f.after (record {
        before = λ t h n. unmade.before t h (record {
          waiting = n.waiting;
          in_hand = λ a ha. hands-were t _ (λ new busy. joined-other t n.recorded) a (n.in_hand a ha);
          recorded = joined-others t n.recorded;
        });
      })

  task-unmade : {s' : State} {o : WeakOutcome} → CompletesTask i s s' o → Unmade g p s'
  task-unmade f =
      rw f.after (record {
        before = λ t h n. unmade.before t h (record {
          waiting = n.waiting;
          in_hand = λ a ha. hands-were t _ (λ new busy. joined-other t n.recorded) a (n.in_hand a ha);
          recorded = joined-others t n.recorded;
        });
      })

  -- a copy joins the list of owner and i
  lists-were : (c new : Copy) (owner : ℕ) → owner < p → (a x : ℕ)
      → ◌≡◌ {A = ℕ} (occ_of same_copy c (cell [] (with_cell s.lists.queues owner i (queue_of s.lists owner i ++ (new ∷ []))) a x)) 0
      → ◌≡◌ {A = ℕ} (occ_of same_copy c (queue_of s.lists a x)) 0
  lists-were c new owner below a x =
      cell-was sane.shaped.queues (λ a x l. ◌≡◌ {A = ℕ} (occ_of same_copy c l) 0) owner i _ [] below worker
      (λ z. omega (arith, z, occ-append same_copy c (queue_of s.lists owner i) (new ∷ []))) a x

  later-unmade : {capacity : ℕ} {s' : State} {o : WeakOutcome} → AllocatesLater p capacity i s s' o → Unmade g p s'
  later-unmade f =
      rw f.after (record {
        before = λ t h n. unmade.before t h (record {
          waiting = λ a x c ha hx e. lists-were c (copy f.task f.oldest) f.owner f.worker a x (n.waiting a x c ha hx e);
          in_hand = λ a ha. hands-were t f.next (λ new busy. absurd (busy f.pass.phase)) a (n.in_hand a ha);
          recorded = n.recorded;
        });
      })

  first-unmade : {C : ℕ → Type 0} {W : ℕ → ℤ} {capacity : ℕ} {s' : State} {o : WeakOutcome} → AllocatesFirst C W p capacity i s s' o → Unmade g p s'
  first-unmade f =
      rw f.after (record {
        before = λ t h n. go t h (ℕ_discrete t f.task) (n.waiting f.owner i new below worker) (record {
          waiting = λ a x c ha hx e. lists-were c new f.owner below a x (n.waiting a x c ha hx e);
          in_hand = λ a ha. hands-were t f.next (λ new busy. absurd (busy f.pass.phase)) a (n.in_hand a ha);
          recorded = n.recorded;
        });
      })
    where
      below : f.owner < p
      below = first-lt f.room

      new : Copy
      new = copy f.task f.oldest

      go : (t : ℕ) → t < g.tasks → Dec (t ≡ f.task)
          → (f.task ≡ t
          → ◌≡◌ {A = ℕ} (occ_of same_copy new (cell [] (with_cell s.lists.queues f.owner i (queue_of s.lists f.owner i ++ (new ∷ []))) f.owner i)) 0)
          → NoCopy p s t → get_or (set s.tids f.task f.owner) t 0 ≡ nil.0
      go t h (yes e) joined n =
          absurd (omega (
            arith,
            rw (even-put sane.shaped.queues f.owner i (queue_of s.lists f.owner i ++ (new ∷ [])) [] below worker) at (joined (sym e)),
            occ-append same_copy new (queue_of s.lists f.owner i) (new ∷ []),
            occ-hit same_copy new new [] refl,
          ))
      go t h (no q) joined n = get_or-set_other s.tids f.task t f.owner 0 q ∙ unmade.before t h n

pub does-unmade : {g : Graph} {p capacity i : ℕ} {step : Step} {s s' : State} {o : WeakOutcome} → Sane g p s → Unmade g p s
    → Does p capacity i step s s' o → Unmade g p s'
does-unmade {g} {p} {capacity} {i} {step} {s} {s'} {o} sane unmade d = go step d.lines
  where
    go : (step : Step) → Lines p capacity i step s s' o → Unmade g p s'
    go Fetch f = fetch-unmade sane unmade d.thread f
    go Start f = start-unmade sane unmade d.thread f
    go Complete (copies f) = copy-unmade sane unmade d.thread f
    go Complete (completes f) = task-unmade sane unmade d.thread f
    go Release (first f) = first-unmade sane unmade d.thread f
    go Release (later f) = later-unmade sane unmade d.thread f

-- a root's copy waits, and every other task has no thread ID
module _ {p k : ℕ} {m b : Mem} (one : 1 ≤ p) (laid : LaidDown p k m b) where
  pub laid-unmade : Unmade (graph_in b) p (state_of p k b)
  unfolding state_of
  laid-unmade = record { before = λ t h n. go t (omega (arith, h, ap length laid.weights)) (ℕ_discrete (length (preds_of (graph_in m) t)) 0) n }
    where
      waits : (t i : ℕ) → i < p → 0 < occ t (roots_of p i m) → NoCopy p (state_of p k b) t → ⊥
      waits t i l among n =
          omega (
            arith,
            among,
            rw (queue-at p k b i i l l, laid.own i l) at (n.waiting i i (copy t nil.0) l l refl),
            occ-map ℕ_discrete same_copy (λ (u : ℕ). copy u nil.0) (λ x y e. ap (λ (c : Copy). c.task) e) t (roots_of p i m),
          )

      at : (t : ℕ) → (i : ℕ) × (i < p) × (0 < occ t (dealt p i 0 (roots (graph_in m)))) → NoCopy p (state_of p k b) t → ⊥
      at t (i, l, among) = waits t i l among

      go : (t : ℕ) → t < tasks m → Dec (length (preds_of (graph_in m) t) ≡ 0) → NoCopy p (state_of p k b) t → fixed_in b t ≡ nil.0
      go t h (yes none) n =
          absurd (at t
          (sum-find p (λ i. occ t (dealt p i 0 (roots (graph_in m))))
          (omega (arith, (roots-are (graph_in m) t).1 (h, none), occ-dealt p one t 0 (roots (graph_in m))))) n)
      go t h (no inner) n = laid.fixed_none t h (omega (arith, inner))

pub begun-unmade : (limits : Limits) (p k : ℕ) (m : Mem) → answer_says (begin limits p k m).answer ≡ accepted
    → Unmade (graph_in (begin limits p k m).memory) p (state_of p k (begin limits p k m).memory)
begun-unmade limits p k m e = laid-unmade ((begin-accepted limits p k m).0 e).0.limits.one_worker (laid-down limits p k m e)
