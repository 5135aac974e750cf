-- What a state of Algorithm 1 means, its items being of any type: the successors that a thread has yet to release, and how these and the hands change
-- with one buffer, one thread; and, of a plain job, the thread that each step of Algorithm 1 writes.
use Prim.Native.Nat.{ℕ, suc, ◌+◌, ◌≤◌, ◌<◌}
use mathlib.Core.Path.{◌≡◌, refl, sym, ap, ◌∙◌}
use mathlib.Core.Bool.{Bool, cond}
use mathlib.Core.List.{List, [], ◌∷◌, ◌++◌, append-nil, append_assoc}
use native.Mathlib.Omega.{arith}
use native.Mathlib.Decide.{ℕ_discrete}
use lib.IntN.{ℤ}
use lib.ListN.{length, get_or, set, drop, length-append, drop_of_length-le}
use lib.Seq.{drop-cons, drop-append-le, get_or-set_same, get_or-set_other}
use Rattle.lists.specs.Lists.{occ}
use Rattle.lists.proofs.Apart.{cons-not-nil}
use Rattle.lists.proofs.Appends.{head-same}
use Rattle.lists.proofs.Decided.{tally-no}
use Rattle.lists.proofs.Occurrences.{occ-cons, occ-hit}
use Rattle.lists.proofs.Prefixes.{occ-snoc}
use Rattle.lists.proofs.Told.{Told, told-true, told-false, same-told}
use Rattle.task.specs.Types.{nil}
use Rattle.task.specs.Entries.{Entry}
use Rattle.task.specs.declared.StepOutcome.{StepOutcome}
use Rattle.algorithm1.specs.Items as items
use Rattle.algorithm1.specs.Items.{fresh}
use Rattle.algorithm1.specs.State.{Thread, thread_with, State, successors_of, thread_of}
use Rattle.algorithm1.specs.Algorithm.{holding, executing, buffered, passed, completed, Passes, Fetches, Starts, Completes, Lowers, Allocates}
use Rattle.system.specs.Stages.{Hand, Replaced}
use Rattle.runs.specs.Items.{hand_of}
use Rattle.runs.proofs.Invariant.{followers, pending_of, tasks_of, Shaped, Buffered}

-- each entry is an item, and one more is one more
pub length-tasks : {A : Type 0} (es : List (Entry A)) → length (tasks_of es) ≡ length es
unfolding tasks_of
length-tasks [] = refl
length-tasks (e ∷ es) = ap suc (length-tasks es)

pub tasks-snoc : {A : Type 0} (es : List (Entry A)) (e : Entry A) → tasks_of (es ++ (e ∷ [])) ≡ tasks_of es ++ (e.item ∷ [])
unfolding tasks_of
tasks-snoc [] e = refl
tasks-snoc {A} (x ∷ es) e = ap (λ (l : List A). x.item ∷ l) (tasks-snoc es e)

module _ {A : Type 0} (s : items.State A) where
  followers-cons : (t : ℕ) (ts : List ℕ) → followers s (t ∷ ts) ≡ successors_of s t ++ followers s ts
  unfolding followers
  followers-cons t ts = refl

  followers-snoc : (ts : List ℕ) (t : ℕ) → followers s (ts ++ (t ∷ [])) ≡ followers s ts ++ successors_of s t
  unfolding followers
  followers-snoc [] t = append-nil (successors_of s t)
  followers-snoc (u ∷ ts) t =
      ap (λ (l : List ℕ). successors_of s u ++ l) (followers-snoc ts t) ∙ sym (append_assoc (successors_of s u) (followers s ts) (successors_of s t))

  -- a task without successors adds none, in the buffer or not
  followers-buffered : (ts : List ℕ) (t : ℕ) → followers s (buffered (successors_of s t) t ts) ≡ followers s ts ++ successors_of s t
  followers-buffered ts t = go (successors_of s t) refl
    where
      go : (l : List ℕ) → successors_of s t ≡ l → followers s (buffered l t ts) ≡ followers s ts ++ l
      go [] e = sym (append-nil (followers s ts))
      go (x ∷ l) e = followers-snoc ts t ∙ ap (λ (k : List ℕ). followers s ts ++ k) e

-- 001's line 17 buffers every task, document 01 those with successors: what is pending is the same
module _ (s : State) where
  pub buffered-anyway : (r : Thread) (t : ℕ)
      → pending_of s (thread_with (r.buffer ++ (t ∷ [])) r.cursor 0 nil.0 r.pointer)
      ≡ pending_of s (thread_with (buffered (successors_of s t) t r.buffer) r.cursor 0 nil.0 r.pointer)
  unfolding pending_of
  buffered-anyway r t = ap (drop r.cursor) (followers-snoc s r.buffer t ∙ sym (followers-buffered s r.buffer t))

-- what is pending depends on no other part of the state than the successors
followers-same : {A : Type 0} (s s' : items.State A) → s'.successors ≡ s.successors → (ts : List ℕ) → followers s' ts ≡ followers s ts
unfolding followers
followers-same s s' e [] = refl
followers-same s s' e (t ∷ ts) = rw (followers-same s s' e ts, e)

pending-same : {A : Type 0} (s s' : items.State A) → s'.successors ≡ s.successors → (r : items.Thread A) → pending_of s' r ≡ pending_of s r
unfolding pending_of
pending-same s s' e r = ap (drop r.cursor) (followers-same s s' e r.buffer)

-- a thread that keeps its buffer and cursor
pub same-buffer : {A : Type 0} (s : items.State A) (r : items.Thread A) → Buffered s r → (phase : ℕ) (held : A) (pointer : ℕ)
    → Buffered s (thread_with r.buffer r.cursor phase held pointer)
same-buffer s r b phase held pointer = record { each = b.each; cursor = b.cursor; none = b.none }

-- a thread's buffer, as a run keeps it
module _ {A : Type 0} (s : items.State A) (r : items.Thread A) (b : Buffered s r) where
  -- the cursor is not behind the last successor
  pub cursor-fits : r.cursor ≤ length (followers s r.buffer)
  cursor-fits = go r.buffer refl
    where
      go : (l : List ℕ) → r.buffer ≡ l → r.cursor ≤ length (followers s l)
      go [] e = omega (arith, b.none e)
      go (t ∷ ts) e =
          rw (followers-cons s t ts) (omega (arith, length-append (successors_of s t) (followers s ts), b.cursor t ts e))

  -- a completed task's successors are due after all others
  pub pending-completed : (t phase : ℕ) (held : A)
      → pending_of s (thread_with (buffered (successors_of s t) t r.buffer) r.cursor phase held r.pointer) ≡ pending_of s r ++ successors_of s t
  unfolding pending_of
  pending-completed t phase held =
      ap (drop r.cursor) (followers-buffered s r.buffer t) ∙ drop-append-le r.cursor (followers s r.buffer) (successors_of s t) cursor-fits

  -- a task with successors joins it
  joined-buffer : (t : ℕ) → 0 < length (successors_of s t) → (phase : ℕ) (held : A)
      → Buffered s (thread_with (r.buffer ++ (t ∷ [])) r.cursor phase held r.pointer)
  joined-buffer t some phase held =
      record {
        each = λ u h. each u h (ℕ_discrete u t);
        cursor = λ u rest e. first u rest r.buffer refl e;
        none = λ e. full r.buffer refl e;
      }
    where
      each : (u : ℕ) → 0 < occ u (r.buffer ++ (t ∷ [])) → Dec (u ≡ t) → 0 < length (successors_of s u)
      each u h (yes e) = rw e some
      each u h (no n) = b.each u (omega (arith, h, occ-snoc u t r.buffer, tally-no (ℕ_discrete u t) n))

      -- the task is the oldest where the buffer was empty
      first : (u : ℕ) (rest l : List ℕ) → r.buffer ≡ l → l ++ (t ∷ []) ≡ u ∷ rest → r.cursor < length (successors_of s u)
      first u rest [] q e = rw (sym (head-same e), b.none q) some
      first u rest (x ∷ l) q e = b.cursor u l (q ∙ ap (λ (y : ℕ). y ∷ l) (head-same e))

      full : (l : List ℕ) → r.buffer ≡ l → l ++ (t ∷ []) ≡ [] → ◌≡◌ {A = ℕ} r.cursor 0
      full [] q e = b.none q
      full (x ∷ l) q e = absurd (cons-not-nil x (l ++ (t ∷ [])) e)

  pub buffered-completed : (t phase : ℕ) (held : A)
      → Buffered s (thread_with (buffered (successors_of s t) t r.buffer) r.cursor phase held r.pointer)
  buffered-completed t phase held = go (successors_of s t) refl
    where
      go : (l : List ℕ) → successors_of s t ≡ l → Buffered s (thread_with (buffered l t r.buffer) r.cursor phase held r.pointer)
      go [] e = record { each = b.each; cursor = b.cursor; none = b.none }
      go (x ∷ l) e = joined-buffer t (rw e (omega arith)) phase held

-- what one pass of line 6 makes of a thread: T is released
pub record Goes {A : Type 0} (s : items.State A) (T : ℕ) (r r' : items.Thread A) : Type 0 where
  pub hand : hand_of r' ≡ hand_of r
  pub phase : r'.phase ≡ r.phase
  pub pointer : r'.pointer ≡ r.pointer
  pub pending : pending_of s r ≡ T ∷ pending_of s r'
  pub buffer : Buffered s r → Buffered s r'

module _ {A : Type 0} (s : items.State A) (r : items.Thread A) (oldest : ℕ) (rest : List ℕ) (e : r.buffer ≡ oldest ∷ rest)
    (inside : r.cursor < length (successors_of s oldest)) where
  -- the successor at the cursor, then the oldest task's others, then the other tasks'
  pending-first : pending_of s r
      ≡ get_or (successors_of s oldest) r.cursor 0 ∷ (drop (r.cursor + 1) (successors_of s oldest) ++ followers s rest)
  unfolding pending_of
  pending-first =
      rw (e, followers-cons s oldest rest, drop-append-le r.cursor (successors_of s oldest) (followers s rest) (omega (arith, inside)))
      (rw next (ap (λ (l : List ℕ). l ++ followers s rest) (drop-cons (successors_of s oldest) r.cursor 0 inside)))
    where
      next : r.cursor + 1 ≡ suc r.cursor
      next = omega arith

  -- after the oldest task's last successor
  goes_last : r.cursor + 1 ≡ length (successors_of s oldest)
      → Goes s (get_or (successors_of s oldest) r.cursor 0) r (thread_with rest 0 r.phase r.held r.pointer)
  unfolding hand_of pending_of
  goes_last h =
      record {
        hand = refl;
        phase = refl;
        pointer = refl;
        pending =
            pending-first
            ∙ ap (λ (l : List ℕ). get_or (successors_of s oldest) r.cursor 0 ∷ (l ++ followers s rest))
            (drop_of_length-le (successors_of s oldest) {i = r.cursor + 1} (omega (arith, h)));
        buffer =
            λ b. record {
              each = later b;
              cursor = λ t l q. later b t (rw q (omega (arith, occ-hit ℕ_discrete t t l refl)));
              none = λ q. refl;
            };
      }
    where
      later : Buffered s r → (t : ℕ) → 0 < occ t rest → 0 < length (successors_of s t)
      later b t m = b.each t (rw e (omega (arith, m, occ-cons ℕ_discrete t oldest rest)))

  goes_on : ¬ (r.cursor + 1 ≡ length (successors_of s oldest))
      → Goes s (get_or (successors_of s oldest) r.cursor 0) r (thread_with r.buffer (r.cursor + 1) r.phase r.held r.pointer)
  unfolding hand_of pending_of
  goes_on n =
      record {
        hand = refl;
        phase = refl;
        pointer = refl;
        pending =
            pending-first
            ∙ ap (λ (l : List ℕ). get_or (successors_of s oldest) r.cursor 0 ∷ l)
            (rw (e, followers-cons s oldest rest)
            (sym (drop-append-le (r.cursor + 1) (successors_of s oldest) (followers s rest) (omega (arith, inside)))));
        buffer =
            λ b. record {
              each = b.each;
              cursor = λ t l q. rw (sym (head-same (sym e ∙ q))) (omega (arith, inside, n));
              none = λ q. absurd (cons-not-nil oldest rest (sym e ∙ q));
            };
      }

  pub passed-goes : Goes s (get_or (successors_of s oldest) r.cursor 0) r (passed (length (successors_of s oldest)) rest r)
  passed-goes = go (same-told (r.cursor + 1) (length (successors_of s oldest)))
    where
      go : {b : Bool} → Told b (r.cursor + 1 ≡ length (successors_of s oldest)) (¬ (r.cursor + 1 ≡ length (successors_of s oldest)))
          → Goes s (get_or (successors_of s oldest) r.cursor 0) r
          (cond b (thread_with rest 0 r.phase r.held r.pointer)
          (thread_with r.buffer (r.cursor + 1) r.phase r.held r.pointer))
      go (told-true q h) = rw q (goes_last h)
      go (told-false q h) = rw q (goes_on h)

pub passes-goes : {i : ℕ} {s : State} {T : ℕ} {r : Thread} → Passes i s T r → Goes s T (thread_of s i) r
passes-goes {i} {s} f = rw (f.successor, f.thread) (passed-goes s (thread_of s i) f.oldest f.rest f.buffer f.inside)

-- from s to s' worker i's thread becomes r, and no task's successors change
pub record Acts {A : Type 0} (none : A) (p i : ℕ) (s s' : items.State A) (r : items.Thread A) : Type 0 where
  pub worker : i < p
  pub threads : s'.threads ≡ set s.threads i r
  pub own : items.thread_of none s' i ≡ r
  pub successors : s'.successors ≡ s.successors

pub acts : {A : Type 0} {none : A} {p i : ℕ} {s s' : items.State A} {r : items.Thread A} → i < p → Shaped p s → s'.threads ≡ set s.threads i r
    → s'.successors ≡ s.successors → Acts none p i s s' r
acts {none = none} {i = i} {s = s} {r = r} worker shaped e f =
    record {
      worker = worker;
      threads = e;
      own = rw e (get_or-set_same s.threads i r (fresh none) (rw shaped.threads worker));
      successors = f;
    }

module _ {A : Type 0} {none : A} {p i : ℕ} {s s' : items.State A} {r : items.Thread A} (a : Acts none p i s s' r) where
  pub other-thread : (j : ℕ) → ¬ (j ≡ i) → items.thread_of none s' j ≡ items.thread_of none s j
  other-thread j n = rw a.threads (get_or-set_other s.threads i j r (fresh none) n)

  -- what holds of every thread before holds of every thread after, if it holds of r
  pub thread-each : (Q : items.Thread A → Type 0) → Q r → (j : ℕ) → Q (items.thread_of none s j) → Q (items.thread_of none s' j)
  thread-each Q h j q = go (ℕ_discrete j i)
    where
      go : Dec (j ≡ i) → Q (items.thread_of none s' j)
      go (yes e) = rw (e, a.own) h
      go (no n) = rw (other-thread j n) q

  -- what is read of the threads changes at i, or nowhere
  module _ {B : Type 0} (f f' : items.Thread A → B) (same : (t : items.Thread A) → f' t ≡ f t) where
    pub read-moves : {old new : B} → f (items.thread_of none s i) ≡ old → f r ≡ new
        → Replaced p i old new (λ j. f (items.thread_of none s j)) (λ j. f' (items.thread_of none s' j))
    read-moves was now =
        record {
          place = record { inside = a.worker; others = λ j n. same (items.thread_of none s' j) ∙ ap f (other-thread j n) };
          was = was;
          now = same (items.thread_of none s' i) ∙ ap f a.own ∙ now;
        }

    pub read_stays : f r ≡ f (items.thread_of none s i) → (j : ℕ) → f' (items.thread_of none s' j) ≡ f (items.thread_of none s j)
    read_stays e j = same (items.thread_of none s' j) ∙ go (ℕ_discrete j i)
      where
        go : Dec (j ≡ i) → f (items.thread_of none s' j) ≡ f (items.thread_of none s j)
        go (yes q) = rw (q, a.own) e
        go (no n) = ap f (other-thread j n)

  pub hand-moves : {old new : Hand A} → hand_of (items.thread_of none s i) ≡ old → hand_of r ≡ new
      → Replaced p i old new (λ j. hand_of (items.thread_of none s j)) (λ j. hand_of (items.thread_of none s' j))
  hand-moves = read-moves hand_of hand_of (λ t. refl)

  pub hand-stays : hand_of r ≡ hand_of (items.thread_of none s i) → (j : ℕ) → hand_of (items.thread_of none s' j) ≡ hand_of (items.thread_of none s j)
  hand-stays = read_stays hand_of hand_of (λ t. refl)

  pub pending-moves : {old new : List ℕ} → pending_of s (items.thread_of none s i) ≡ old → pending_of s r ≡ new
      → Replaced p i old new (λ j. pending_of s (items.thread_of none s j)) (λ j. pending_of s' (items.thread_of none s' j))
  pending-moves = read-moves (pending_of s) (pending_of s') (pending-same s s' a.successors)

  pub pending-stays : pending_of s r ≡ pending_of s (items.thread_of none s i)
      → (j : ℕ) → pending_of s' (items.thread_of none s' j) ≡ pending_of s (items.thread_of none s j)
  pending-stays = read_stays (pending_of s) (pending_of s') (pending-same s s' a.successors)

-- thread i in each step of Algorithm 1, of a plain job
module _ {p i : ℕ} {s s' : State} (worker : i < p) (shaped : Shaped p s) where
  pub fetch-acts : {o : StepOutcome} (f : Fetches p i s s' o) → Acts nil.0 p i s s' (holding p f.list f.task (thread_of s i))
  fetch-acts f = acts worker shaped (rw f.after) (rw f.after)

  pub start-acts : {o : StepOutcome} → Starts i s s' o → Acts nil.0 p i s s' (executing (thread_of s i))
  start-acts f = acts worker shaped (rw f.after) (rw f.after)

  pub complete-acts : {o : StepOutcome} → Completes i s s' o → Acts nil.0 p i s s' (completed (successors_of s (thread_of s i).held) (thread_of s i))
  complete-acts f = acts worker shaped (rw f.after) (rw f.after)

  pub lower-acts : {o : StepOutcome} (f : Lowers i s s' o) → Acts nil.0 p i s s' f.next
  lower-acts f = acts worker shaped (rw f.after) (rw f.after)

  pub allocate-acts : {o : StepOutcome} {C : ℕ → Type 0} {W : ℕ → ℤ} {capacity : ℕ} (f : Allocates C W p capacity i s s' o) → Acts nil.0 p i s s' f.next
  allocate-acts f = acts worker shaped (rw f.after) (rw f.after)
