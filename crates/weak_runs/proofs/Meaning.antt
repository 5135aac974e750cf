-- What a state of Algorithm 1 of source document 000 means: the copies that a thread has yet to make, how these change with one buffer, one thread, and
-- the thread that each step writes.
use Prim.Native.Nat.{ℕ, zero, suc, ◌+◌, ◌<◌}
use mathlib.Core.Path.{◌≡◌, refl, sym, ap, ◌∙◌}
use mathlib.Core.Bool.{Bool, cond}
use mathlib.Core.List.{List, [], ◌∷◌, ◌++◌, map, append-nil, append_assoc}
use native.Mathlib.Omega.{arith}
use lib.IntN.{ℤ}
use lib.ListN.{length, get_or, drop, length-append, length-map, drop_of_length-le}
use lib.Seq.{drop-append-le}
use Rattle.lists.proofs.Told.{Told, told-true, told-false, same-told}
use Rattle.weak_task.specs.Types.{Copy, copy}
use Rattle.weak_task.specs.declared.WeakOutcome.{WeakOutcome}
use Rattle.split_lists.specs.Items as items
use Rattle.split_lists.specs.Items.{thread_with, successors_of}
use Rattle.split_lists.specs.Moves.{holding, executing, buffered, passed}
use Rattle.system.specs.Stages.{Replaced}
use Rattle.runs.proofs.Invariant.{followers, Shaped, Buffered}
use Rattle.runs.proofs.Meaning.{cursor-fits, Goes, passed-goes, Acts, acts, read-moves, read_stays}
use Rattle.weak_algorithm.specs.State.{Thread, no_item, State, thread_of}
use Rattle.weak_algorithm.specs.Algorithm.{Fetches, Starts, Passes, AllocatesFirst, AllocatesLater}
use Rattle.weak_runs.proofs.Invariant.{copies_from, pending_of}

-- what is left of a mapped list, from a place on
drop-map : {A B : Type 0} (f : A → B) (l : List A) (j : ℕ) (d : A) → j < length l → drop j (map f l) ≡ f (get_or l j d) ∷ drop (suc j) (map f l)
drop-map f [] j d h = absurd (omega arith)
drop-map f (x ∷ l) zero d h = refl
drop-map f (x ∷ l) (suc j) d h = drop-map f l j d (omega (arith, h))

module _ (s : items.State Copy) where
  -- the copies that one task makes
  abbrev pub made_of : ℕ → List Copy
  made_of t = map (λ x. copy x t) (successors_of s t)

  copies-cons : (t : ℕ) (ts : List ℕ) → copies_from s (t ∷ ts) ≡ made_of t ++ copies_from s ts
  unfolding copies_from
  copies-cons t ts = refl

  copies-snoc : (ts : List ℕ) (t : ℕ) → copies_from s (ts ++ (t ∷ [])) ≡ copies_from s ts ++ made_of t
  unfolding copies_from
  copies-snoc [] t = append-nil (made_of t)
  copies-snoc (u ∷ ts) t =
      ap (λ (l : List Copy). made_of u ++ l) (copies-snoc ts t) ∙ sym (append_assoc (made_of u) (copies_from s ts) (made_of t))

  -- a task without successors adds none, in the buffer or not
  copies-buffered : (ts : List ℕ) (t : ℕ) → copies_from s (buffered (successors_of s t) t ts) ≡ copies_from s ts ++ made_of t
  copies-buffered ts t = go (successors_of s t) refl
    where
      go : (l : List ℕ) → successors_of s t ≡ l → copies_from s (buffered l t ts) ≡ copies_from s ts ++ map (λ x. copy x t) l
      go [] e = sym (append-nil (copies_from s ts))
      go (x ∷ l) e = copies-snoc ts t ∙ ap (λ (k : List ℕ). copies_from s ts ++ map (λ x. copy x t) k) e

  -- one copy for each successor
  length-copies : (ts : List ℕ) → length (copies_from s ts) ≡ length (followers s ts)
  unfolding copies_from followers
  length-copies [] = refl
  length-copies (t ∷ ts) =
      omega (
        arith,
        length-copies ts,
        length-append (made_of t) (copies_from s ts),
        length-append (successors_of s t) (followers s ts),
        length-map (successors_of s t) (λ x. copy x t),
      )

-- what is pending depends on no other part of the state than the successors
copies-same : (s s' : items.State Copy) → s'.successors ≡ s.successors → (ts : List ℕ) → copies_from s' ts ≡ copies_from s ts
unfolding copies_from
copies-same s s' e [] = refl
copies-same s s' e (t ∷ ts) = rw (copies-same s s' e ts, e)

pub pending-same : (s s' : items.State Copy) → s'.successors ≡ s.successors → (r : Thread) → pending_of s' r ≡ pending_of s r
unfolding pending_of
pending-same s s' e r = ap (drop r.cursor) (copies-same s s' e r.buffer)

-- a completed task's copies are due after all others
module _ (s : items.State Copy) (r : Thread) (b : Buffered s r) where
  pub pending-completed : (t phase : ℕ) (held : Copy)
      → pending_of s (thread_with (buffered (successors_of s t) t r.buffer) r.cursor phase held r.pointer) ≡ pending_of s r ++ made_of s t
  unfolding pending_of
  pending-completed t phase held =
      ap (drop r.cursor) (copies-buffered s r.buffer t)
      ∙ drop-append-le r.cursor (copies_from s r.buffer) (made_of s t) (omega (arith, cursor-fits s r b, length-copies s r.buffer))

module _ (s : items.State Copy) (r : Thread) (oldest : ℕ) (rest : List ℕ) (e : r.buffer ≡ oldest ∷ rest)
    (inside : r.cursor < length (successors_of s oldest)) where
  long : length (made_of s oldest) ≡ length (successors_of s oldest)
  long = length-map (successors_of s oldest) (λ x. copy x oldest)

  -- the copy of the successor at the cursor, then the oldest task's others, then the other tasks'
  pending-first : pending_of s r
      ≡ copy (get_or (successors_of s oldest) r.cursor 0) oldest ∷ (drop (r.cursor + 1) (made_of s oldest) ++ copies_from s rest)
  unfolding pending_of
  pending-first =
      rw (e, copies-cons s oldest rest, drop-append-le r.cursor (made_of s oldest) (copies_from s rest) (omega (arith, inside, long)))
      (rw next (ap (λ (l : List Copy). l ++ copies_from s rest) (drop-map (λ x. copy x oldest) (successors_of s oldest) r.cursor 0 inside)))
    where
      next : r.cursor + 1 ≡ suc r.cursor
      next = omega arith

  -- it is due no more once the thread has passed it
  pending-passed : pending_of s r
      ≡ copy (get_or (successors_of s oldest) r.cursor 0) oldest ∷ pending_of s (passed (length (successors_of s oldest)) rest r)
  unfolding pending_of
  pending-passed = pending-first ∙ go (same-told (r.cursor + 1) (length (successors_of s oldest)))
    where
      made : Copy
      made = copy (get_or (successors_of s oldest) r.cursor 0) oldest

      go : {b : Bool} → Told b (r.cursor + 1 ≡ length (successors_of s oldest)) (¬ (r.cursor + 1 ≡ length (successors_of s oldest)))
          → made ∷ (drop (r.cursor + 1) (made_of s oldest) ++ copies_from s rest)
          ≡ made
          ∷ pending_of s
          (cond b (thread_with rest 0 r.phase r.held r.pointer)
          (thread_with r.buffer (r.cursor + 1) r.phase r.held r.pointer))
      go (told-true q h) =
          rw q
          (ap (λ (l : List Copy). made ∷ (l ++ copies_from s rest))
          (drop_of_length-le (made_of s oldest) {i = r.cursor + 1} (omega (arith, h, long))))
      go (told-false q h) =
          rw (q, e, copies-cons s oldest rest)
          (ap (λ (l : List Copy). made ∷ l)
          (sym (drop-append-le (r.cursor + 1) (made_of s oldest) (copies_from s rest) (omega (arith, inside, long)))))

module _ {i : ℕ} {s : State} {T oldest : ℕ} {r : Thread} where
  pub passes-goes : Passes i s T oldest r → Goes s.lists T (thread_of s i) r
  passes-goes f = rw (f.successor, f.thread) (passed-goes s.lists (thread_of s i) oldest f.rest f.buffer f.inside)

  pub passes-pending : Passes i s T oldest r → pending_of s.lists (thread_of s i) ≡ copy T oldest ∷ pending_of s.lists r
  passes-pending f = rw (f.successor, f.thread) (pending-passed s.lists (thread_of s i) oldest f.rest f.buffer f.inside)

-- what is pending changes at i, or nowhere
module _ {p i : ℕ} {s s' : items.State Copy} {r : Thread} (a : Acts no_item p i s s' r) where
  pub pending-moves : {old new : List Copy} → pending_of s (items.thread_of no_item s i) ≡ old → pending_of s r ≡ new
      → Replaced p i old new (λ j. pending_of s (items.thread_of no_item s j)) (λ j. pending_of s' (items.thread_of no_item s' j))
  pending-moves = read-moves a (pending_of s) (pending_of s') (pending-same s s' a.successors)

  pub pending-stays : pending_of s r ≡ pending_of s (items.thread_of no_item s i)
      → (j : ℕ) → pending_of s' (items.thread_of no_item s' j) ≡ pending_of s (items.thread_of no_item s j)
  pending-stays = read_stays a (pending_of s) (pending_of s') (pending-same s s' a.successors)

-- thread i in each step
module _ {p i : ℕ} {s s' : State} (worker : i < p) (shaped : Shaped p s.lists) {o : WeakOutcome} where
  pub fetch-acts : (f : Fetches p i s s' o) → Acts no_item p i s.lists s'.lists (holding p f.list f.item (thread_of s i))
  fetch-acts f = acts worker shaped (rw f.after) (rw f.after)

  pub start-acts : Starts i s s' o → Acts no_item p i s.lists s'.lists (executing (thread_of s i))
  start-acts f = acts worker shaped (rw f.after) (rw f.after)

  pub first-acts : {C : ℕ → Type 0} {W : ℕ → ℤ} {capacity : ℕ} (f : AllocatesFirst C W p capacity i s s' o) → Acts no_item p i s.lists s'.lists f.next
  first-acts f = acts worker shaped (rw f.after) (rw f.after)

  pub later-acts : {capacity : ℕ} (f : AllocatesLater p capacity i s s' o) → Acts no_item p i s.lists s'.lists f.next
  later-acts f = acts worker shaped (rw f.after) (rw f.after)
