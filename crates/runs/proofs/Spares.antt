-- What a step of Algorithm 1 does to an owner's circular lists and pointer: its own Fetch takes from a list and moves the pointer on, every other
-- step spares both, but for what joins a list at the end.
use Prim.Native.Nat.{ℕ, ◌+◌, ◌%◌, ◌<◌}
use mathlib.Core.Path.{◌≡◌, refl, sym, ap, ◌∙◌}
use mathlib.Core.Bool.{false}
use mathlib.Core.List.{List, [], ◌∷◌, ◌++◌, append-nil}
use lib.Seq.{get_or-set_other}
use Rattle.lists.specs.Squares.{with_cell}
use Rattle.lists.proofs.Apart.{unequal}
use Rattle.lists.proofs.Squares.{field-kept, cell_other, even-put}
use Rattle.lists.proofs.Decided.{both?}
use Rattle.task.specs.Types.{nil}
use Rattle.task.specs.declared.Step.{Step}
use Rattle.task.specs.declared.Step.TheVariants.{Fetch, Start, Complete, Release}
use Rattle.task.specs.declared.StepOutcome.{StepOutcome}
use Rattle.algorithm1.specs.Items as items
use Rattle.algorithm1.specs.Items.{fresh}
use Rattle.algorithm1.specs.State.{State, queue_of, thread_of}
use Rattle.algorithm1.specs.Algorithm.{First, Fetches, lowers, allocates, Lines, Does}
use Rattle.algorithm1.proofs.Memories.{first-lt}
use Rattle.split_lists.proofs.RoundRobin.{Takes, Spares, spares-none}
use Rattle.runs.specs.Calls.{is_fetch}
use Rattle.runs.proofs.Invariant.{Shaped}
use Rattle.runs.proofs.Meaning.{passes-goes, Acts, fetch-acts, start-acts, complete-acts, lower-acts, allocate-acts}

-- the owner's lists and pointer are spared, the items being of any type
abbrev pub OwnerSpared : {A : Type 0} → A → ℕ → items.State A → items.State A → Type 0
OwnerSpared none owner s s' =
    Spares (queue_of s owner) (queue_of s' owner) (items.thread_of none s owner).pointer (items.thread_of none s' owner).pointer

-- thread i becomes r
module _ {A : Type 0} {none : A} {p i : ℕ} {s s' : items.State A} {r : items.Thread A} (a : Acts none p i s s' r) where
  pointer-kept : (owner : ℕ) → r.pointer ≡ (items.thread_of none s i).pointer
      → (items.thread_of none s' owner).pointer ≡ (items.thread_of none s owner).pointer
  pointer-kept owner e = rw a.threads (field-kept (λ (x : items.Thread A). x.pointer) s.threads i r (fresh none) e owner)

  -- no list changes
  pub kept-spared : (owner : ℕ) → r.pointer ≡ (items.thread_of none s i).pointer → s'.queues ≡ s.queues → OwnerSpared none owner s s'
  kept-spared owner e eq = record { stays = pointer-kept owner e; joins = λ h. rw eq ((spares-none (queue_of s owner) 0).joins h) }

  -- a list that isn't the changed one
  list-kept : (o x : ℕ) (l : List A) → s'.queues ≡ with_cell s.queues o x l → (owner h : ℕ) → ¬ ((owner ≡ o) × (h ≡ x))
      → (added : List A) × (queue_of s' owner h ≡ queue_of s owner h ++ added)
  list-kept o x l eq owner h n = ([], rw eq (cell_other s.queues o x l [] owner h n) ∙ sym (append-nil (queue_of s owner h)))

  -- an item joins a list at its end
  pub joined-spared : (owner : ℕ) → r.pointer ≡ (items.thread_of none s i).pointer → Shaped p s → (o x : ℕ) → o < p → x < p → (t : A)
      → s'.queues ≡ with_cell s.queues o x (queue_of s o x ++ (t ∷ [])) → OwnerSpared none owner s s'
  joined-spared owner e shaped o x ho hx t eq = record { stays = pointer-kept owner e; joins = λ h. joins h (both? owner h o x) }
    where
      joins : (h : ℕ) → Dec ((owner ≡ o) × (h ≡ x)) → (added : List A) × (queue_of s' owner h ≡ queue_of s owner h ++ added)
      joins h (yes (q, u)) = (t ∷ [], rw (eq, q, u) (even-put shaped.queues o x (queue_of s o x ++ (t ∷ [])) [] ho hx))
      joins h (no n) = list-kept o x _ eq owner h n

  -- another thread takes from a list of its own
  pub other-spared : (owner : ℕ) → ¬ (owner ≡ i) → (x : ℕ) (l : List A) → s'.queues ≡ with_cell s.queues i x l → OwnerSpared none owner s s'
  other-spared owner n x l eq =
      record {
        stays = rw a.threads (ap (λ (r : items.Thread A). r.pointer) (get_or-set_other s.threads i owner r (fresh none) n));
        joins = λ h. list-kept i x l eq owner h (λ e. n e.0);
      }

-- the owner itself takes the first item of the first list that isn't empty
pub owner-takes : {A : Type 0} {p i : ℕ} (s s' : items.State A) → i < p → Shaped p s → (pointer list : ℕ) (t : A) (rest : List A)
    → First p (λ j. ¬ (queue_of s i j ≡ [])) pointer list → queue_of s i list ≡ t ∷ rest → s'.queues ≡ with_cell s.queues i list rest
    → Takes p (queue_of s i) (queue_of s' i) pointer list t
owner-takes {i = i} s s' worker shaped pointer list t rest first head eq =
    record {
      first = first;
      rest = rest;
      head = head;
      left = rw eq (even-put shaped.queues i list rest [] worker (first-lt first));
      others = λ h l n. rw eq (cell_other s.queues i list rest [] i h (λ e. n e.1));
    }

-- A plain job: a step of thread i of Algorithm 1.
abbrev pub pointer_of : State → ℕ → ℕ
pointer_of s i = (thread_of s i).pointer

module _ {p i : ℕ} {s s' : State} {o : StepOutcome} (worker : i < p) (shaped : Shaped p s) where
  -- another thread's Fetch
  pub spared-fetch : (owner : ℕ) → ¬ (owner ≡ i) → Fetches p i s s' o → OwnerSpared nil.0 owner s s'
  spared-fetch owner n f = other-spared (fetch-acts worker shaped f) owner n f.list f.rest (rw f.after)

  -- the owner's own Fetch takes from its lists in a round robin fashion, and its pointer goes on
  pub taking : (f : Fetches p i s s' o) → Takes p (queue_of s i) (queue_of s' i) (pointer_of s i) f.list f.task
  taking f = owner-takes s s' worker shaped (pointer_of s i) f.list f.task f.rest f.first f.head (rw f.after)

  pub pointer-on : (f : Fetches p i s s' o) → pointer_of s' i ≡ (f.list + 1) % p
  pointer-on f = ap (λ (r : items.Thread ℕ). r.pointer) (fetch-acts worker shaped f).own

-- the steps that are no Fetch
pub spared : {p capacity i : ℕ} {s s' : State} {o : StepOutcome} → Shaped p s → (owner : ℕ) (st : Step) → is_fetch st ≡ false
    → Does p capacity i st s s' o → OwnerSpared nil.0 owner s s'
spared {p} {capacity} {i} {s} {s'} {o} shaped owner st n d = go st n d.lines
  where
    go : (st : Step) → is_fetch st ≡ false → Lines p capacity i st s s' o → OwnerSpared nil.0 owner s s'
    go Fetch e f = unequal cc
    go Start e f = kept-spared (start-acts d.thread shaped f) owner refl (rw f.after)
    go Complete e f = kept-spared (complete-acts d.thread shaped f) owner refl (rw f.after)
    go Release e (lowers f) = kept-spared (lower-acts d.thread shaped f) owner (passes-goes f.pass).pointer (rw f.after)
    go Release e (allocates f) =
        joined-spared (allocate-acts d.thread shaped f) owner (passes-goes f.pass).pointer shaped f.owner i
        (first-lt f.room) d.thread f.task (rw f.after)
