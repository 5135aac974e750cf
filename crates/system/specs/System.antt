-- The system that every run is a run of: workers fetch, start, complete and release items, whatever list a released item goes to, and whatever rule
-- says which successors fall due as an item completes.
use Rattle.std.specs.Prelude.{ℕ, suc, ◌+◌, ◌-◌, ◌*◌, ◌≤◌, ◌<◌, min, ◌≡◌, List, [], ◌∷◌, ◌++◌, length}
use Rattle.lists.specs.Lists.{occ_of, place_of}
use Rattle.lists.specs.Sums.{sum_to}
use Rattle.system.specs.Stages.{idle, fetched, running, phase, Stages, Replaced, places, Enters, Takes, Runs, Finishes, Stays}

-- the items and what joins them: `want` is 1 at the items of the job and 0 elsewhere; each item's predecessors and successors
pub record Items (A : Type 0) : Type 0 where
  pub want : A → ℕ
  pub preds : A → List A
  pub succs : A → List A

-- no item is wanted twice, and predecessors and successors are each the other's reverse
pub record Reversed {A : Type 0} (same : Discrete A) (G : Items A) : Type 0 where
  pub one : (a : A) → G.want a ≤ 1
  pub reverse : (u t : A) → occ_of same t (G.succs u) ≡ occ_of same u (G.preds t)

pub record State (A : Type 0) : Type 0 where
  pub stages : Stages A
  -- the successors that each worker has yet to release
  pub pending : ℕ → List A
  pub degree : A → ℕ
  -- the steps so far
  pub steps : ℕ
  -- the releases that have fallen due so far, made or still pending
  pub dues : ℕ

module _ {A : Type 0} (same : Discrete A) where
  -- how many of the items in the list are not yet recorded
  unfoldable pub missing : List A → List A → ℕ
  missing [] done = 0
  missing (u ∷ l) done = (1 - occ_of same u done) + missing l done

module _ {A : Type 0} (same : Discrete A) (G : Items A) (P : ℕ) where
  pub record Invariant (s : State A) : Type 0 where
    -- each item of the job is in exactly one stage: blocked, or in one place
    pub stage : (a : A) → min 1 (s.degree a) + places same P s.stages a ≡ G.want a
    -- a degree counts the predecessors that are not recorded, and those recorded whose release is still due
    pub degree : (a : A) → s.degree a ≡ missing same (G.preds a) s.stages.done + sum_to P (λ i. occ_of same a (s.pending i))
    -- what is recorded stands after its predecessors
    pub order : (u a : A) → 0 < occ_of same u (G.preds a) → 0 < occ_of same a s.stages.done
        → place_of same u s.stages.done < place_of same a s.stages.done
    -- three steps for each recorded item, and one for each release that has fallen due and isn't pending
    pub count : s.steps + sum_to P (λ i. length (s.pending i))
        ≡ 3 * length s.stages.done + sum_to P (λ i. phase (s.stages.hand i)) + s.dues

  -- a step that leaves pending successors and degrees
  pub record Keeps (s s' : State A) : Type 0 where
    pub pending : (j : ℕ) → s'.pending j ≡ s.pending j
    pub degree : (a : A) → s'.degree a ≡ s.degree a
    pub steps : s'.steps ≡ suc s.steps
    pub dues : s'.dues ≡ s.dues

  pub record Fetches (i : ℕ) (a : A) (s s' : State A) : Type 0 where
    pub takes : Takes same P i a s.stages s'.stages
    pub keeps : Keeps s s'

  pub record Starts (i : ℕ) (a : A) (s s' : State A) : Type 0 where
    pub runs : Runs same P i a s.stages s'.stages
    pub keeps : Keeps s s'

  -- the item joins the record, and releases of its successors fall due
  pub record Completes (i : ℕ) (a : A) (s s' : State A) : Type 0 where
    pub finishes : Finishes same P i a s.stages s'.stages
    -- the successors whose release falls due now: all of them in a plain job; none before the last of the items that have to be recorded first, where
    -- one release stands for all of these
    pub due : List A
    pub within : (x : A) → occ_of same x due ≤ occ_of same x (G.succs a)
    -- they are released after those that the worker has yet to release
    pub old : List A
    pub pending : Replaced P i old (old ++ due) s.pending s'.pending
    -- where the release falls due the degree waits for it, elsewhere it falls at once; no item becomes free without a release
    pub degree : (x : A) → s'.degree x + occ_of same x (G.succs a) ≡ s.degree x + occ_of same x due
    pub blocked : (x : A) → 0 < s.degree x → 0 < s'.degree x
    pub steps : s'.steps ≡ suc s.steps
    pub dues : s'.dues ≡ length due + s.dues

  -- Complete of a plain job: all successors fall due, and no degree changes
  pub record CompletesAll (i : ℕ) (a : A) (s s' : State A) : Type 0 where
    pub finishes : Finishes same P i a s.stages s'.stages
    pub old : List A
    pub pending : Replaced P i old (old ++ G.succs a) s.pending s'.pending
    pub degree : (x : A) → s'.degree x ≡ s.degree x
    pub steps : s'.steps ≡ suc s.steps
    pub dues : s'.dues ≡ length (G.succs a) + s.dues

  -- the degree of x falls from `suc left` to `left`, and no other
  pub record Falls (x : A) (left : ℕ) (s s' : State A) : Type 0 where
    pub was : s.degree x ≡ suc left
    pub now : s'.degree x ≡ left
    pub others : (a : A) → ¬ (a ≡ x) → s'.degree a ≡ s.degree a

  -- the first successor that is due to worker i is x, and is due no more
  pub record Releases (i : ℕ) (x : A) (s s' : State A) : Type 0 where
    pub rest : List A
    pub pending : Replaced P i (x ∷ rest) rest s.pending s'.pending
    pub steps : s'.steps ≡ suc s.steps
    pub dues : s'.dues ≡ s.dues

  -- it is released, and is still blocked
  pub record Lowers (i : ℕ) (x : A) (s s' : State A) : Type 0 where
    pub releases : Releases i x s s'
    pub stays : Stays same P s.stages s'.stages
    pub left : ℕ
    pub blocked : 0 < left
    pub falls : Falls x left s s'

  -- or it is ready, and comes to wait for a worker, whichever
  pub record Places (i o : ℕ) (x : A) (s s' : State A) : Type 0 where
    pub releases : Releases i x s s'
    pub enters : Enters same P o x s.stages s'.stages
    pub falls : Falls x 0 s s'

  -- one step, by any worker
  pub data Step (s s' : State A) : Type 0 where
    fetch : (i : ℕ) (a : A) → Fetches i a s s' → Step s s'
    start : (i : ℕ) (a : A) → Starts i a s s' → Step s s'
    complete : (i : ℕ) (a : A) → Completes i a s s' → Step s s'
    lower : (i : ℕ) (x : A) → Lowers i x s s' → Step s s'
    place : (i o : ℕ) (x : A) → Places i o x s s' → Step s s'

  -- as begin leaves it: the items without predecessors wait, the others are blocked
  pub record Begins (s : State A) : Type 0 where
    pub waiting : (a : A) → min 1 (length (G.preds a)) + sum_to P (λ i. occ_of same a (s.stages.waiting i)) ≡ G.want a
    pub hand : (i : ℕ) → s.stages.hand i ≡ idle
    pub pending : (i : ℕ) → s.pending i ≡ []
    pub degree : (a : A) → s.degree a ≡ length (G.preds a)
    pub done : s.stages.done ≡ []
    pub steps : s.steps ≡ 0
    pub dues : s.dues ≡ 0

-- which of an item's successors fall due as it joins a record
abbrev pub Rule : Type 0 → Type 0
Rule A = List A → A → List A

-- a plain job's rule
abbrev pub all_due : {A : Type 0} → Items A → Rule A
all_due G done a = G.succs a

module _ {A : Type 0} (same : Discrete A) (G : Items A) (P : ℕ) (rule : Rule A) where
  -- what falls due with a Complete is what the rule says; the other steps are by every rule
  abbrev pub ByRule : {s s' : State A} → Step same G P s s' → Type 0
  ByRule {s} (complete i a f) = f.due ≡ rule s.stages.done a
  ByRule (fetch i a f) = Unit {0}
  ByRule (start i a f) = Unit {0}
  ByRule (lower i x f) = Unit {0}
  ByRule (place i o x f) = Unit {0}

  -- the states of the runs by the rule: begin, then step after step
  pub data Reached : State A → Type 0 where
    begun : {s : State A} → Begins same G P s → Reached s
    further : {s s' : State A} → Reached s → (t : Step same G P s s') → ByRule t → Reached s'

-- some worker has something to do, whatever list a released item goes to
pub data Ready {A : Type 0} (P : ℕ) (s : State A) : Type 0 where
  to_start : (i : ℕ) (a : A) → i < P → s.stages.hand i ≡ fetched a → Ready P s
  to_complete : (i : ℕ) (a : A) → i < P → s.stages.hand i ≡ running a → Ready P s
  -- all hands are idle, and something waits for worker i
  to_fetch : (i : ℕ) → i < P → ((j : ℕ) → j < P → s.stages.hand j ≡ idle) → ¬ (s.stages.waiting i ≡ []) → Ready P s
  -- all hands are idle, nothing waits for anyone, and worker i has a successor to release
  to_release : (i : ℕ) (x : A) (rest : List A) → i < P → s.pending i ≡ x ∷ rest → ((j : ℕ) → j < P → s.stages.hand j ≡ idle)
      → ((j : ℕ) → j < P → s.stages.waiting j ≡ []) → Ready P s
