-- Where the items of a run stand: waiting for a worker, in a worker's hand, in the record. An item is of any type whose equality is decided; a
-- plain job's items are its tasks.
use Rattle.std.specs.Prelude.{ℕ, ◌+◌, ◌<◌, ◌≡◌, List, [], ◌∷◌, ◌++◌}
use Rattle.lists.specs.Decided.{tally}
use Rattle.lists.specs.Lists.{occ_of}
use Rattle.lists.specs.Sums.{sum_to}

-- a worker's hand
pub data Hand (A : Type 0) : Type 0 where
  idle : Hand A
  fetched running : A → Hand A

abbrev pub in_hand : {A : Type 0} → Hand A → List A
in_hand idle = []
in_hand (fetched a) = a ∷ []
in_hand (running a) = a ∷ []

abbrev pub phase : {A : Type 0} → Hand A → ℕ
phase idle = 0
phase (fetched a) = 1
phase (running a) = 2

pub record Stages (A : Type 0) : Type 0 where
  -- the items that wait for worker i, in any order
  pub waiting : ℕ → List A
  pub hand : ℕ → Hand A
  -- the record, the earliest first
  pub done : List A

-- g is f but for the place k
pub record Other {B : Type 0} (n k : ℕ) (f g : ℕ → B) : Type 0 where
  pub inside : k < n
  pub others : (j : ℕ) → ¬ (j ≡ k) → g j ≡ f j

-- g is f but for the place k, where f is `old` and g is `new`
pub record Replaced {B : Type 0} (n k : ℕ) (old new : B) (f g : ℕ → B) : Type 0 where
  pub place : Other n k f g
  pub was : f k ≡ old
  pub now : g k ≡ new

module _ {A : Type 0} (same : Discrete A) (P : ℕ) where
  -- l' is l with one more a, anywhere
  pub record Adds (a : A) (l l' : List A) : Type 0 where
    pub more : (x : A) → occ_of same x l' ≡ tally (same x a) + occ_of same x l

  -- in how many places an item stands
  unfoldable pub places : Stages A → A → ℕ
  places s a = sum_to P (λ i. occ_of same a (s.waiting i)) + sum_to P (λ i. occ_of same a (in_hand (s.hand i))) + occ_of same a s.done

  -- an item comes to wait for worker o
  pub record Enters (o : ℕ) (a : A) (s s' : Stages A) : Type 0 where
    pub waiting : Other P o s.waiting s'.waiting
    pub added : Adds a (s.waiting o) (s'.waiting o)
    pub hand : (j : ℕ) → s'.hand j ≡ s.hand j
    pub done : s'.done ≡ s.done

  -- worker i takes one that waits for it
  pub record Takes (i : ℕ) (a : A) (s s' : Stages A) : Type 0 where
    pub waiting : Other P i s.waiting s'.waiting
    pub removed : Adds a (s'.waiting i) (s.waiting i)
    pub hand : Replaced P i idle (fetched a) s.hand s'.hand
    pub done : s'.done ≡ s.done

  pub record Runs (i : ℕ) (a : A) (s s' : Stages A) : Type 0 where
    pub waiting : (j : ℕ) → s'.waiting j ≡ s.waiting j
    pub hand : Replaced P i (fetched a) (running a) s.hand s'.hand
    pub done : s'.done ≡ s.done

  -- it joins the record
  pub record Finishes (i : ℕ) (a : A) (s s' : Stages A) : Type 0 where
    pub waiting : (j : ℕ) → s'.waiting j ≡ s.waiting j
    pub hand : Replaced P i (running a) idle s.hand s'.hand
    pub done : s'.done ≡ s.done ++ (a ∷ [])

  -- nothing moves
  pub record Stays (s s' : Stages A) : Type 0 where
    pub waiting : (j : ℕ) → s'.waiting j ≡ s.waiting j
    pub hand : (j : ℕ) → s'.hand j ≡ s.hand j
    pub done : s'.done ≡ s.done
