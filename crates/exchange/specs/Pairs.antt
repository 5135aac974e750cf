-- Orders of items: the pairs that two of them order differently, and the exchanges between them. Of any list that holds all items, each once; and of
-- the tasks 0 .. n−1.
use Rattle.std.specs.Prelude.{ℕ, ◌+◌, ◌<◌, ◌≡◌, Bool, true, false, cond, not, List, [], ◌∷◌, ltb}
use Rattle.std.proofs.Math.Decide.{ℕ_discrete, dec_lt}
use Rattle.lists.specs.Decided.{tally}
use Rattle.lists.specs.Lists.{occ_of, place_of, all_of}
use Rattle.lists.specs.Sums.{sum_of}
use Rattle.exchange.specs.Exchange.{Chain, times}

abbrev pub bit : Bool → ℕ
bit true = 1
bit false = 0

module _ {A : Type 0} (same : Discrete A) where
  -- "Two lists order a pair differently if the task that comes first in one comes second in the other"
  unfoldable pub differently : List A → List A → A → A → Bool
  differently a b u t =
      cond (ltb (place_of same u a) (place_of same t a)) (not (ltb (place_of same u b) (place_of same t b)))
      (ltb (place_of same u b) (place_of same t b))

  -- how many of the pairs of items: each item with those behind it in the list of all
  unfoldable pub pairs_differing : List A → List A → List A → ℕ
  pairs_differing [] a b = 0
  pairs_differing (u ∷ items) a b = sum_of (λ t. bit (differently a b u t)) items + pairs_differing items a b

  -- "one exchange for each pair that the two order differently, every list on the way being an order the graph allows": a chain of exactly as many
  -- exchanges, in which each such pair is exchanged once, and no other pair
  pub record Exchanges (want : A → ℕ) (items : List A) (E : A → A → Type 0) (a b : List A) : Type 0 where
    pub chain : Chain same want E a b (pairs_differing items a b)
    pub once : (u t : A) → 0 < occ_of same u items → 0 < occ_of same t items → ¬ (u ≡ t)
        → times same u t chain + times same t u chain ≡ bit (differently a b u t)

-- 1 for each of the n tasks, 0 for every other number
abbrev pub each_once : ℕ → ℕ → ℕ
each_once n t = tally (dec_lt t n)

-- of the tasks 0 .. n−1
abbrev pub TaskExchanges : ℕ → (ℕ → ℕ → Type 0) → List ℕ → List ℕ → Type 0
TaskExchanges n = Exchanges ℕ_discrete (each_once n) (all_of n)
