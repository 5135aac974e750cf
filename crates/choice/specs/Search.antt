-- Rings are looked at one after the other until one stops the search; a damaged one ends it too.
use Rattle.std.specs.Prelude.{ℕ, ◌<◌, ◌≡◌, Bool, cond, List, [], ◌∷◌, length, get_or}

pub data Found : Type 0 where
  -- a damaged one was met
  unsound : Found
  -- none stopped the search
  none : Found
  -- the first that did
  at : ℕ → Found

unfoldable pub search : (sound stops : ℕ → Bool) → List ℕ → Found
search sound stops [] = none
search sound stops (x ∷ xs) = cond (sound x) (cond (stops x) (at x) (search sound stops xs)) unsound

-- what a search finds, as a property: `Sound` and `Stops` of those looked at
module _ (Sound Stops : ℕ → Type 0) where
  -- each of the first n was sound and let the search go on
  abbrev pub WentOn : List ℕ → ℕ → Type 0
  WentOn xs n = (d : ℕ) → d < n → Sound (get_or xs d 0) × ¬ (Stops (get_or xs d 0))

  -- the first that is damaged; all before it passed
  pub record MetUnsound (xs : List ℕ) : Type 0 where
    pub place : ℕ
    pub inside : place < length xs
    pub passed : WentOn xs place
    pub damaged : ¬ (Sound (get_or xs place 0))

  pub record MetAt (xs : List ℕ) (x : ℕ) : Type 0 where
    pub place : ℕ
    pub inside : place < length xs
    pub passed : WentOn xs place
    pub there : get_or xs place 0 ≡ x
    pub sound : Sound x
    pub stops : Stops x

  abbrev pub Outcome : List ℕ → Found → Type 0
  Outcome xs unsound = MetUnsound xs
  Outcome xs none = WentOn xs (length xs)
  Outcome xs (at x) = MetAt xs x
