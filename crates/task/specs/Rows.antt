-- How document 01's table of refused calls is read: per call its rows in the call's order ("Order in begin: 2, 1, 3, 4, 5, 6",
-- "In lookup: 2, 1, 3", ..), and the first that holds is given.
use Rattle.std.specs.Prelude.{ℕ, ◌≡◌, ◌⊎◌, ◌↔◌, List, [], ◌∷◌}
use Rattle.task.specs.Refusals.{Said, refused, answered}

-- a row: its number, and when its condition holds with which detail
pub record Refusal : Type 1 where
  pub number : ℕ
  pub condition : ℕ → Type 0

abbrev pub row : ℕ → (ℕ → Type 0) → Refusal
row n c = record { number = n; condition = c }

-- a condition whose refusal has the one detail x
abbrev pub only : ℕ → Type 0 → ℕ → Type 0
only x C d = (d ≡ x) × C

-- the row's condition holds with no detail
abbrev pub Passed : Refusal → Type 0
Passed r = (d : ℕ) → ¬ (r.condition d)

-- the first row that holds has number n and detail d
abbrev pub Given : List Refusal → ℕ → ℕ → Type 0
Given [] n d = ⊥
Given (r ∷ rs) n d = ((n ≡ r.number) × r.condition d) ⊎ (Passed r × Given rs n d)

-- no row holds
abbrev pub Clear : List Refusal → Type 0
Clear [] = Unit {0}
Clear (r ∷ rs) = Passed r × Clear rs

abbrev pub Acceptance : Said → Type 0
Acceptance (refused n d) = ⊥
Acceptance (answered k vs) = Unit {0}

-- the answer follows the rows: n and d are given exactly if the first row that holds has them, and the call is accepted
-- exactly if no row holds; of the values of an accepted call it says nothing
pub record Follows (rows : List Refusal) (said : Said) : Type 0 where
  pub refuses : (n d : ℕ) → (said ≡ refused n d) ↔ Given rows n d
  pub accepts : Acceptance said ↔ Clear rows
