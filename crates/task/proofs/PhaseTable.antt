-- The table of three phases by four steps is the paper's rule, row by row.
use Prim.Native.Nat.{ℕ, zero, suc, ◌≤◌, ◌<◌}
use mathlib.Core.Path.{◌≡◌, refl, ◌∙◌}
use mathlib.Core.List.{List, [], ◌∷◌, map}
use native.Mathlib.Omega.{arith}
use lib.ListN.{get_or}
use borrow.Author.Tests.{ne_eqb}
use Rattle.task.specs.Phases.{next_phase, step_number}
use Rattle.task.specs.declared.Step.{Step}
use Rattle.task.specs.declared.Step.TheVariants.{Fetch, Start, Complete, Release}
use Rattle.std.specs.Prelude.{Option, Some, None}

abbrev steps : List Step
steps = Fetch ∷ Start ∷ Complete ∷ Release ∷ []

-- the table that the code has
abbrev table : List (List (Option ℕ))
table =
    (Some 1 ∷ None ∷ None ∷ Some 0 ∷ [])
    ∷ (None ∷ Some 2 ∷ None ∷ None ∷ [])
    ∷ (None ∷ None ∷ Some 0 ∷ None ∷ [])
    ∷ []

abbrev none : List (Option ℕ)
none = None ∷ None ∷ None ∷ None ∷ []

-- a phase's row, by the steps' order in the table
abbrev pub row_of : ℕ → List (Option ℕ)
row_of p = map (next_phase p) steps

row_at : (p : ℕ) → p < 3 → get_or table p [] ≡ row_of p
unfolding next_phase
row_at zero h = refl
row_at (suc zero) h = refl
row_at (suc (suc zero)) h = refl
row_at (suc (suc (suc p))) h = absurd (omega arith)

column-at : (p : ℕ) (s : Step) → get_or (row_of p) (step_number s) None ≡ next_phase p s
column-at p Fetch = refl
column-at p Start = refl
column-at p Complete = refl
column-at p Release = refl

-- the table's row k is that of phase k
pub row-of : (p : ℕ) (row : List (Option ℕ)) (k : ℕ) → k < 3 → p ≡ k → row ≡ get_or table k [] → row ≡ row_of p
row-of p row k h e r = rw (e, r) (row_at k h)

-- no step suits a word that is no phase
none-at : (p : ℕ) → 3 ≤ p → none ≡ row_of p
unfolding next_phase
none-at p h = rw (ne_eqb p 0 (λ e. absurd (omega arith)), ne_eqb p 1 (λ e. absurd (omega arith)), ne_eqb p 2 (λ e. absurd (omega arith)))

pub no_row : (p : ℕ) (row : List (Option ℕ)) → 3 ≤ p → row ≡ none → row ≡ row_of p
no_row p row h r = r ∙ none-at p h

-- the entry of a step stands in its column
pub column-of : (p : ℕ) (s : Step) (row : List (Option ℕ)) → row ≡ row_of p → (s' : Step) → s ≡ s' → get_or row (step_number s') None ≡ next_phase p s
column-of p s row e s' q = rw (e, q) (column-at p s')
