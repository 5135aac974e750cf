-- Cells that are read as what they stand for: `f` reads one.
use Prim.Native.Nat.{ℕ, zero, suc, ◌≤◌, ◌<◌}
use mathlib.Core.Path.{◌≡◌, refl, ap, ◌∙◌}
use mathlib.Core.List.{List, [], ◌∷◌, ◌++◌}
use native.Mathlib.Omega.{arith}
use lib.ListN.{length, get_or, set, drop, replicate}
use Rattle.weak_rows.specs.Cells.{read_as}

-- every cell has n words, as the type of the lent list says
abbrev pub CellsOf : ℕ → List (List ℕ) → Type 0
CellsOf n [] = Unit {0}
CellsOf n (a ∷ l) = (length a ≡ n) × CellsOf n l

module _ {A : Type 0} (f : List ℕ → A) where
  pub length-read : (l : List (List ℕ)) → length (read_as f l) ≡ length l
  unfolding read_as
  length-read [] = refl
  length-read (a ∷ l) = ap suc (length-read l)

  pub read_at : (l : List (List ℕ)) (i : ℕ) (d : List ℕ) (default r : A) → i < length l → r ≡ f (get_or l i d) → r ≡ get_or (read_as f l) i default
  unfolding read_as
  read_at [] i d default r h e = absurd (omega arith)
  read_at (a ∷ l) zero d default r h e = e
  read_at (a ∷ l) (suc i) d default r h e = read_at l i d default r (omega arith) e

  pub read_set : (l : List (List ℕ)) (i : ℕ) (a : List ℕ) → read_as f (set l i a) ≡ set (read_as f l) i (f a)
  unfolding read_as
  read_set [] i a = refl
  read_set (b ∷ l) zero a = refl
  read_set (b ∷ l) (suc i) a = ap (λ (t : List A). f b ∷ t) (read_set l i a)

  -- a cell that reads as v
  pub read-stored : (l : List (List ℕ)) (i : ℕ) (a : List ℕ) (v : A) → f a ≡ v → read_as f (set l i a) ≡ set (read_as f l) i v
  read-stored l i a v e = read_set l i a ∙ ap (λ (x : A). set (read_as f l) i x) e

  -- equal cells, whole and before the others of a list
  pub read-replicate : (n : ℕ) (a : List ℕ) → read_as f (replicate n a) ≡ replicate n (f a)
  unfolding read_as
  read-replicate zero a = refl
  read-replicate (suc n) a = ap (λ (t : List A). f a ∷ t) (read-replicate n a)

  pub read-filled : (l : List (List ℕ)) (n : ℕ) (a : List ℕ) → n ≤ length l → read_as f (replicate n a ++ drop n l) ≡ replicate n (f a) ++ drop n (read_as f l)
  unfolding read_as
  read-filled l zero a h = refl
  read-filled [] (suc n) a h = absurd (omega arith)
  read-filled (b ∷ l) (suc n) a h = ap (λ (t : List A). f a ∷ t) (read-filled l n a (omega arith))

  -- where a cell of n words is determined by what it reads as, so is a lent list
  pub read-words : (n : ℕ) → ((a b : List ℕ) → length a ≡ n → length b ≡ n → f a ≡ f b → a ≡ b)
      → (l k : List (List ℕ)) → CellsOf n l → CellsOf n k → read_as f l ≡ read_as f k → l ≡ k
  unfolding read_as
  read-words n one [] [] s t e = refl
  read-words n one [] (b ∷ k) s t e = absurd (omega (arith, ap length e))
  read-words n one (a ∷ l) [] s t e = absurd (omega (arith, ap length e))
  read-words n one (a ∷ l) (b ∷ k) s t e =
      ap (λ (x : List ℕ). x ∷ l) (one a b s.0 t.0 (ap (λ (r : List A). get_or r 0 (f a)) e))
      ∙ ap (λ (x : List (List ℕ)). b ∷ x) (read-words n one l k s.1 t.1 (ap (drop 1) e))
