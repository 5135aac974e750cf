-- Sums over places and over the members of a list.
use Rattle.std.specs.Prelude.{ℕ, zero, suc, ◌+◌, List, [], ◌∷◌, ℤ, pos, ◌+ℤ◌}

-- f 0 + … + f (n − 1)
unfoldable pub sum_to : ℕ → (ℕ → ℕ) → ℕ
sum_to zero f = 0
sum_to (suc n) f = sum_to n f + f n

-- the same of integers
unfoldable pub sum_to_z : ℕ → (ℕ → ℤ) → ℤ
sum_to_z zero f = pos 0
sum_to_z (suc n) f = sum_to_z n f +ℤ f n

-- f over the members of a list
unfoldable pub sum_of : {A : Type 0} → (A → ℕ) → List A → ℕ
sum_of f [] = 0
sum_of f (x ∷ l) = f x + sum_of f l
