-- Laws of sums of integers over places.
use Prim.Native.Nat.{ℕ, zero, suc, ◌<◌}
use mathlib.Core.Path.{◌≡◌, refl, sym, ap, ◌∙◌}
use native.Mathlib.Omega.{arith}
use native.Mathlib.Decide.{ℕ_discrete}
use lib.IntN.{ℤ, pos, ◌+ℤ◌, +ℤ_assoc, pos-+ℤ-pos}
use Rattle.lists.specs.Sums.{sum_to, sum_to_z}
use Rattle.lists.proofs.Integers.{+ℤ-swap}

pub sum_z-same : (n : ℕ) (f g : ℕ → ℤ) → ((j : ℕ) → j < n → g j ≡ f j) → sum_to_z n g ≡ sum_to_z n f
unfolding sum_to_z
sum_z-same zero f g h = refl
sum_z-same (suc n) f g h = rw (sum_z-same n f g (λ j l. h j (omega arith)), h n (omega arith))

-- one place changed by an amount
pub sum_z-add : (n : ℕ) (f g : ℕ → ℤ) (k : ℕ) (c : ℤ) → k < n → g k ≡ f k +ℤ c → ((j : ℕ) → j < n → ¬ (j ≡ k) → g j ≡ f j) → sum_to_z n g ≡ sum_to_z n f +ℤ c
unfolding sum_to_z
sum_z-add zero f g k c l e h = absurd (omega arith)
sum_z-add (suc n) f g k c l e h = go (ℕ_discrete k n) (λ m. sum_z-add n f g k c m e (λ j lj. h j (omega arith)))
  where
    go : Dec (k ≡ n) → (k < n → sum_to_z n g ≡ sum_to_z n f +ℤ c) → sum_to_z n g +ℤ g n ≡ (sum_to_z n f +ℤ f n) +ℤ c
    go (yes q) r =
        rw (sum_z-same n f g (λ j lj. h j (omega arith) (λ w. omega arith)), (ap g (sym q) ∙ e ∙ ap (λ (x : ℕ). f x +ℤ c) q)) (sym (+ℤ_assoc (sum_to_z n f) (f n) c))
    go (no q) r = rw (r (omega arith), h n (omega arith) (λ w. q (sym w))) (+ℤ-swap (sum_to_z n f) c (f n))

-- a sum of natural numbers
pub sum_z-pos : (n : ℕ) (f : ℕ → ℕ) → sum_to_z n (λ k. pos (f k)) ≡ pos (sum_to n f)
unfolding sum_to_z sum_to
sum_z-pos zero f = refl
sum_z-pos (suc n) f = rw (sum_z-pos n f) (pos-+ℤ-pos (sum_to n f) (f n))
