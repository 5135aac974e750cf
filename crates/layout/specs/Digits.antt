-- A number in decimal, in ASCII and without leading zeros, as the writer and the desk program print it.
use Rattle.std.specs.Prelude.{ℕ, zero, suc, ◌+◌, ◌/◌, ◌%◌, cond, List, [], ◌∷◌, ltb}
use Rattle.layout.specs.Marks.{digit0}

-- the decimal digits of n before the digits `rest`, at most `most` of them
unfoldable pub digits_before : (most : ℕ) → ℕ → List ℕ → List ℕ
digits_before zero n rest = rest
digits_before (suc most) n rest = cond (ltb n 10) ((digit0 + n) ∷ rest) (digits_before most (n / 10) ((digit0 + n % 10) ∷ rest))

-- a number has at most as many digits as itself, and one
unfoldable pub digits_of : ℕ → List ℕ
digits_of n = digits_before (suc n) n []
