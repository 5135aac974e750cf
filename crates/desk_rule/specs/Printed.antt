-- Lines as the desk program prints them, in ASCII.
use Rattle.std.specs.Prelude.{ℕ, List, [], ◌∷◌, ◌++◌}
use Rattle.layout.specs.Marks.{lf, space}
use Rattle.layout.specs.Digits.{digits_of}

-- two numbers in a line, as in the paper's example: "`4 16`, `0 0`, .."; LF after every line (docs/DECISIONS.md)
unfoldable pub pair_line : ℕ → ℕ → List ℕ
pair_line a b = digits_of a ++ (space ∷ digits_of b ++ (lf ∷ []))
