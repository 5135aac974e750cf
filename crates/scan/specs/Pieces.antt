-- What is found at a place of a text, where it stands there.
use Rattle.std.specs.Prelude.{ℕ, ◌≤◌, ◌≡◌, List, [], ◌∷◌, Option, None, Some}
use Rattle.std.proofs.Math.Option.{some}
use Rattle.layout.specs.Scan.{line_at, row_at, NextLine, NumbersAt, NoField}
use Rattle.scan.specs.declared.Number.{Number}

-- the line ends here, and the next one starts at `next`; or something stands here
abbrev pub LineEnds : List ℕ → ℕ → Option ℕ → Type 0
LineEnds text at None = ¬ (line_at text at ≡ [])
LineEnds text at (Some next) = (line_at text at ≡ []) × NextLine text at next

-- only blanks are left in the line, and the next one starts at `next`; or something stands there
abbrev pub LineCloses : List ℕ → ℕ → Option ℕ → Type 0
LineCloses text at None = ¬ (row_at text at ≡ some [])
LineCloses text at (Some next) = (row_at text at ≡ some []) × NextLine text at next

-- the line's next number and the place after it; or no number comes next
abbrev pub NumberFound : List ℕ → ℕ → Option Number → Type 0
NumberFound text at None = NoField (row_at text at)
NumberFound text at (Some n) = (n.value ≤ 65535) × NumbersAt text at (n.value ∷ []) n.next
