-- Ranges that rise up to a bound.
use Rattle.std.specs.Prelude.{ℕ, ◌+◌, ◌≤◌, ◌<◌, get_or, List}

-- each of the first n ranges rises, and ends at `most` or before
abbrev pub RangesRise : ℕ → List ℕ → ℕ → Type 0
RangesRise n starts most = (t : ℕ) → t < n → (get_or starts t 0 ≤ get_or starts (t + 1) 0) × (get_or starts (t + 1) 0 ≤ most)
