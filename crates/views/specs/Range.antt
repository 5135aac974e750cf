-- "A counter always lies within ±67,107,840 in an honest run."
use Rattle.std.specs.Prelude.{ℤ, pos, negsuc, ◌≤ℤ◌}

-- "within ±67,107,840"
pub record Within (c : ℤ) : Type 0 where
  pub low : negsuc 67107839 ≤ℤ c
  pub high : c ≤ℤ pos 67107840
