-- What the search keeps of its tables.
use Rattle.std.specs.Prelude.{ℕ, ◌<◌, List, get_or}

-- every word is below n
pub record Below (n : ℕ) (words : List ℕ) : Type 0 where
  pub each : (i : ℕ) → get_or words i 0 < n
