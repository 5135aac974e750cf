-- What the exported weak calls answer, beside the memory that they leave.
use Rattle.weak_rules.specs.Plans.{Result, result_of}

-- a result with its answer turned into a reply
abbrev pub replied : {A R : Type 0} → (A → R) → Result A → Result R
replied reply r = result_of (reply r.answer) r.memory
