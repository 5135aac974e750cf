-- The range is compared, then its words are asked for; each answer decides one field of `Good`.
use Rattle.tables.proofs.Laws.{part-words}
use native.Mathlib.Omega.{arith}
use Rattle.tables.proofs.part_good.Goals as goal

pub returns : goal.returns
returns c = part-words _ _ _ _ _ (omega arith) (omega arith) c.all_below.ensures
