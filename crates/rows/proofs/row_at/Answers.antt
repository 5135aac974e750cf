use Rattle.rows.proofs.Laws.{rows_at}
use native.Mathlib.Omega.{arith}
use Rattle.rows.proofs.row_at.Goals as goal

pub returns : goal.returns
returns c = rows_at _ _ _ _ (omega arith) c.row_of.ensures
