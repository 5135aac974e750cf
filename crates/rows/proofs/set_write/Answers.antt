use Rattle.rows.proofs.Laws.{rows-changed}
use Rattle.rows.specs.Rows.{with_write}
use native.Mathlib.Omega.{arith}
use Rattle.rows.proofs.set_write.Goals as goal

pub returns : goal.returns
returns c = rows-changed (with_write c.args.write) _ _ _ _ (omega arith) c.with_write.ensures
