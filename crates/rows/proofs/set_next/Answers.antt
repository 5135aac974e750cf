use Rattle.rows.proofs.Laws.{rows-changed}
use Rattle.rows.specs.Rows.{with_next}
use native.Mathlib.Omega.{arith}
use Rattle.rows.proofs.set_next.Goals as goal

pub returns : goal.returns
returns c = rows-changed (with_next c.args.read c.args.cursor) _ _ _ _ (omega arith) c.with_next.ensures
