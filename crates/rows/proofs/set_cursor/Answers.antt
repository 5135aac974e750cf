use Rattle.rows.proofs.Laws.{rows-changed}
use Rattle.rows.specs.Rows.{with_cursor}
use native.Mathlib.Omega.{arith}
use Rattle.rows.proofs.set_cursor.Goals as goal

pub returns : goal.returns
returns c = rows-changed (with_cursor c.args.cursor) _ _ _ _ (omega arith) c.with_cursor.ensures
