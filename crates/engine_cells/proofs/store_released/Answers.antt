use Rattle.engine_cells.proofs.Laws.{one-stored, cursor-stored}
use mathlib.Core.Path.{subst}
use native.Mathlib.Omega.{arith}
use Rattle.release.specs.Release.{ReadAndCursor}
use Rattle.rows.specs.Rows.{with_next}
use Rattle.engine_cells.proofs.store_released.Goals as goal

pub returns-then-after-row : goal.returns-then-after-row
returns-then-after-row c = cursor-stored _ _ _ c.requires.0 c.requires.1.0 _ c.in_ok-outcome.outcome c.in_ok-outcome.after (c.in_ok-outcome.was {u = tt}) (subst (ReadAndCursor c.args.row) (c.in_ok-outcome.was {u = tt}) c.requires.1.1) (omega arith) _ c.set_cursor.ensures

pub returns : goal.returns
returns c = one-stored _ _ _ c.requires.0 c.requires.1.0 _ c.in_ok-outcome.outcome c.in_ok-outcome.after (c.in_ok-outcome.was {u = tt}) (with_next c.in_ok-outcome.after.read c.in_ok-outcome.after.cursor) (subst (ReadAndCursor c.args.row) (c.in_ok-outcome.was {u = tt}) c.requires.1.1) _ c.set_next.ensures
