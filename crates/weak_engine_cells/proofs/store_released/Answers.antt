use Rattle.weak_engine_cells.proofs.Laws.{one-stored, cursor-stored}
use native.Mathlib.Omega.{arith}
use Rattle.weak_rows.specs.Rows.{with_next}
use Rattle.weak_engine_cells.proofs.store_released.Goals as goal

pub returns-then-after-row : goal.returns-then-after-row
returns-then-after-row c = cursor-stored _ _ _ c.requires.0 c.requires.1.0 _ c.in_ok-outcome.outcome c.in_ok-outcome.after (rw (c.branch-outcome.ensures, c.in_ok-outcome.is)) (rw (c.branch-outcome.ensures, c.in_ok-outcome.is) at c.requires.1.1) (omega arith) _ c.set_cursor.ensures

pub returns : goal.returns
returns c = one-stored _ _ _ c.requires.0 c.requires.1.0 _ c.in_ok-outcome.outcome c.in_ok-outcome.after (rw (c.branch-outcome.ensures, c.in_ok-outcome.is)) (with_next c.in_ok-outcome.after.read c.in_ok-outcome.after.cursor) (rw (c.branch-outcome.ensures, c.in_ok-outcome.is) at c.requires.1.1) _ c.set_next.ensures
