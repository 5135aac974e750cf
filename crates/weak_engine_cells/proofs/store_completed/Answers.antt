use Rattle.weak_engine_cells.proofs.Laws.{two-stored}
use Rattle.weak_task.specs.Rows.{with_hand}
use Rattle.weak_rows.specs.Rows.{with_write}
use Rattle.weak_engine_cells.proofs.store_completed.Goals as goal

pub returns : goal.returns
returns c = two-stored _ _ _ c.requires.0 c.requires.1.0 _ c.in_ok-outcome.outcome c.in_ok-outcome.after (rw (c.branch-outcome.ensures, c.in_ok-outcome.is)) (with_hand c.in_ok-outcome.after.phase c.in_ok-outcome.after.held) (with_write c.in_ok-outcome.after.write) (rw (c.branch-outcome.ensures, c.in_ok-outcome.is) at c.requires.1.1) _ _ c.set_hand.ensures c.set_write.ensures
