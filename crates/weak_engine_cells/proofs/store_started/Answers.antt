use Rattle.weak_engine_cells.proofs.Laws.{one-stored}
use Rattle.weak_rows.specs.Rows.{with_phase}
use Rattle.weak_engine_cells.proofs.store_started.Goals as goal

pub returns : goal.returns
returns c = one-stored _ _ _ c.requires.0 c.requires.1.0 _ c.in_ok-outcome.outcome c.in_ok-outcome.after (rw (c.branch-outcome.ensures, c.in_ok-outcome.is)) (with_phase c.in_ok-outcome.after.phase) (rw (c.branch-outcome.ensures, c.in_ok-outcome.is) at c.requires.1.1) _ c.set_phase.ensures
