use Rattle.engine_cells.proofs.Laws.{one-stored}
use mathlib.Core.Path.{subst}
use Rattle.start.specs.Start.{PhaseAlone}
use Rattle.rows.specs.Rows.{with_phase}
use Rattle.engine_cells.proofs.store_started.Goals as goal

pub returns : goal.returns
returns c = one-stored _ _ _ c.requires.0 c.requires.1.0 _ c.in_ok-outcome.outcome c.in_ok-outcome.after (c.in_ok-outcome.was {u = tt}) (with_phase c.in_ok-outcome.after.phase) (subst (PhaseAlone c.args.row) (c.in_ok-outcome.was {u = tt}) c.requires.1.1) _ c.set_phase.ensures
