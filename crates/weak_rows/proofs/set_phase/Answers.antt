use Rattle.weak_rows.proofs.Laws.{rows-changed}
use Rattle.weak_rows.specs.Rows.{with_phase}
use native.Mathlib.Omega.{arith}
use Rattle.weak_rows.proofs.set_phase.Goals as goal

pub returns : goal.returns
returns c = rows-changed (with_phase c.args.phase) _ _ _ _ (omega arith) c.with_phase.ensures
