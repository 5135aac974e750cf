use Rattle.weak_rows.proofs.Laws.{rows-changed}
use Rattle.weak_task.specs.Rows.{with_hand}
use native.Mathlib.Omega.{arith}
use Rattle.weak_rows.proofs.set_hand.Goals as goal

pub returns : goal.returns
returns c = rows-changed (with_hand c.args.phase c.args.held) _ _ _ _ (omega arith) c.with_hand.ensures
