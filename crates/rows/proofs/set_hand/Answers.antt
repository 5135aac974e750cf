use Rattle.rows.proofs.Laws.{rows-changed}
use Rattle.rules.specs.Memory.{with_hand}
use native.Mathlib.Omega.{arith}
use Rattle.rows.proofs.set_hand.Goals as goal

pub returns : goal.returns
returns c = rows-changed (with_hand c.args.phase c.args.held) _ _ _ _ (omega arith) c.with_hand.ensures
