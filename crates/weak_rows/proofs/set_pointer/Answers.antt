use Rattle.weak_rows.proofs.Laws.{rows-changed}
use Rattle.weak_task.specs.Rows.{with_pointer}
use native.Mathlib.Omega.{arith}
use Rattle.weak_rows.proofs.set_pointer.Goals as goal

pub returns : goal.returns
returns c = rows-changed (with_pointer c.args.pointer.0) _ _ _ _ (omega arith) c.with_pointer.ensures
