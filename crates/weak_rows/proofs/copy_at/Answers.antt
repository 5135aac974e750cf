use Rattle.weak_rows.proofs.Cells.{read_at}
use Rattle.weak_rows.specs.Copies.{copy_in}
use native.Mathlib.Omega.{arith}
use Rattle.weak_rows.proofs.copy_at.Goals as goal

pub returns : goal.returns
returns c = read_at copy_in _ _ _ _ _ (omega arith) c.copy_of.ensures
