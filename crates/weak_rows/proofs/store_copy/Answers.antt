use Rattle.weak_rows.proofs.Cells.{read-stored}
use Rattle.weak_rows.specs.Copies.{copy_in}
use Rattle.weak_rows.proofs.store_copy.Goals as goal

pub returns : goal.returns
returns c = read-stored copy_in _ _ _ _ c.cells_of.ensures
