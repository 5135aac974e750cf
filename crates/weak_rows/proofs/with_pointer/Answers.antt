use Rattle.weak_rows.proofs.Laws.{pointer-put}
use borrow.Author.Rules.{rules}
use Rattle.weak_rows.proofs.with_pointer.Goals as goal

pub returns : goal.returns
returns c = pointer-put c.args.cells (search rules) _
