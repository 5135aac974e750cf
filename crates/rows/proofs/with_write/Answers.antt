use Rattle.rows.proofs.Laws.{write-put}
use borrow.Author.Rules.{rules}
use Rattle.rows.proofs.with_write.Goals as goal

pub returns : goal.returns
returns c = write-put c.args.cells (search rules) _
