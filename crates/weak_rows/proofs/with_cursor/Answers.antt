use Rattle.weak_rows.proofs.Laws.{cursor-put}
use borrow.Author.Rules.{rules}
use Rattle.weak_rows.proofs.with_cursor.Goals as goal

pub returns : goal.returns
returns c = cursor-put c.args.cells (search rules) _
