use Rattle.rows.proofs.Laws.{next-put}
use borrow.Author.Rules.{rules}
use Rattle.rows.proofs.with_next.Goals as goal

pub returns : goal.returns
returns c = next-put c.args.cells (search rules) _ _
