use Rattle.weak_rows.proofs.Laws.{hand-put}
use borrow.Author.Rules.{rules}
use Rattle.weak_rows.proofs.with_hand.Goals as goal

pub returns : goal.returns
returns c = hand-put c.args.cells (search rules) _ _
