use Rattle.rows.proofs.Laws.{phase-put}
use borrow.Author.Rules.{rules}
use Rattle.rows.proofs.with_phase.Goals as goal

pub returns : goal.returns
returns c = phase-put c.args.cells (search rules) _
