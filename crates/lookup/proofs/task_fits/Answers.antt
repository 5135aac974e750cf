-- A task below n is judged by its part.
use Rattle.lookup.proofs.Laws.{fits_not, fits-part}
use borrow.Author.Rules.{rules}
use Rattle.lookup.proofs.task_fits.Goals as goal

pub returns-then-n-t : goal.returns-then-n-t
returns-then-n-t c = fits_not c.args.n c.args.t _ (search rules)

pub returns : goal.returns
returns c = fits-part c.args.n c.args.t _ _ (search rules) c.part_good.ensures
