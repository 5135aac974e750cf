-- Each limit is the smaller of two.
use Rattle.task.specs.Types.{capped}
use Rattle.task.proofs.Limits.capped.Goals as goal

pub returns : goal.returns
unfolding capped
returns c = rw (c.smaller.ensures, c.smaller-2.ensures, c.smaller-3.ensures, c.smaller-4.ensures)
