-- The tests, one by one.
use Rattle.windows.proofs.Judging.{counts-tested}
use Rattle.windows.proofs.counts_fit.Goals as goal

pub returns : goal.returns
returns c = counts-tested _ _ _ _ c.capped-own.ensures
