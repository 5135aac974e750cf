-- The limits that are compared are the capped ones.
use Rattle.tables.proofs.Laws.{sizes-made}
use Rattle.tables.proofs.sizes_fit.Goals as goal

pub returns : goal.returns
returns c = sizes-made _ _ _ _ c.capped-l.ensures
