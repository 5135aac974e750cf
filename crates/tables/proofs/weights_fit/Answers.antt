use Rattle.tables.proofs.Laws.{light-made}
use Rattle.tables.proofs.weights_fit.Goals as goal

pub returns : goal.returns
returns c = light-made _ _ c.flat_below.ensures
