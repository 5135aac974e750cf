use Rattle.admission.proofs.Laws.{numbers-are}
use Rattle.admission.proofs.numbers_fit.Goals as goal

pub returns : goal.returns
returns c = numbers-are _ _ _ _ c.capped-most.ensures
