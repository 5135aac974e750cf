use Rattle.weak_admission.proofs.Laws.{lengths-are}
use Rattle.weak_admission.proofs.lengths_fit.Goals as goal

pub returns : goal.returns
returns c = λ m e. lengths-are _ _ _ m e _ (c.others_fit.ensures m e)
