use Rattle.ring.proofs.Laws.{head-made}
use Rattle.ring.proofs.head_on.Goals as goal

pub returns : goal.returns
returns c = head-made _ _ _ c.after_slot-head.ensures
