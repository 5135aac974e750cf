use Rattle.ring.proofs.Laws.{tail-made}
use Rattle.ring.proofs.tail_on.Goals as goal

pub returns : goal.returns
returns c = tail-made _ _ _ c.after_slot-tail.ensures
