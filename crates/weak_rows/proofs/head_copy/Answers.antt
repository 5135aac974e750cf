use Rattle.ring.specs.Ring.{slot_at}
use Rattle.weak_rows.proofs.head_copy.Goals as goal

pub returns : goal.returns
unfolding slot_at
returns c = c.copy_at.ensures
