use Rattle.ring.specs.Ring.{slot_at}
use mathlib.Core.Path.{refl}
use Rattle.ring.proofs.head_of.Goals as goal

pub returns : goal.returns
unfolding slot_at
returns c = refl
