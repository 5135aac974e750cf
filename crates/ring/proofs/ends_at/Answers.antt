use Rattle.ring.specs.Ring.{ends_at}
use mathlib.Core.Path.{refl}
use Rattle.ring.proofs.ends_at.Goals as goal

pub returns : goal.returns
unfolding ends_at
returns c = refl
