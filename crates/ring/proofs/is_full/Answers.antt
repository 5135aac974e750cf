use Rattle.ring.specs.Ring.{full}
use mathlib.Core.Path.{refl}
use Rattle.ring.proofs.is_full.Goals as goal

pub returns : goal.returns
unfolding full
returns c = refl
