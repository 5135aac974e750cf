use Rattle.ring.proofs.Laws.{sound-head, sound-count, sound-tail}
use native.Mathlib.Omega.{arith}
use Rattle.ring.proofs.is_sound.Goals as goal

pub returns-then-k-ends : goal.returns-then-k-ends
returns-then-k-ends c = sound-head _ _ c.if-k-ends.true

pub returns-then-k-ends-2 : goal.returns-then-k-ends-2
returns-then-k-ends-2 c = sound-count _ _ c.if-k-ends.false c.if-k-ends-2.true

pub returns : goal.returns
returns c = sound-tail _ _ c.if-k-ends.false c.if-k-ends-2.false _ (c.reached.ensures (omega arith))
