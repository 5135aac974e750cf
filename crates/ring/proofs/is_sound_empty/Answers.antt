use Rattle.ring.proofs.Laws.{sound-head, some-there, none-there, ends-meet}
use Rattle.ring.proofs.is_sound_empty.Goals as goal

pub returns-then-ends-ne0 : goal.returns-then-ends-ne0
returns-then-ends-ne0 c = some-there _ _ c.if-ends-ne0.true

pub returns-then-k-ends : goal.returns-then-k-ends
returns-then-k-ends c = none-there _ _ c.if-ends-ne0.false _ (sound-head _ _ c.if-k-ends.true)

pub returns : goal.returns
returns c = ends-meet _ _ c.if-ends-ne0.false c.if-k-ends.false
