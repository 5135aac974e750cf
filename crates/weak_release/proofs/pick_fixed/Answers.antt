use Rattle.weak_release.proofs.Plan.{fixed-damaged, fixed-first, fixed_later}
use mir.Facts.{Fits-32_64}
use Rattle.weak_release.proofs.pick_fixed.Goals as goal

pub overflow_cast-word-2 : goal.overflow_cast-word-2
overflow_cast-word-2 c = Fits-32_64 (c.type_inv.fixed _)

pub returns-then-word : goal.returns-then-word
returns-then-word c = fixed-damaged _ _ _ _ _ c.if-p-word.true c.if-word.true

pub returns-then-p-word : goal.returns-then-p-word
returns-then-p-word c = fixed-first _ _ _ _ _ c.if-word.false

pub returns : goal.returns
returns c = fixed_later _ _ _ _ _ c.requires.1 c.if-p-word.false
