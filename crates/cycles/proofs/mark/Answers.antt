-- A task without a mark finds room in the queue, since fewer than all tasks are queued.
use native.Mathlib.Omega.{arith}
use Rattle.cycles.proofs.Marks.{room, mark-new, mark-old}
use Rattle.cycles.proofs.mark.Goals as goal

pub bounds-queue-tail : goal.bounds-queue-tail
bounds-queue-tail c = omega (arith, room c.requires.0 _ c.requires.1 c.if-seen-u-eq0.true)

pub returns-then-seen-u-eq0 : goal.returns-then-seen-u-eq0
returns-then-seen-u-eq0 c = mark-new c.requires.0 _ c.requires.1 c.if-seen-u-eq0.true

pub returns : goal.returns
returns c = mark-old c.requires.0 _ c.requires.1 c.if-seen-u-eq0.false
