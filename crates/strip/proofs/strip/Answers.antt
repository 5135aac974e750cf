use native.Mathlib.Omega.{arith}
use mathlib.Core.Path.{refl, ◌∙◌}
use Rattle.strip.proofs.Queue.{drop-later}
use Rattle.strip.proofs.Turns.{strip-starts, next-task, next-counts, strip-next, strip-ends}
use Rattle.strip.proofs.strip.Goals as goal

pub loop-head-init : goal.loop-head-init
loop-head-init c =
    let p = c.requires in (strip-starts _ p.0 _ _ p.1.1.1 _ _ p.1.0 c.queue_sinks-tail.ensures, (omega arith, refl))

pub part-requires : goal.part-requires
part-requires c = next-task _ c.requires.0 _ _ _ _ c.loop-head.invariant.0 c.loop-head-test.true

pub lower_all-tail-requires : goal.lower_all-tail-requires
lower_all-tail-requires c = rw c.part.ensures
    (c.loop-head.invariant.0.emptied.queued, next-counts _ c.requires.0 _ _ _ _ c.loop-head.invariant.0 c.loop-head-test.true)

pub loop-head-preserved : goal.loop-head-preserved
loop-head-preserved c =
    let i = c.loop-head.invariant in
    let l = rw c.part.ensures at c.lower_all-tail.ensures in
    (strip-next _ c.requires.0 _ _ _ _ i.0 c.loop-head-test.true _ _ _ l, (omega arith, l.behind ∙ drop-later _ _ _ _ l.longer i.1.1))

pub returns : goal.returns
returns c =
    let i = c.loop-head.invariant in
    strip-ends _ c.requires.0 _ _ _ _ i.0 c.loop-head-test.false _ (i.1.1 ∙ drop-later _ _ _ _ i.1.0 c.queue_sinks-tail.ensures.behind)
