use Rattle.layout.proofs.Places.{onward-start, onward-more, onward-lf, onward-end}
use Rattle.scan.proofs.past_line.Goals as goal

pub loop-p-init : goal.loop-p-init
loop-p-init c = onward-start _ _ c.requires

pub returns-then-text-p-eq10 : goal.returns-then-text-p-eq10
returns-then-text-p-eq10 c = onward-lf _ _ _ c.loop-p.invariant c.loop-p-test.true c.if-text-p-eq10.true

pub loop-p-preserved : goal.loop-p-preserved
loop-p-preserved c = onward-more _ _ _ c.loop-p.invariant c.loop-p-test.true c.if-text-p-eq10.false

pub returns : goal.returns
returns c = onward-end _ _ _ c.loop-p.invariant c.loop-p-test.false
