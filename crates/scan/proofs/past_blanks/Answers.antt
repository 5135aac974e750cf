use Rattle.layout.proofs.Places.{passed_start, passed-blank, passed-mark, passed-end}
use Rattle.scan.proofs.past_blanks.Goals as goal

pub loop-p-init : goal.loop-p-init
loop-p-init c = passed_start _ _ c.requires

pub returns-then-b : goal.returns-then-b
returns-then-b c = passed-mark _ _ _ c.loop-p.invariant c.loop-p-test.true c.if-b.true

pub loop-p-preserved : goal.loop-p-preserved
loop-p-preserved c = passed-blank _ _ _ c.loop-p.invariant c.loop-p-test.true c.if-b.false

pub returns : goal.returns
returns c = passed-end _ _ _ c.loop-p.invariant c.loop-p-test.false
