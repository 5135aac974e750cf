use native.Mathlib.Omega.{arith}
use Rattle.text_write.proofs.Laws.{no_lines, next-line}
use Rattle.text_write.proofs.lines_size.Goals as goal

pub loop-t-init : goal.loop-t-init
loop-t-init c = (omega arith, no_lines _ _)

pub loop-t-preserved : goal.loop-t-preserved
loop-t-preserved c =
    (omega arith, next-line _ _ _ c.loop-t.invariant.1 c.width.ensures.0 c.width-in-loop-t.ensures.0 c.width-in-loop-t-2.ensures.0)
