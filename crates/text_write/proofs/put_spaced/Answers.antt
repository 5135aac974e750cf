use native.Mathlib.Omega.{arith}
use Rattle.text_write.proofs.Laws.{space-room, next-spaced, all-spaced}
use Rattle.text_write.proofs.put_spaced.Goals as goal

pub put_next-end-requires : goal.put_next-end-requires
put_next-end-requires c = space-room _ _ _ _ _ _ c.loop-number.invariant (omega arith) c.requires

pub loop-number-preserved : goal.loop-number-preserved
loop-number-preserved c = next-spaced _ _ _ _ _ _ c.loop-number.invariant _ _ (omega arith) c.put_next-end.ensures

pub returns : goal.returns
returns c = all-spaced _ _ _ _ _ _ c.loop-number.invariant (omega arith)
