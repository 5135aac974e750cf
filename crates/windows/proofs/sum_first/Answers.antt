use native.Mathlib.Omega.{arith}
use Rattle.windows.proofs.Sliding.{sums-length, first-asks, first-in, all_in}
use Rattle.windows.proofs.sum_first.Goals as goal

pub loop-x-init : goal.loop-x-init
loop-x-init c = c.requires.0

pub enter-requires : goal.enter-requires
enter-requires c = first-asks _ _ _ _ _ _ c.loop-x.invariant (omega arith) c.requires.1

pub loop-x-preserved : goal.loop-x-preserved
loop-x-preserved c = first-in _ _ _ _ _ _ c.loop-x.invariant (omega arith) c.requires.1 _ c.enter.ensures

pub shape_of-sums : goal.shape_of-sums
shape_of-sums c = sums-length _ _ _ _ _ _ c.loop-x.invariant

pub returns : goal.returns
returns c = all_in _ _ _ c.loop-x.invariant (omega arith)
