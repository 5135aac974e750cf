use native.Mathlib.Omega.{arith}
use Rattle.successors.proofs.Prefixes.{summing-none, sum_fits, summing-more, summing-whole}
use Rattle.successors.proofs.fill_starts.Goals as goal

pub loop-u-init : goal.loop-u-init
loop-u-init c = summing-none _ _ _ (omega arith)

pub overflow_add-sum : goal.overflow_add-sum
overflow_add-sum c = omega (arith, sum_fits _ _ _ _ _ _ c.loop-u.invariant (omega arith))

pub loop-u-preserved : goal.loop-u-preserved
loop-u-preserved c = summing-more _ _ _ _ _ _ c.loop-u.invariant (omega arith) (omega arith)

pub returns : goal.returns
returns c = summing-whole _ _ _ _ _ _ c.loop-u.invariant (omega arith)
