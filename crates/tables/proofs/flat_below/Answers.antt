use Rattle.tables.proofs.Laws.{below_on, below-whole}
use native.Mathlib.Omega.{arith}
use Rattle.tables.proofs.flat_below.Goals as goal

pub loop-word-preserved : goal.loop-word-preserved
loop-word-preserved c = below_on _ _ _ _ c.loop-word.invariant (omega arith)

pub returns : goal.returns
returns c = below-whole _ _ _ _ c.loop-word.invariant (omega arith)
