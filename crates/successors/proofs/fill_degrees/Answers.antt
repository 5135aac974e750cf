use native.Mathlib.Omega.{arith}
use Rattle.successors.proofs.Prefixes.{spacing-whole}
use Rattle.successors.proofs.fill_degrees.Goals as goal

pub returns : goal.returns
returns c = spacing-whole _ _ _ _ c.loop-t.invariant (omega arith)
