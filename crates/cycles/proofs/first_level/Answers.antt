use native.Mathlib.Omega.{arith}
use Rattle.cycles.proofs.Ranks.{levels-free, levels-answer}
use Rattle.cycles.proofs.first_level.Goals as goal

pub loop-t-preserved-in_default : goal.loop-t-preserved-in_default
loop-t-preserved-in_default c = let i = c.loop-t.invariant in (i.0, levels-free _ _ _ c.loop-t.t _ (omega arith) i.1 c.in_default.ensures)

pub returns : goal.returns
returns c = levels-answer _ _ c.loop-t.t _ (omega arith) c.loop-t.invariant.0 c.loop-t.invariant.1
