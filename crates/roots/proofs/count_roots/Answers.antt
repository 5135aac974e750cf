use native.Mathlib.Omega.{arith}
use Rattle.roots.proofs.Laws.{levels-none, levels-hit, levels-miss, roots-counted}
use Rattle.roots.proofs.count_roots.Goals as goal
use Rattle.roots.proofs.count_roots.Goals.{then-starts-t, else-starts-t}

pub loop-t-init : goal.loop-t-init
loop-t-init c = (omega arith, levels-none _)

pub loop-t-preserved : goal.loop-t-preserved
loop-t-preserved c =
    elim c.if-starts-t.branch [
      | then-starts-t w ↦ (omega arith, levels-hit _ _ _ _ c.loop-t.invariant.1 w.if-starts-t.true w.found-is)
      | else-starts-t w ↦ (omega arith, levels-miss _ _ _ _ c.loop-t.invariant.1 w.if-starts-t.false w.found-is)
    ]

pub returns : goal.returns
returns c = (omega arith, λ preds s. roots-counted _ s _ _ c.loop-t.invariant.1 (omega arith) (omega arith))
