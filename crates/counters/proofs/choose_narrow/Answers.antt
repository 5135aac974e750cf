use Rattle.counters.proofs.Best.{best-first, best-replaced, best-kept, best-whole}
use native.Mathlib.Omega.{arith}
use borrow.Author.Rules.{rules}
use mir.Syntax.{w32}
use Rattle.counters.proofs.choose_narrow.Goals as goal
use Rattle.counters.proofs.choose_narrow.Goals.{then-sum-least, else-sum-least}

pub loop-j-init : goal.loop-j-init
loop-j-init c = best-first w32 _ _ _ (search rules) c.narrow_load-least.ensures (omega arith)

pub loop-j-preserved : goal.loop-j-preserved
loop-j-preserved c =
    let r = c.narrow_load-sum in
    let old = c.loop-j.invariant in
    elim c.if-sum-least.branch [
      | then-sum-least w ↦ rw (w.best-is, w.least-is) (best-replaced w32 _ _ _ _ _ old (omega arith) _ (search rules) r.ensures w.if-sum-least.true)
      | else-sum-least w ↦ rw (w.best-is, w.least-is) (best-kept w32 _ _ _ _ _ old (omega arith) _ (search rules) r.ensures w.if-sum-least.false)
    ]

pub returns : goal.returns
returns c = best-whole w32 _ _ _ _ _ c.loop-j.invariant (omega arith)
