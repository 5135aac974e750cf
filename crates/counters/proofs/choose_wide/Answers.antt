use Rattle.counters.proofs.Best.{best-first, best-replaced, best-kept, best-whole, fit_none, fit_on, fit-whole}
use mir.Syntax.{w64}
use native.Mathlib.Omega.{arith}
use borrow.Author.Rules.{rules}
use Rattle.counters.proofs.choose_wide.Goals as goal
use Rattle.counters.proofs.choose_wide.Goals.{then-load-least, else-load-least}

pub loop-j-init : goal.loop-j-init
loop-j-init c =
    let e = c.in-Some.ensures in
    (best-first w64 _ _ _ (search rules) e.0 (omega arith), fit_on _ _ _ _ e (fit_none c.args.p _))

pub loop-j-preserved : goal.loop-j-preserved
loop-j-preserved c =
    let e = c.in-Some-load_of.ensures in
    let old = c.loop-j.invariant in (
      elim c.if-load-least.branch [
        | then-load-least w ↦ rw (w.best-is, w.least-is) (best-replaced w64 _ _ _ _ _ old.0 (omega arith) _ (search rules) e.0 w.if-load-least.true)
        | else-load-least w ↦ rw (w.best-is, w.least-is) (best-kept w64 _ _ _ _ _ old.0 (omega arith) _ (search rules) e.0 w.if-load-least.false)
      ],
      fit_on _ _ _ _ e old.1,
    )

pub returns : goal.returns
returns c =
    let l = c.loop-j in
    (fit-whole c.args.p _ l.j l.invariant.1 (omega arith) c.requires.0, best-whole w64 _ _ _ _ _ l.invariant.0 (omega arith))
