use mathlib.Core.Path.{refl}
use native.Mathlib.Omega.{arith}
use lib.ListN.{length-set}
use Rattle.layout.proofs.Digits.{spelled}
use Rattle.text_put.proofs.Laws.{no-digits, one-before, next-digit, all_digits}
use Rattle.text_put.proofs.put_number.Goals as goal

pub overflow_sub-place : goal.overflow_sub-place
overflow_sub-place c = omega (arith, c.width.ensures.0, (spelled c.args.number).one)

pub loop-n-init : goal.loop-n-init
loop-n-init c =
    (refl, no-digits _ _ _ c.requires _ (omega (arith, c.width.ensures.0, (spelled c.args.number).one)))

pub overflow_sub-place-in-loop-n : goal.overflow_sub-place-in-loop-n
overflow_sub-place-in-loop-n c = one-before _ _ _ c.requires _ _ _ c.loop-n.invariant.1 (omega arith)

pub loop-n-preserved : goal.loop-n-preserved
loop-n-preserved c =
    let l = c.loop-n in
    (simp length-set l.invariant.0, next-digit _ _ _ c.requires _ _ _ l.invariant.1 (omega arith))

pub returns : goal.returns
returns c =
    rw c.width.ensures.0 (all_digits _ _ _ c.requires _ _ _ c.loop-n.invariant.1 (omega arith))
