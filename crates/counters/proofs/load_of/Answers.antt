use Rattle.counters.proofs.Sums.{in_part, sum-none, sum-on, sum-whole, ranged-none, ranged-on, ranged-whole}
use Prim.Native.Nat.{◌+◌, ◌*◌}
use lib.IntN.{pos}
use lib.ListN.{get_or}
use mir.Val.{SFits}
use mathlib.Core.Path.{refl}
use mir.Syntax.{w32, w64}
use Rattle.lists.proofs.Places.{place-lt}
use native.Mathlib.Omega.{arith}
use borrow.Author.Rules.{rules}
use Rattle.counters.proofs.load_of.Goals as goal

pub loop-counter-init : goal.loop-counter-init
loop-counter-init c = (sum-none _ _ _, ranged-none _ _)

pub loop-counter-preserved : goal.loop-counter-preserved
loop-counter-preserved c =
    let a = c.args in
    let l = c.loop-counter in
    let r = c.add_counter-sum in
    let e = in_part a.counters.now (a.worker.0 * a.p) a.p l.counter-index (omega arith) in
    let k : SFits w32 (get_or a.counters.now (a.worker.0 * a.p + l.counter-index) (pos 0)) = search rules in (
      sum-on _ _ _ w64 _ _ l.invariant.0 k _ (record { sfits = r.type_inv }) (rw e at r.ensures) (omega (arith, k.sfits)),
      ranged-on _ _ _ _ l.invariant.1
          (omega (arith, place-lt a.p a.p a.worker.0 l.counter-index (omega arith) (omega arith)))
          k _ (rw e at c.in_range-fits.ensures),
    )

pub returns-then-fits : goal.returns-then-fits
returns-then-fits c =
    let a = c.args in
    let l = c.loop-counter in
    (sum-whole _ _ _ _ _ _ _ l.invariant.0 refl (omega arith), rw c.if-fits.true at (ranged-whole a.counters.now (a.worker.0 * a.p) a.p l.counter-index l.fits l.invariant.1 (omega arith)))
