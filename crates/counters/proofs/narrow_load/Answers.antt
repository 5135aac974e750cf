use Rattle.lists.proofs.Places.{place-lt}
use Rattle.counters.proofs.Sums.{in_part, sum-none, sum-whole, narrow-on}
use Prim.Native.Nat.{◌*◌}
use mathlib.Core.Path.{refl}
use native.Mathlib.Omega.{arith}
use borrow.Author.Rules.{rules}
use Rattle.counters.proofs.narrow_load.Goals as goal

pub loop-counter-init : goal.loop-counter-init
loop-counter-init c = sum-none _ _ _

pub loop-counter-preserved : goal.loop-counter-preserved
loop-counter-preserved c =
    let a = c.args in
    let l = c.loop-counter in
    rw (in_part a.counters.now (a.worker.0 * a.p) a.p l.counter-index (omega arith))
    (narrow-on _ _ _ _ l.invariant (omega arith) (search rules)
    (c.requires.1.1.1 _ (omega (arith, place-lt a.p a.p a.worker.0 l.counter-index (omega arith) (omega arith)))))

pub returns : goal.returns
returns c = sum-whole _ _ _ _ _ _ _ c.loop-counter.invariant refl (omega arith)
