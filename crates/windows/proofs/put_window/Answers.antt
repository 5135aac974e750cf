use native.Mathlib.Omega.{arith}
use Prim.Native.Nat.{ℕ}
use lib.ListN.{length-drop}
use Rattle.windows.proofs.Putting.{spread-none, spread-next, spread-put}
use Rattle.windows.proofs.put_window.Goals as goal

pub loop-sum-init : goal.loop-sum-init
loop-sum-init c = spread-none _ c.requires.0

pub loop-sum-preserved : goal.loop-sum-preserved
loop-sum-preserved c = rw (c.min-low.ensures, c.max-high.ensures) (spread-next _ _ _ _ c.loop-sum.invariant (omega arith))

pub returns : goal.returns
returns c =
    rw c.copy_from_slice.ensures.after
    (spread-put _ _ _ _ c.loop-sum.invariant (omega arith) _ (omega (arith, c.requires.1, length-drop {A = ℕ})))
