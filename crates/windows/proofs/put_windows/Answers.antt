use Prim.Native.Nat.{◌+◌, ◌*◌}
use mathlib.Core.Path.{◌≡◌}
use native.Mathlib.Omega.{arith}
use native.Mathlib.Nat.{one-mul}
use lib.ListN.{length}
use Rattle.windows.proofs.Putting.{first-windows, next-window, all-windows}
use Rattle.windows.proofs.put_windows.Goals as goal

pub loop-w-init : goal.loop-w-init
loop-w-init c =
    let q = c.requires in
    rw (one-mul (length c.args.sums.now + 1)) (first-windows _ _ _ _ _ q.1 _ q.2 _ _ c.sum_first.ensures c.put_window.ensures)

pub loop-w-preserved : goal.loop-w-preserved
loop-w-preserved c =
    let l = c.loop-w in
    let size = length c.args.sums.now + 1 in
    let e : (l.w + 1) * size + size ≡ (l.w + 1 + 1) * size = omega arith in
    rw (← e) (next-window _ _ _ _ _ c.requires.1 _ _ _ _ l.invariant (omega arith) _ c.slide.ensures _ c.put_window-in-loop-w.ensures)

pub returns : goal.returns
returns c = all-windows _ _ _ _ _ _ _ _ _ c.loop-w.invariant (omega arith)
