-- The windows up to window w stand in the results.
use Prim.Native.Nat.{◌+◌, ◌*◌}
use lib.ListN.{length}
use Rattle.windows.proofs.Putting.{WindowsPut}
use Rattle.windows.proofs.put_windows.Given as goal

abbrev pub invariant-loop-w : goal.invariant-loop-w
invariant-loop-w l = WindowsPut (length l.fn.sums) l.weights l.executed l.entries l.m l.results l.sums l.w ((l.w + 1) * l.size)
