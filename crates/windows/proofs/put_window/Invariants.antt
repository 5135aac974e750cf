-- What is left of the spread.
use Rattle.windows.proofs.Putting.{Spreading}
use Rattle.windows.proofs.put_window.Given as goal

abbrev pub invariant-loop-sum : goal.invariant-loop-sum
invariant-loop-sum l = Spreading l.sums l.low l.high l.sum-index
