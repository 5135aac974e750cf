-- The first x entries are in.
use mathlib.Core.Path.{◌≡◌}
use lib.ListN.{length}
use Rattle.loads.specs.Windows.{window_sums}
use Rattle.windows.proofs.sum_first.Given as goal

abbrev pub invariant-loop-x : goal.invariant-loop-x
invariant-loop-x l = l.sums ≡ window_sums (length l.initial.sums) l.weights l.executed l.x 0
