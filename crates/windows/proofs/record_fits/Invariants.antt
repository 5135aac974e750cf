-- The first x entries fit.
use mathlib.Core.Path.{◌≡◌}
use mathlib.Core.Bool.{true}
use Rattle.loads.specs.Windows.{record_fits}
use Rattle.windows.proofs.record_fits.Given as goal

abbrev pub invariant-loop-x : goal.invariant-loop-x
invariant-loop-x l = true ≡ record_fits l.p l.weights l.executed l.x
