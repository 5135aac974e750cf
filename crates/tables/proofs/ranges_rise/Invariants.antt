-- Of the ranges before t, whether all rise.
use mathlib.Core.Path.{◌≡◌}
use mathlib.Core.Bool.{true}
use Rattle.tables.specs.Ranges.{RangesRise}
use Rattle.tables.proofs.ranges_rise.Given as goal

abbrev pub invariant-loop-t : goal.invariant-loop-t
invariant-loop-t l = l.rise ≡ true → RangesRise l.t l.starts l.most
