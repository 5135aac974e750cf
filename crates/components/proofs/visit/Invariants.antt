-- Each turn keeps the search inside its tables.
use Prim.Native.Nat.{◌-◌, ◌≤◌, ◌<◌}
use Rattle.components.specs.Places.{Below}
use Rattle.components.proofs.visit.Given as goal

abbrev pub invariant-loop-turn : goal.invariant-loop-turn
invariant-loop-turn l = Below l.table.tasks l.back × (((l.s.task < l.table.tasks) × (l.s.last < l.table.tasks)) × (l.turn ≤ 16384))

abbrev pub decreases-loop-turn : goal.decreases-loop-turn
decreases-loop-turn l = 16384 - l.turn
