-- The tables start at 0, and every visit keeps them.
use Prim.Native.Nat.{◌≤◌, ◌<◌}
use Rattle.components.specs.Places.{Below}
use Rattle.components.proofs.rank_left.Given as goal

abbrev pub invariant-loop-t : goal.invariant-loop-t
invariant-loop-t l = (0 < l.n → Below l.n l.back) × (l.turn ≤ 16384)
