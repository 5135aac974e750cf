-- Every task on the way is below n.
use Prim.Native.Nat.{◌<◌}
use Rattle.components.proofs.close.Given as goal

abbrev pub invariant-loop : goal.invariant-loop
invariant-loop l = l.last < l.n
