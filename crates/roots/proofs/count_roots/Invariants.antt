-- The roots found so far are the levels passed.
use Prim.Native.Nat.{◌≤◌}
use mathlib.Core.Path.{◌≡◌}
use Rattle.roots.proofs.Laws.{levels}
use Rattle.roots.proofs.count_roots.Given as goal

abbrev pub invariant-loop-t : goal.invariant-loop-t
invariant-loop-t l = (l.found ≤ l.t) × (l.found ≡ levels l.starts l.t)
