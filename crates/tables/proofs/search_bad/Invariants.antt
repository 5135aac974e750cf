-- The parts before t are good.
use Rattle.graph.specs.Conditions.{Good}
use Prim.Native.Nat.{ℕ, ◌<◌}
use Rattle.tables.proofs.search_bad.Given as goal

abbrev pub invariant-loop-t : goal.invariant-loop-t
invariant-loop-t l = (k : ℕ) → k < l.t → Good l.n l.starts l.preds k
