-- The loop keeps `Stripping`, and the words behind the queue. Where the queue is used up, no task can prolong it.
use Prim.Native.Nat.{◌-◌, ◌≤◌}
use mathlib.Core.Path.{◌≡◌}
use lib.ListN.{drop}
use Rattle.graph.specs.Graph.{graph_of}
use Rattle.strip.proofs.Turns.{Stripping}
use Rattle.strip.proofs.strip.Given as goal

abbrev pub invariant-loop-head : goal.invariant-loop-head
invariant-loop-head l =
    Stripping (graph_of l.n l.starts l.preds) l.left l.order l.head l.tail × ((l.initial.tail ≤ l.tail) × (drop l.tail l.order ≡ drop l.tail l.initial.order))

abbrev pub decreases-loop-head : goal.decreases-loop-head
decreases-loop-head l = 1024 - l.head
