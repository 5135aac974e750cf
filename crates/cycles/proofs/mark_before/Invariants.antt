-- The loop keeps the walk back from t; at the queue's end all tasks that lead to t are marked.
use Prim.Native.Nat.{◌-◌}
use Rattle.tables.specs.Tables.{graph_in}
use Rattle.cycles.specs.Marks.{Walked}
use Rattle.cycles.proofs.mark_before.Given as goal

abbrev pub invariant-loop-head : goal.invariant-loop-head
invariant-loop-head l = Walked (graph_in l.table) l.t l.seen l.queue l.head l.tail

abbrev pub decreases-loop-head : goal.decreases-loop-head
decreases-loop-head l = 1024 - l.head
