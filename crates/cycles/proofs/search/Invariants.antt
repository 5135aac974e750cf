-- The loop: no task passed is on a cycle; one that is not left is on none.
use Rattle.tables.specs.Tables.{graph_in}
use Rattle.cycles.specs.Ranks.{NoneBelow}
use Rattle.cycles.proofs.search.Given as goal

abbrev pub invariant-loop-t : goal.invariant-loop-t
invariant-loop-t l = NoneBelow (graph_in l.table) l.t
