-- After the tasks below t each block begins with its task's successors below t.
use Rattle.tables.specs.Tables.{graph_in}
use Rattle.successors.proofs.Edges.{Laying}
use Rattle.successors.proofs.fill_words.Given as goal

abbrev pub invariant-loop-t : goal.invariant-loop-t
invariant-loop-t l = Laying (graph_in l.table) l.initial.next l.initial.succs l.next l.succs l.t
