-- The task graph that a table spells.
use Rattle.graph.specs.Graph.{Graph, graph_of}
use Rattle.tables.specs.declared.Table.{Table}

abbrev pub graph_in : Table → Graph
graph_in t = graph_of t.tasks t.starts.now t.words.now
