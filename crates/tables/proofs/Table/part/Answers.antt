use mathlib.Core.Path.{refl}
use Rattle.graph.specs.Graph.{part}
use Rattle.tables.proofs.Table.part.Goals as goal

pub returns : goal.returns
unfolding part
returns c = refl
