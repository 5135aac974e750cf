-- A task that is not left has nothing to tell; another's predecessors are its part of the table.
use Rattle.tables.proofs.Laws.{part_small}
use Rattle.cycles.proofs.Ranks.{lowest-parts}
use Rattle.cycles.proofs.lowest_before.Goals as goal

pub lowest-requires : goal.lowest-requires
lowest-requires c = rw c.part.ensures (part_small c.args.table.sound _ c.requires.0)

pub returns : goal.returns
returns c = lowest-parts _ _ _ _ (rw c.part.ensures at c.lowest.ensures)
