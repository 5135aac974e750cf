-- The part of the predecessors that is passed on is task t's own.
use Rattle.tables.proofs.Laws.{part_small}
use Rattle.cycles.proofs.mark_preds.Goals as goal

pub mark_all-requires : goal.mark_all-requires
mark_all-requires c = (c.requires.1, rw c.part.ensures (part_small c.args.table.sound _ c.requires.0))
