-- In fresh tables the walk marks t exactly if t leads to itself.
use Rattle.cycles.proofs.Walks.{fresh}
use Rattle.cycles.proofs.on_cycle.Goals as goal

pub mark_before-requires : goal.mark_before-requires
mark_before-requires c = (c.requires, fresh)
