-- The place and the count of an accepted lookup's part.
use Rattle.graph_export.proofs.Laws.{part-refused, part-range, part-accepted}
use Rattle.graph_export.proofs.yolluvek_lookup.Goals as goal

pub returns-in_default : goal.returns-in_default
returns-in_default c =
    part-refused _ _ _ _ _ _ c.side_of-on.ensures c.new-named.ensures c.judge-answer.ensures _ c.in_default.is

pub part_at-requires : goal.part_at-requires
part_at-requires c =
    part-range _ _ _ _ _ _ c.side_of-on.ensures c.new-named.ensures c.judge-answer.ensures c.in-Ok.is _ c.in-Predecessors.is

pub part_at-requires-in-Successors : goal.part_at-requires-in-Successors
part_at-requires-in-Successors c =
    part-range _ _ _ _ _ _ c.side_of-on.ensures c.new-named.ensures c.judge-answer.ensures c.in-Ok.is _ c.in-Successors.is

pub returns-in-Predecessors : goal.returns-in-Predecessors
returns-in-Predecessors c =
    part-accepted _ _ _ _ _ _ c.side_of-on.ensures c.new-named.ensures c.judge-answer.ensures c.in-Ok.is _ c.in-Predecessors.is _ c.part_at.ensures

pub returns-in-Successors : goal.returns-in-Successors
returns-in-Successors c =
    part-accepted _ _ _ _ _ _ c.side_of-on.ensures c.new-named.ensures c.judge-answer.ensures c.in-Ok.is _ c.in-Successors.is _ c.part_at-in-Successors.ensures
