-- An accepted judgement gives the range and its place; a refused one an empty part.
use Rattle.lookup.proofs.Laws.{handed-nothing, range-on, handed-part}
use Rattle.lookup.proofs.neighbours.Goals as goal

pub returns-in_default : goal.returns-in_default
returns-in_default c = handed-nothing _ _ _ _ c.judge-answer.ensures c.args.preds.ref_ptr c.args.succs.ref_ptr _ _ c.in_default.is

pub part_at-requires : goal.part_at-requires
part_at-requires c = range-on _ _ _ _ c.judge-answer.ensures c.in-Ok.is _ c.in-Predecessors.is

pub part_at-requires-in-Successors : goal.part_at-requires-in-Successors
part_at-requires-in-Successors c = range-on _ _ _ _ c.judge-answer.ensures c.in-Ok.is _ c.in-Successors.is

pub returns-in-Predecessors : goal.returns-in-Predecessors
returns-in-Predecessors c = handed-part _ _ _ _ c.judge-answer.ensures c.in-Ok.is c.args.preds.ref_ptr c.args.succs.ref_ptr _ c.in-Predecessors.is _ _ c.part_at.ensures

pub returns-in-Successors : goal.returns-in-Successors
returns-in-Successors c = handed-part _ _ _ _ c.judge-answer.ensures c.in-Ok.is c.args.preds.ref_ptr c.args.succs.ref_ptr _ c.in-Successors.is _ _ c.part_at-in-Successors.ensures
