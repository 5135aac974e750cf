-- One side or the other.
use Rattle.task.specs.declared.Side.TheVariants.{Predecessors, Successors}
use Rattle.graph.specs.Lookup.{lent_of}
use Rattle.lookup.proofs.Laws.{side-is}
use Rattle.lookup.proofs.side_fits.Goals as goal

pub returns-in-Predecessors : goal.returns-in-Predecessors
returns-in-Predecessors c = side-is Predecessors _ (lent_of c.args.weights.now c.args.pred_starts.now c.args.preds.now c.args.succ_starts.now c.args.succs.now) _ _ c.in-Predecessors.is c.task_fits.ensures

pub returns-in-Successors : goal.returns-in-Successors
returns-in-Successors c = side-is Successors _ (lent_of c.args.weights.now c.args.pred_starts.now c.args.preds.now c.args.succ_starts.now c.args.succs.now) _ _ c.in-Successors.is c.task_fits-in-Successors.ensures
