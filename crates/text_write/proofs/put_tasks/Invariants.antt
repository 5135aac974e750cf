-- The lines of the first t tasks are put.
use Rattle.text_write.proofs.Laws.{TasksPut}
use Rattle.text_write.proofs.put_tasks.Given as goal

abbrev pub invariant-loop-t : goal.invariant-loop-t
invariant-loop-t l = TasksPut l.at l.weights l.starts l.preds l.initial.out l.t l.out l.end
