use Rattle.weak_complete.proofs.Laws.{second-inside, words-stored}
use Rattle.weak_complete.proofs.put_copy.Goals as goal

pub bounds-executed-n-2 : goal.bounds-executed-n-2
bounds-executed-n-2 c = second-inside c.args.executed.now c.args.n c.args.copy.task.0 c.requires

pub returns : goal.returns
returns c = words-stored c.args.executed.now c.args.n c.args.copy.task.0 c.args.copy.predecessor.0 c.args.worker.0
