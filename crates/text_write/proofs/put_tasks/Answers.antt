use native.Mathlib.Omega.{arith}
use lib.ListN.{length}
use Rattle.graph.specs.Graph.{part}
use Rattle.graph.specs.Conditions.{Good}
use Rattle.graph.proofs.Parts.{length_part}
use Rattle.text_write.proofs.Laws.{task-room, next-task, all-tasks}
use Rattle.text_write.proofs.put_tasks.Goals as goal
use Rattle.text_write.proofs.put_tasks.Goals.{In-loop-t}

-- where the predecessors of the next task stand
good : (c : In-loop-t) → Good (length c.args.weights.now) c.args.starts.now c.args.preds.now c.loop-t.t
good c = c.requires.0.good _ (omega arith)

pub put_task-end-requires : goal.put_task-end-requires
unfolding part
put_task-end-requires c =
    let l = c.loop-t in
    let p = c.requires in (
      task-room _ _ _ _ _ _ _ _ l.invariant (omega arith) p.1,
      omega (arith, p.0.sized.tasks),
      omega (arith, length_part (good (goal.at.put_task-end-requires c).In-loop-t), (good (goal.at.put_task-end-requires c).In-loop-t).inside, p.0.sized.edges),
    )

pub loop-t-preserved : goal.loop-t-preserved
unfolding part
loop-t-preserved c =
    next-task _ _ _ _ _ _ _ _ c.loop-t.invariant _ _ (omega arith) c.put_task-end.ensures

pub returns : goal.returns
returns c = all-tasks _ _ _ _ _ _ _ _ c.loop-t.invariant (omega arith)
