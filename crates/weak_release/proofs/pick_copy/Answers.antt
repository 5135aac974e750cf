use Rattle.std.proofs.lemmas.Result.{err_from_is_err_and}
use Rattle.weak_release.proofs.Plan.{pick-none, pick-inside, pick_at}
use Rattle.weak_release.proofs.pick_copy.Goals as goal

pub returns-in_err-task : goal.returns-in_err-task
returns-in_err-task c =
    let p = err_from_is_err_and c.from_residual.result c.from_residual.ensures.1 in
    rw (p.1, p.2) (pick-none _ _ _ _ _ _ _ _ c.pick_successor.ensures _ (rw (c.branch-task.ensures, c.in_err-task.is)))

pub pick_fixed-requires : goal.pick_fixed-requires
pick_fixed-requires c = (
  pick-inside c.args.p c.args.worker.0 c.args.row c.args.succ_starts.now c.args.succs.now c.args.fixed.now c.args.buffers.now _ c.pick_successor.ensures
      c.in_ok-task.task c.in_ok-task.completed c.in_ok-task.count (rw (c.branch-task.ensures, c.in_ok-task.is)),
  c.requires.1.1,
)

pub returns : goal.returns
returns c =
    pick_at _ _ _ _ _ _ _ _ c.pick_successor.ensures c.in_ok-task.task c.in_ok-task.completed c.in_ok-task.count
    (rw (c.branch-task.ensures, c.in_ok-task.is)) _ c.pick_fixed.ensures
