use Rattle.std.proofs.lemmas.Result.{err_from_is_err_and}
use Rattle.release_plan.proofs.Reach.{reach-inside}
use Rattle.release_plan.proofs.Picks.{pick-none, pick-degree}
use Rattle.release_plan.proofs.pick_next.Goals as goal

pub returns-in_err-task : goal.returns-in_err-task
returns-in_err-task c =
    let p = err_from_is_err_and c.from_residual.result c.from_residual.ensures.1 in
    rw (p.1, p.2) (pick-none _ _ _ _ _ _ _ _ _ c.pick_successor.ensures _ (rw (c.branch-task.ensures, c.in_err-task.is)))

pub pick_degree-requires : goal.pick_degree-requires
pick_degree-requires c = (
  reach-inside _ _ _ _ _ _ _ _ _ c.pick_successor.ensures c.in_ok-task.task c.in_ok-task.field-0-1 c.in_ok-task.count
      (rw (c.branch-task.ensures, c.in_ok-task.is)),
  c.requires.1.1,
)

pub returns : goal.returns
returns c =
    pick-degree _ _ _ _ _ _ _ _ _ c.pick_successor.ensures c.in_ok-task.task c.in_ok-task.field-0-1 c.in_ok-task.count
    (rw (c.branch-task.ensures, c.in_ok-task.is)) _ c.pick_degree.ensures
