use Rattle.std.proofs.lemmas.Result.{err_from_is_err_and}
use Rattle.fetch.proofs.Laws.{found-unsound, found_none, found_inside, found-takes, head-ready}
use Rattle.fetch.proofs.plan_found.Goals as goal

pub returns-in_err-filler : goal.returns-in_err-filler
returns-in_err-filler c =
    let p = err_from_is_err_and c.from_residual.result c.from_residual.ensures.1 in
    rw (p.1, p.2) (found-unsound _ _ _ _ _ _ _ _ _ (rw (c.branch-filler.ensures, c.in_err-filler.is)))

pub returns-in_default : goal.returns-in_default
returns-in_default c = found_none _ _ _ _ _ _ _ _ (rw (c.branch-filler.ensures, c.in_ok-filler.is, c.in_default.is))

pub ring_number-requires : goal.ring_number-requires
ring_number-requires c = (
  c.requires.0.worker,
  (
    (found_inside _ _ c.args.worker.0 c.args.tasks c.args.steps c.args.rings.now c.args.run.now c.args.found c.in-Some.filler c.in-Some.both
        (rw (c.branch-filler.ensures, c.in_ok-filler.is, c.in-Some.is)) c.requires.1).0,
    c.requires.0.few_workers,
  ),
)

pub head_of-task-requires : goal.head_of-task-requires
head_of-task-requires c =
    head-ready _ _ _ _ _ c.requires.0 _ c.ring_number.ensures.1 _
    (found_inside _ _ c.args.worker.0 c.args.tasks c.args.steps c.args.rings.now c.args.run.now c.args.found c.in-Some.filler c.in-Some.both
    (rw (c.branch-filler.ensures, c.in_ok-filler.is, c.in-Some.is)) c.requires.1).1

pub returns : goal.returns
returns c =
    found-takes _ _ _ _ _ _ _ _ c.in-Some.filler c.in-Some.both (rw (c.branch-filler.ensures, c.in_ok-filler.is, c.in-Some.is))
    _ c.ring_number.ensures.0 _ c.head_of-task.ensures _ c.plan_task.ensures
