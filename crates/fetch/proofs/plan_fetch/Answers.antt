use Rattle.fetch.proofs.Laws.{pointer-damaged, scan-reachable, scan-plans, sized-readable}
use Rattle.fetch.proofs.plan_fetch.Goals as goal

pub returns-then-p-pointer : goal.returns-then-p-pointer
returns-then-p-pointer c = pointer-damaged _ _ _ _ _ _ _ _ _ c.if-p-pointer.true

pub plan_found-requires : goal.plan_found-requires
plan_found-requires c = (sized-readable _ _ _ _ _ _ c.requires, scan-reachable _ _ _ c.args.tasks c.args.steps _ c.args.rings.now _ c.args.run.now c.if-p-pointer.false c.find_task-found.result c.find_task-found.ensures.result_value c.find_task-found.ensures.reads)

pub returns : goal.returns
returns c = scan-plans _ _ _ _ _ _ _ _ _ c.if-p-pointer.false c.find_task-found.result c.find_task-found.ensures.result_value c.find_task-found.ensures.reads _ c.plan_found.ensures
