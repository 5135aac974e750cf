use Rattle.std.proofs.lemmas.Result.{err_from_is_err_and}
use Rattle.weak_release.proofs.Plan.{pick-asks, plan-none, first-none, first-asks, first-plans, later-asks, later-plans}
use Rattle.weak_release.proofs.plan_release.Goals as goal

pub pick_copy-requires : goal.pick_copy-requires
pick_copy-requires c = pick-asks _ _ _ _ c.args.row c.args.weights.now _ _ _ c.args.ends.now c.args.counters.now _ c.args.run.now c.requires

pub returns-in_err-picked : goal.returns-in_err-picked
returns-in_err-picked c =
    let p = err_from_is_err_and c.from_residual.result c.from_residual.ensures.1 in
    rw (p.1, p.2) (plan-none _ _ _ _ _ _ _ _ _ _ _ _ _ c.requires _ c.pick_copy.ensures _ (rw (c.branch-picked.ensures, c.in_err-picked.is)))

pub returns-in_err-owner-in-First : goal.returns-in_err-owner-in-First
returns-in_err-owner-in-First c =
    let p = err_from_is_err_and c.from_residual-in_err-owner-in-First.result c.from_residual-in_err-owner-in-First.ensures.1 in
    rw (p.1, p.2) (first-none _ _ _ _ _ _ _ _ _ _ _ _ _ c.requires _ c.pick_copy.ensures c.in-First.task c.in-First.completed c.in-First.count (rw (c.branch-picked.ensures, c.in_ok-picked.is, c.in-First.is)) _
    c.find_owner.ensures.value _ (rw (c.branch-owner.ensures, c.in_err-owner-in-First.is)))

pub plan_first-requires : goal.plan_first-requires
plan_first-requires c = first-asks _ _ _ _ _ _ _ _ _ _ _ _ _ c.requires _ c.pick_copy.ensures c.in-First.task c.in-First.completed c.in-First.count (rw (c.branch-picked.ensures, c.in_ok-picked.is, c.in-First.is)) _ c.find_owner.ensures.value

pub returns-in_ok-owner-in-First : goal.returns-in_ok-owner-in-First
returns-in_ok-owner-in-First c =
    first-plans _ _ _ _ _ _ _ _ _ _ _ _ _ c.requires _ c.pick_copy.ensures c.in-First.task c.in-First.completed c.in-First.count (rw (c.branch-picked.ensures, c.in_ok-picked.is, c.in-First.is)) _ c.find_owner.ensures.value c.find_owner.ensures.owned
    c.in_ok-owner-in-First.owner c.in_ok-owner-in-First.both (rw (c.branch-owner.ensures, c.in_ok-owner-in-First.is)) _ c.plan_first.ensures

pub plan_later-requires : goal.plan_later-requires
plan_later-requires c = later-asks _ _ _ _ _ _ _ _ _ _ _ _ _ c.requires _ c.pick_copy.ensures c.in-Later.task c.in-Later.completed c.in-Later.count c.in-Later.owner (rw (c.branch-picked.ensures, c.in_ok-picked.is, c.in-Later.is))

pub returns-in-Later : goal.returns-in-Later
returns-in-Later c = later-plans _ _ _ _ _ _ _ _ _ _ _ _ _ c.requires _ c.pick_copy.ensures c.in-Later.task c.in-Later.completed c.in-Later.count c.in-Later.owner (rw (c.branch-picked.ensures, c.in_ok-picked.is, c.in-Later.is)) _ c.plan_later.ensures
