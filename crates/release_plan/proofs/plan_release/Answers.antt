use Rattle.std.proofs.lemmas.Result.{err_from_is_err_and}
use Rattle.release_plan.proofs.Plans.{decide-none, decide-lower, ready-inside, decide-nowhere, decide-place}
use Rattle.release_plan.proofs.plan_release.Goals as goal

pub returns-in_err-picked : goal.returns-in_err-picked
returns-in_err-picked c =
    let p = err_from_is_err_and c.from_residual.result c.from_residual.ensures.1 in
    rw (p.1, p.2) (decide-none _ _ _ _ _ _ _ c.pick_next.ensures _ (rw (c.branch-picked.ensures, c.in_err-picked.is)))

pub returns-in-Waiting : goal.returns-in-Waiting
returns-in-Waiting c = decide-lower _ _ _ _ _ _ _ c.pick_next.ensures _ _ _ _ (rw (c.branch-picked.ensures, c.in_ok-picked.is, c.in-Waiting.is))

pub returns-in_err-owner-in-Ready : goal.returns-in_err-owner-in-Ready
returns-in_err-owner-in-Ready c =
    let p = err_from_is_err_and c.from_residual-in_err-owner-in-Ready.result c.from_residual-in_err-owner-in-Ready.ensures.1 in
    rw (p.1, p.2) (decide-nowhere _ _ _ _ _ _ _ c.pick_next.ensures c.in-Ready.task c.in-Ready.count (rw (c.branch-picked.ensures, c.in_ok-picked.is, c.in-Ready.is)) _
    c.find_owner.ensures.owned _ (rw (c.branch-owner.ensures, c.in_err-owner-in-Ready.is)))

pub plan_place-requires : goal.plan_place-requires
plan_place-requires c = (
  ready-inside _ _ _ _ _ _ _ c.pick_next.ensures c.in-Ready.task c.in-Ready.count (rw (c.branch-picked.ensures, c.in_ok-picked.is, c.in-Ready.is)) c.requires,
  c.requires.run,
)

pub returns-in_ok-owner-in-Ready : goal.returns-in_ok-owner-in-Ready
returns-in_ok-owner-in-Ready c =
    decide-place _ _ _ _ _ _ _ c.pick_next.ensures c.in-Ready.task c.in-Ready.count (rw (c.branch-picked.ensures, c.in_ok-picked.is, c.in-Ready.is)) _
    c.find_owner.ensures.owned c.in_ok-owner-in-Ready.owner c.in_ok-owner-in-Ready.both (rw (c.branch-owner.ensures, c.in_ok-owner-in-Ready.is)) c.requires _ c.plan_place.ensures
