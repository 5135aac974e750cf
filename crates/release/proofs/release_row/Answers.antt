use Rattle.std.proofs.lemmas.Result.{err_from_is_err_and}
use Rattle.release.proofs.Whole.{steps-fit, lists-fit, row_keeps, whole-refused, whole-none, lower-ready, whole-lower, place-ready, whole-place}
use native.Mathlib.Omega.{arith}
use Rattle.release.proofs.release_row.Goals as goal

pub returns-in_err-after : goal.returns-in_err-after
returns-in_err-after c =
    let p = err_from_is_err_and c.from_residual.result c.from_residual.ensures.1 in
    rw (p.1, p.2) (record { releases = whole-refused _ _ _ _ c.args.judged _ _ _ _ c.admit.ensures _ (rw (c.branch-after.ensures, c.in_err-after.is)); read_and_cursor = tt })

pub overflow_mul-steps : goal.overflow_mul-steps
overflow_mul-steps c = omega (arith, steps-fit _ _ _ _ c.args.judged _ _ _ _ c.admit.ensures c.requires c.in_ok-after.after (rw (c.branch-after.ensures, c.in_ok-after.is)))

pub overflow_add-steps : goal.overflow_add-steps
overflow_add-steps c = omega (arith, steps-fit _ _ _ _ c.args.judged _ _ _ _ c.admit.ensures c.requires c.in_ok-after.after (rw (c.branch-after.ensures, c.in_ok-after.is)))

pub plan_release-requires : goal.plan_release-requires
plan_release-requires c = lists-fit _ _ _ _ c.args.judged _ _ _ _ c.admit.ensures c.requires c.in_ok-after.after (rw (c.branch-after.ensures, c.in_ok-after.is))

pub lower-requires : goal.lower-requires
lower-requires c = lower-ready _ _ _ _ c.args.judged _ _ _ _ c.admit.ensures c.requires c.in_ok-after.after (rw (c.branch-after.ensures, c.in_ok-after.is)) _ c.plan_release.ensures c.in-Lower.task c.in-Lower.count c.in-Lower.left c.in-Lower.accepted (rw (c.branch-plan.ensures, c.in_ok-plan.is, c.in-Lower.is))

pub place-requires : goal.place-requires
place-requires c = place-ready _ _ _ _ c.args.judged _ _ _ _ c.admit.ensures c.requires c.in_ok-after.after (rw (c.branch-after.ensures, c.in_ok-after.is)) _ c.plan_release.ensures c.in-Place.task c.in-Place.count c.in-Place.owner c.in-Place.both c.in-Place.weight c.in-Place.accepted (rw (c.branch-plan.ensures, c.in_ok-plan.is, c.in-Place.is))

pub returns-in_err-plan : goal.returns-in_err-plan
returns-in_err-plan c =
    let p = err_from_is_err_and c.from_residual-in_err-plan.result c.from_residual-in_err-plan.ensures.1 in
    rw (p.1, p.2) (record { releases = whole-none _ _ _ _ c.args.judged _ _ _ _ c.admit.ensures c.requires c.in_ok-after.after (rw (c.branch-after.ensures, c.in_ok-after.is)) _ c.plan_release.ensures _ (rw (c.branch-plan.ensures, c.in_err-plan.is)); read_and_cursor = tt })

pub returns-in-Lower : goal.returns-in-Lower
returns-in-Lower c = record { releases = whole-lower _ _ _ _ c.args.judged _ _ _ _ c.admit.ensures c.requires c.in_ok-after.after (rw (c.branch-after.ensures, c.in_ok-after.is)) _ c.plan_release.ensures c.in-Lower.task c.in-Lower.count c.in-Lower.left c.in-Lower.accepted (rw (c.branch-plan.ensures, c.in_ok-plan.is, c.in-Lower.is)) _ _ c.lower.result c.lower.ensures.lowered; read_and_cursor = row_keeps _ c.args.judged _ c.admit.ensures c.in_ok-after.after (rw (c.branch-after.ensures, c.in_ok-after.is)) c.lower.result c.lower.ensures.read_and_cursor }

pub returns-in-Place : goal.returns-in-Place
returns-in-Place c = record { releases = whole-place _ _ _ _ c.args.judged _ _ _ _ c.admit.ensures c.requires c.in_ok-after.after (rw (c.branch-after.ensures, c.in_ok-after.is)) _ c.plan_release.ensures c.in-Place.task c.in-Place.count c.in-Place.owner c.in-Place.both c.in-Place.weight c.in-Place.accepted (rw (c.branch-plan.ensures, c.in_ok-plan.is, c.in-Place.is)) _ c.place.result c.place.ensures.joined; read_and_cursor = row_keeps _ c.args.judged _ c.admit.ensures c.in_ok-after.after (rw (c.branch-after.ensures, c.in_ok-after.is)) c.place.result c.place.ensures.read_and_cursor }
