use Rattle.std.proofs.lemmas.Result.{err_from_is_err_and}
use Rattle.weak_release.proofs.Plan.{first-heavy, first-damaged, first-planned}
use Rattle.weak_release.proofs.plan_first.Goals as goal

pub returns-then-weight-gt65535 : goal.returns-then-weight-gt65535
returns-then-weight-gt65535 c = first-heavy _ _ _ _ _ _ _ _ c.if-weight-gt65535.true

pub returns-in_err-accepted : goal.returns-in_err-accepted
returns-in_err-accepted c =
    let p = err_from_is_err_and c.from_residual.result c.from_residual.ensures.1 in
    rw (p.1, p.2) (first-damaged _ _ _ _ _ _ _ _ c.if-weight-gt65535.false _ c.count_of.ensures _ (rw (c.branch-accepted.ensures, c.in_err-accepted.is)))

pub returns : goal.returns
returns c = first-planned _ _ _ _ _ _ _ _ c.if-weight-gt65535.false _ c.count_of.ensures c.in_ok-accepted.accepted (rw (c.branch-accepted.ensures, c.in_ok-accepted.is))
