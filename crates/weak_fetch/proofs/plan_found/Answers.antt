use Rattle.std.proofs.lemmas.Result.{err_from_is_err_and}
use Rattle.weak_fetch.proofs.Laws.{head-ready, found-damaged, found-counted, found-takes}
use Rattle.weak_fetch.proofs.plan_found.Goals as goal

pub head_copy-copy-requires : goal.head_copy-copy-requires
head_copy-copy-requires c = head-ready _ _ _ _ _ _ _ _ _ c.requires _ c.ring_number-ring.ensures.1

pub returns-then-not-copy_fits : goal.returns-then-not-copy_fits
returns-then-not-copy_fits c = found-damaged _ _ _ _ _ _ _ _ _ _ c.ring_number-ring.ensures.0 _ c.head_copy-copy.ensures _ c.copy_fits.ensures c.if-not-copy_fits.true-raw

pub returns-in_err-accepted : goal.returns-in_err-accepted
returns-in_err-accepted c =
    let p = err_from_is_err_and c.from_residual.result c.from_residual.ensures.1 in
    rw (p.1, p.2) (found-counted _ _ _ _ _ _ _ _ _ _ c.ring_number-ring.ensures.0 _ c.head_copy-copy.ensures _ c.copy_fits.ensures c.if-not-copy_fits.false-raw _ c.count_of.ensures _ (rw (c.branch-accepted.ensures, c.in_err-accepted.is)))

pub returns : goal.returns
returns c = found-takes _ _ _ _ _ _ _ _ _ _ c.ring_number-ring.ensures.0 _ c.head_copy-copy.ensures _ c.copy_fits.ensures c.if-not-copy_fits.false-raw _ c.count_of.ensures c.in_ok-accepted.accepted (rw (c.branch-accepted.ensures, c.in_ok-accepted.is))
