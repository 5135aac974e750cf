use Rattle.std.proofs.lemmas.Result.{err_from_is_err_and}
use Rattle.weak_release.proofs.Plan.{later-unsound, later-full, later-damaged, later-planned}
use Rattle.weak_release.proofs.plan_later.Goals as goal

pub returns-then-not-is_sound : goal.returns-then-not-is_sound
returns-then-not-is_sound c = later-unsound _ _ _ _ _ _ _ _ _ c.requires.1.1 _ _ _ c.ring_number-ring.ensures.0 _ c.ends_at-both.ensures _ c.is_sound.ensures c.if-not-is_sound.true-raw

pub returns-then-is_full : goal.returns-then-is_full
returns-then-is_full c = later-full _ _ _ _ _ _ _ _ _ c.requires.1.1 _ _ _ c.ring_number-ring.ensures.0 _ c.ends_at-both.ensures _ c.is_sound.ensures c.if-not-is_sound.false-raw _ c.is_full.ensures c.if-is_full.true

pub returns-in_err-accepted : goal.returns-in_err-accepted
returns-in_err-accepted c =
    let p = err_from_is_err_and c.from_residual.result c.from_residual.ensures.1 in
    rw (p.1, p.2) (later-damaged _ _ _ _ _ _ _ _ _ c.requires.1.1 _ _ _ c.ring_number-ring.ensures.0 _ c.ends_at-both.ensures _ c.is_sound.ensures c.if-not-is_sound.false-raw _ c.is_full.ensures c.if-is_full.false _ c.count_of.ensures _ (rw (c.branch-accepted.ensures, c.in_err-accepted.is)))

pub returns : goal.returns
returns c = later-planned _ _ _ _ _ _ _ _ _ c.requires.1.1 _ _ _ c.ring_number-ring.ensures.0 _ c.ends_at-both.ensures _ c.is_sound.ensures c.if-not-is_sound.false-raw _ c.is_full.ensures c.if-is_full.false _ c.count_of.ensures c.in_ok-accepted.accepted (rw (c.branch-accepted.ensures, c.in_ok-accepted.is))
