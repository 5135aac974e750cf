use Rattle.std.proofs.lemmas.Result.{err_from_is_err_and}
use Rattle.release_plan.proofs.Owners.{owner-damaged, target_below, owner-unsound, owner-none, owner-at}
use native.Mathlib.Omega.{arith}
use Rattle.lists.proofs.Told.{with_both}
use Rattle.release_plan.proofs.find_owner.Goals as goal

pub returns-in_err-target : goal.returns-in_err-target
returns-in_err-target c =
    let p = err_from_is_err_and c.from_residual.result c.from_residual.ensures.1 in
    rw (p.1, p.2) (with_both (λ a b. record { value = a; owned = b })
    (owner-damaged _ _ _ c.choose.ensures _ _ _ _ _ (rw (c.branch-target.ensures, c.in_err-target.is))))

pub find_room-requires : goal.find_room-requires
find_room-requires c = omega (arith, target_below _ _ _ c.choose.ensures c.in_ok-target.target (rw (c.branch-target.ensures, c.in_ok-target.is)) (omega arith))

pub returns-in_err-owner : goal.returns-in_err-owner
returns-in_err-owner c =
    let p = err_from_is_err_and c.from_residual-in_err-owner.result c.from_residual-in_err-owner.ensures.1 in
    rw (p.1, p.2) (with_both (λ a b. record { value = a; owned = b })
    (owner-unsound _ _ _ c.choose.ensures _ _ _ _ c.in_ok-target.target (rw (c.branch-target.ensures, c.in_ok-target.is)) _
    c.find_room.ensures.result_value _ (rw (c.branch-owner.ensures, c.in_err-owner.is))))

pub returns-in_default : goal.returns-in_default
returns-in_default c =
    with_both (λ a b. record { value = a; owned = b })
    (owner-none _ _ _ c.choose.ensures _ _ _ _ c.in_ok-target.target (rw (c.branch-target.ensures, c.in_ok-target.is)) _
    c.find_room.ensures.result_value (rw (c.branch-owner.ensures, c.in_ok-owner.is, c.in_default.is)))

pub returns : goal.returns
returns c =
    with_both (λ a b. record { value = a; owned = b })
    (owner-at _ _ _ c.choose.ensures _ _ _ _ c.in_ok-target.target (rw (c.branch-target.ensures, c.in_ok-target.is)) _
    c.find_room.ensures.result_value c.find_room.ensures.reads c.in-Some.owner c.in-Some.both
    (rw (c.branch-owner.ensures, c.in_ok-owner.is, c.in-Some.is)) (omega arith))
