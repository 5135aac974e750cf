use Rattle.release_plan.proofs.Plans.{place-heavy, place-full, place-made}
use mir.Facts.{Fits-32_64}
use Rattle.release_plan.proofs.plan_place.Goals as goal

pub returns-then-weight-gt65535 : goal.returns-then-weight-gt65535
returns-then-weight-gt65535 c = place-heavy _ _ _ _ _ _ _ c.if-weight-gt65535.true

pub overflow_cast-accepted : goal.overflow_cast-accepted
overflow_cast-accepted c = Fits-32_64 (c.type_inv.run _)

pub returns-then-steps-accepted : goal.returns-then-steps-accepted
returns-then-steps-accepted c = place-full _ _ _ _ _ _ _ c.if-weight-gt65535.false c.if-steps-accepted.true

pub returns : goal.returns
returns c = place-made _ _ _ _ _ _ _ c.if-weight-gt65535.false c.if-steps-accepted.false
