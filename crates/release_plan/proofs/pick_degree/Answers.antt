use Rattle.release_plan.proofs.Picks.{degree-none, degree-ready, degree-over, degree-full, degree-waits}
use mir.Facts.{Fits-32_64}
use Rattle.release_plan.proofs.pick_degree.Goals as goal

pub returns-then-degree-eq0 : goal.returns-then-degree-eq0
returns-then-degree-eq0 c = degree-none _ _ _ _ _ c.if-degree-eq0.true

pub returns-then-degree-lt2 : goal.returns-then-degree-lt2
returns-then-degree-lt2 c = degree-ready _ _ _ _ _ c.requires.0 c.if-degree-lt2.true c.if-degree-eq0.false

pub overflow_cast-degree-2 : goal.overflow_cast-degree-2
overflow_cast-degree-2 c = Fits-32_64 (c.type_inv.degrees _)

pub returns-then-degrees-degree : goal.returns-then-degrees-degree
returns-then-degrees-degree c = degree-over _ _ _ _ _ c.if-degree-lt2.false c.if-degrees-degree.true

pub overflow_cast-accepted : goal.overflow_cast-accepted
overflow_cast-accepted c = Fits-32_64 (c.type_inv.run _)

pub returns-then-steps-accepted : goal.returns-then-steps-accepted
returns-then-steps-accepted c = degree-full _ _ _ _ _ c.if-degree-lt2.false c.if-degrees-degree.false c.if-steps-accepted.true

pub returns : goal.returns
returns c = degree-waits _ _ _ _ _ c.if-degree-lt2.false c.if-degrees-degree.false c.if-steps-accepted.false
