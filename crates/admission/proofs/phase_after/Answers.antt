use Rattle.admission.proofs.Phase.{phase-damaged, phase-wrong, phase-suits}
use Rattle.admission.proofs.phase_after.Goals as goal

pub returns-then-phase-gt2 : goal.returns-then-phase-gt2
returns-then-phase-gt2 c = phase-damaged _ _ c.if-phase-gt2.true

pub returns-in_default : goal.returns-in_default
returns-in_default c = phase-wrong _ _ _ c.next_phase.ensures c.if-phase-gt2.false c.in_default.is

pub returns : goal.returns
returns c = phase-suits _ _ _ c.next_phase.ensures _ c.in-Some.is
