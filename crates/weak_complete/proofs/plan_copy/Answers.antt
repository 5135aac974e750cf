use Rattle.weak_complete.proofs.Laws.{copy-counted, copy-planned}
use native.Mathlib.Omega.{arith}
use Rattle.weak_complete.proofs.plan_copy.Goals as goal

pub overflow_cast-accepted : goal.overflow_cast-accepted
overflow_cast-accepted c = omega (arith, c.type_inv.run 1)

pub returns-then-e-roots : goal.returns-then-e-roots
returns-then-e-roots c = copy-counted _ _ _ _ _ _ _ c.requires.1.1.1 c.if-e-roots.true

pub returns : goal.returns
returns c = copy-planned _ _ _ _ _ _ _ c.requires.1.1.1 c.if-e-roots.false
