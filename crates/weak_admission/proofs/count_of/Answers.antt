use Rattle.weak_admission.proofs.Rows.{roots-damaged, word-damaged, word_counts}
use native.Mathlib.Omega.{arith}
use Rattle.weak_admission.proofs.count_of.Goals as goal

pub overflow_cast-roots : goal.overflow_cast-roots
overflow_cast-roots c = omega (arith, c.type_inv.run 2)

pub returns-then-tasks-roots : goal.returns-then-tasks-roots
returns-then-tasks-roots c = roots-damaged _ _ _ c.if-tasks-roots.true

pub overflow_cast-accepted : goal.overflow_cast-accepted
overflow_cast-accepted c = omega (arith, c.type_inv.run 1)

pub returns-then-edges-roots : goal.returns-then-edges-roots
returns-then-edges-roots c = word-damaged _ _ _ c.if-tasks-roots.false c.if-edges-roots.true

pub returns : goal.returns
returns c = word_counts _ _ _ c.if-tasks-roots.false c.if-edges-roots.false
