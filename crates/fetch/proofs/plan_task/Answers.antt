use Rattle.fetch.proofs.Laws.{task-unknown, task-counted, task-fetchable}
use mathlib.Core.Path.{refl}
use native.Mathlib.Omega.{arith}
use Rattle.fetch.proofs.plan_task.Goals as goal

pub returns-then-tasks-task : goal.returns-then-tasks-task
returns-then-tasks-task c = task-unknown _ _ _ _ _ _ c.if-tasks-task.true

pub overflow_cast-accepted : goal.overflow_cast-accepted
overflow_cast-accepted c = omega (arith, c.type_inv.run 1)

pub returns-then-steps-accepted : goal.returns-then-steps-accepted
returns-then-steps-accepted c = task-counted _ _ _ _ _ _ c.if-tasks-task.false c.if-steps-accepted.true

pub returns : goal.returns
returns c = task-fetchable _ _ _ _ _ _ c.if-tasks-task.false c.if-steps-accepted.false _ _ refl refl
