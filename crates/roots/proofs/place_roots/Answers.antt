use Rattle.roots.proofs.Laying.{laid-whole}
use native.Mathlib.Omega.{arith}
use Rattle.roots.proofs.place_roots.Goals as goal

pub overflow_cast-t-end : goal.overflow_cast-t-end
overflow_cast-t-end c = omega (arith, c.requires.dealt.job.few_tasks)

pub loop-t-init : goal.loop-t-init
loop-t-init c = c.requires

pub lay_task-owner-requires : goal.lay_task-owner-requires
lay_task-owner-requires c = (c.loop-t.invariant, omega arith)

pub returns : goal.returns
returns c = laid-whole _ _ _ _ _ _ _ _ _ c.loop-t.invariant (omega arith)
