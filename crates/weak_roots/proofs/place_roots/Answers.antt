use native.Mathlib.Omega.{arith}
use Rattle.weak_roots.proofs.Laying.{rings-kept, laid-whole}
use Rattle.weak_roots.proofs.place_roots.Goals as goal

pub overflow_cast-t-end : goal.overflow_cast-t-end
overflow_cast-t-end c = omega (arith, c.requires.dealt.job.few_tasks)

pub loop-t-init : goal.loop-t-init
loop-t-init c = c.requires

pub lay_task-owner-requires : goal.lay_task-owner-requires
lay_task-owner-requires c = (c.loop-t.invariant, omega arith)

pub shape_of-rings : goal.shape_of-rings
shape_of-rings c = rings-kept _ _ _ c.loop-t.invariant.dealt.room.rings c.requires.dealt.room.rings

pub returns : goal.returns
returns c = laid-whole _ _ _ _ _ _ _ _ _ _ c.loop-t.invariant (omega arith)
