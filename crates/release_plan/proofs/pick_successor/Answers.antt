use Rattle.release_plan.proofs.Reach.{reach-write, reach-empty, reach-places, reach-task, reach-past, reach-first, reach-cursor, reach-word, reach-at}
use native.Mathlib.Omega.{arith}
use mir.Facts.{Fits-32_64}
use Rattle.release_plan.proofs.pick_successor.Goals as goal

pub returns-then-n-write : goal.returns-then-n-write
returns-then-n-write c = reach-write _ _ _ _ _ _ _ _ c.if-n-write.true

pub returns-then-read-write : goal.returns-then-read-write
returns-then-read-write c = reach-empty _ _ _ _ _ _ _ _ c.if-n-write.false c.if-read-write.true

pub returns-then-write-read : goal.returns-then-write-read
returns-then-write-read c = reach-places _ _ _ _ _ _ _ _ (omega (arith, c.if-write-read.true, c.if-read-write.false))

pub overflow_cast-done-3 : goal.overflow_cast-done-3
overflow_cast-done-3 c = Fits-32_64 (c.type_inv.buffers _)

pub returns-then-n-done : goal.returns-then-n-done
returns-then-n-done c = reach-task _ _ _ _ _ _ _ _ c.if-n-write.false c.if-write-read.false c.if-n-done.true

pub overflow_cast-past-2 : goal.overflow_cast-past-2
overflow_cast-past-2 c = Fits-32_64 (c.type_inv.succ_starts _)

pub returns-then-succs-past : goal.returns-then-succs-past
returns-then-succs-past c = reach-past _ _ _ _ _ _ _ _ c.if-n-write.false c.if-write-read.false c.if-n-done.false c.if-succs-past.true

pub returns-then-past-first : goal.returns-then-past-first
returns-then-past-first c = reach-first _ _ _ _ _ _ _ _ c.if-n-write.false c.if-write-read.false c.if-n-done.false c.if-past-first.true

pub returns-then-count-cursor : goal.returns-then-count-cursor
returns-then-count-cursor c = reach-cursor _ _ _ _ _ _ _ _ c.if-n-write.false c.if-write-read.false c.if-n-done.false c.if-succs-past.false c.if-past-first.false c.if-count-cursor.true

pub overflow_cast-task-3 : goal.overflow_cast-task-3
overflow_cast-task-3 c = Fits-32_64 (c.type_inv.succs _)

pub returns-then-n-task : goal.returns-then-n-task
returns-then-n-task c = reach-word _ _ _ _ _ _ _ _ c.if-n-write.false c.if-write-read.false c.if-n-done.false c.if-succs-past.false c.if-past-first.false c.if-count-cursor.false c.if-n-task.true

pub returns : goal.returns
returns c = reach-at _ _ _ _ _ _ _ _ c.if-n-write.false c.if-write-read.false c.if-n-done.false c.if-succs-past.false c.if-past-first.false c.if-count-cursor.false c.if-n-task.false
