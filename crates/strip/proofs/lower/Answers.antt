-- A task with a successor left is not queued, so there is room for it when its last successor goes.
use Prim.Native.Nat.{◌<◌}
use native.Mathlib.Omega.{arith}
use Rattle.strip.proofs.Queue.{lower-at, not-queued, room_for, lower_last, lower-more}
use Rattle.strip.proofs.lower.Goals as goal
use Rattle.strip.proofs.lower.Goals.{Start}

-- the task stands in the list, and while it is not queued there is room
task : (c : Start) → c.args.u < 1024
task c = lower-at _ _ _ c.requires.0 c.args.u c.requires.1

room : (c : Start) → c.args.tail < 1024
room c = room_for _ _ _ c.requires.0 c.args.u (task c) (not-queued _ _ _ c.requires.0 c.args.u c.requires.1)

pub bounds-queue-tail : goal.bounds-queue-tail
bounds-queue-tail c = omega (arith, room (goal.at.bounds-queue-tail c).Start)

pub returns-then-more-eq0 : goal.returns-then-more-eq0
returns-then-more-eq0 c = let p = c.requires in lower_last _ _ _ p.0 c.args.u p.1 (omega arith)

pub returns : goal.returns
returns c = let p = c.requires in lower-more _ _ _ p.0 c.args.u p.1 (λ e. omega arith)
