-- The loop keeps: of the tasks from t on, those without successors are queued, falling.
use Rattle.strip.specs.Queue.{Falling}
use Rattle.strip.proofs.queue_sinks.Given as goal

abbrev pub invariant-loop-t : goal.invariant-loop-t
invariant-loop-t l = Falling l.t l.n l.left l.initial.queue l.queue l.tail
