use native.Mathlib.Omega.{arith}
use Rattle.strip.proofs.Queue.{falling-more}
use Rattle.strip.proofs.queue_sinks.Goals as goal

pub loop-t-preserved : goal.loop-t-preserved
loop-t-preserved c =
    let at = c.loop-t in
    falling-more _ at.t _ _ _ _ _ _ _ (omega arith) at.invariant (omega arith) c.queue_if-tail.ensures.0 c.queue_if-tail.ensures.1
