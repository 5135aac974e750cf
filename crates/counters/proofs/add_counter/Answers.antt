use Rattle.task.proofs.Counters.{cast_fits}
use Rattle.counters.proofs.Laws.{add-fits, add-made}
use Rattle.counters.proofs.add_counter.Goals as goal

pub overflow_cast-result : goal.overflow_cast-result
overflow_cast-result c = cast_fits _ c.ranges.counter

pub overflow_add-result : goal.overflow_add-result
overflow_add-result c = add-fits _ c.ranges.counter _ c.ranges.sum c.requires

pub returns : goal.returns
returns c = add-made _ c.ranges.counter _ c.ranges.sum c.requires
