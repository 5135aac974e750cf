use Rattle.counters.proofs.Sums.{Summed}
use Rattle.counters.proofs.narrow_load.Given as goal

abbrev pub invariant-loop-counter : goal.invariant-loop-counter
invariant-loop-counter l = Summed 67108865 l.counters l.first l.counter-index l.sum
