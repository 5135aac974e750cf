use Rattle.counters.proofs.Sums.{Summed, Ranged}
use Rattle.counters.proofs.load_of.Given as goal

abbrev pub invariant-loop-counter : goal.invariant-loop-counter
invariant-loop-counter l = Summed 2147483648 l.counters l.first l.counter-index l.sum × Ranged l.counters l.first l.counter-index l.fits
