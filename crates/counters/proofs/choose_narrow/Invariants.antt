use Rattle.counters.proofs.Best.{Best}
use Rattle.counters.proofs.choose_narrow.Given as goal

abbrev pub invariant-loop-j : goal.invariant-loop-j
invariant-loop-j l = Best l.p l.counters l.j l.best.0 l.least
