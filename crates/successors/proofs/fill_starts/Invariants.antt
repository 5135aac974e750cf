-- The running sum is the sum of the counts passed, which stand in the counts no more but in the places and the starts.
use Rattle.successors.proofs.Prefixes.{Summing}
use Rattle.successors.proofs.fill_starts.Given as goal

abbrev pub invariant-loop-u : goal.invariant-loop-u
invariant-loop-u l = Summing l.n l.initial.counts l.counts l.starts l.sum l.u
