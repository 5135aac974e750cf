-- Each turn lays down one more degree; the starts rise, so no difference wraps.
use Rattle.successors.proofs.Prefixes.{Spacing}
use Rattle.successors.proofs.fill_degrees.Given as goal

abbrev pub invariant-loop-t : goal.invariant-loop-t
invariant-loop-t l = Spacing l.n l.starts l.degrees l.t
