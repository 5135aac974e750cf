-- The invariant is what lets the next task be laid down.
use Rattle.weak_rows.specs.Copies.{copies_of}
use Rattle.weak_roots.specs.Laying.{Laid}
use Rattle.weak_roots.proofs.place_roots.Given as goal

abbrev pub invariant-loop-t : goal.invariant-loop-t
invariant-loop-t l = Laid l.p l.k l.weights l.degrees l.t l.owner.0 l.fixed (copies_of l.rings) l.ends l.counters
