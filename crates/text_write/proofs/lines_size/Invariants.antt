-- The lines of the first t tasks are measured, each of at most 33 bytes.
use Prim.Native.Nat.{◌*◌, ◌≤◌}
use mathlib.Core.Path.{◌≡◌}
use Rattle.lists.specs.Sums.{sum_to}
use Rattle.layout.specs.Plain.{line_size}
use Rattle.text_write.proofs.lines_size.Given as goal

abbrev pub invariant-loop-t : goal.invariant-loop-t
invariant-loop-t l = (l.size ≤ l.t * 33) × (l.size ≡ sum_to l.t (line_size l.weights l.starts))
