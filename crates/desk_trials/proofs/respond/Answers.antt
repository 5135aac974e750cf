-- What is printed is a part of the buffer.
use native.Mathlib.Omega.{arith}
use lib.ListN.{length-take}
use Rattle.desk_trials.proofs.respond.Goals as goal

pub slice_bounds-write_all-end : goal.slice_bounds-write_all-end
slice_bounds-write_all-end g c = simp length-take (omega arith)
