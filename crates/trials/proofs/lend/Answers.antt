-- A part of each array is as long as was asked.
use native.Mathlib.Omega.{arith}
use lib.ListN.{length-take, length-replicate}
use Rattle.trials.proofs.lend.Goals as goal

pub slice_bounds-link_lent-end : goal.slice_bounds-link_lent-end
slice_bounds-link_lent-end g c = simp (length-take, length-replicate) (omega arith)

pub slice_bounds-link_lent-end-2 : goal.slice_bounds-link_lent-end-2
slice_bounds-link_lent-end-2 g c = simp (length-take, length-replicate) (omega arith)

pub slice_bounds-link_lent-end-3 : goal.slice_bounds-link_lent-end-3
slice_bounds-link_lent-end-3 g c = simp (length-take, length-replicate) (omega arith)
