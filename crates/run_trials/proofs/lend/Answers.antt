-- A part of each array is as long as was asked.
use native.Mathlib.Omega.{arith}
use lib.ListN.{length-take, length-replicate}
use Rattle.run_trials.proofs.lend.Goals as goal

pub slice_bounds-run_script-end : goal.slice_bounds-run_script-end
slice_bounds-run_script-end g c = simp (length-take, length-replicate) (omega arith)

pub slice_bounds-run_script-end-2 : goal.slice_bounds-run_script-end-2
slice_bounds-run_script-end-2 g c = simp (length-take, length-replicate) (omega arith)

pub slice_bounds-run_script-end-3 : goal.slice_bounds-run_script-end-3
slice_bounds-run_script-end-3 g c = simp (length-take, length-replicate) (omega arith)

pub slice_bounds-run_script-end-4 : goal.slice_bounds-run_script-end-4
slice_bounds-run_script-end-4 g c = simp (length-take, length-replicate) (omega arith)

pub slice_bounds-run_script-end-5 : goal.slice_bounds-run_script-end-5
slice_bounds-run_script-end-5 g c = simp (length-take, length-replicate) (omega arith)

pub slice_bounds-run_script-end-6 : goal.slice_bounds-run_script-end-6
slice_bounds-run_script-end-6 g c = simp (length-take, length-replicate) (omega arith)

pub slice_bounds-run_script-end-7 : goal.slice_bounds-run_script-end-7
slice_bounds-run_script-end-7 g c = simp (length-take, length-replicate) (omega arith)

pub slice_bounds-run_script-end-8 : goal.slice_bounds-run_script-end-8
slice_bounds-run_script-end-8 g c = simp (length-take, length-replicate) (omega arith)

pub slice_bounds-run_script-end-9 : goal.slice_bounds-run_script-end-9
slice_bounds-run_script-end-9 g c = simp (length-take, length-replicate) (omega arith)

pub slice_bounds-run_script-end-10 : goal.slice_bounds-run_script-end-10
slice_bounds-run_script-end-10 g c = simp (length-take, length-replicate) (omega arith)
