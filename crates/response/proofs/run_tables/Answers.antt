-- The lists lent are first parts of lists of zeros.
use native.Mathlib.Omega.{arith}
use Rattle.response.proofs.Laws.{length_part, tables-put}
use Rattle.response.proofs.run_tables.Goals as goal

pub slice_bounds-run_graph-end : goal.slice_bounds-run_graph-end
slice_bounds-run_graph-end c = length_part _ 1025 0 (omega arith)

pub slice_bounds-run_graph-end-2 : goal.slice_bounds-run_graph-end-2
slice_bounds-run_graph-end-2 c = length_part _ 8192 0 (omega arith)

pub slice_bounds-run_graph-end-3 : goal.slice_bounds-run_graph-end-3
slice_bounds-run_graph-end-3 c = length_part _ 1024 0 (omega arith)

pub slice_bounds-run_graph-end-7 : goal.slice_bounds-run_graph-end-7
slice_bounds-run_graph-end-7 c = length_part _ 2048 0 (omega arith)

pub slice_bounds-run_graph-end-8 : goal.slice_bounds-run_graph-end-8
slice_bounds-run_graph-end-8 c = length_part _ 2048 0 (omega arith)

pub returns : goal.returns
returns c =
    tables-put _ _ _ c.requires.0 c.requires.1.0 c.run_graph.ensures
