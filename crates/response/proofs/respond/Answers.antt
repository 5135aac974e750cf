-- The reader's refusal, or the run of what it read.
use Prim.Native.Nat.{◌≤◌}
use mathlib.Core.Path.{sym}
use native.Mathlib.Omega.{arith}
use lib.Seq.{length-take-le}
use Rattle.response.proofs.Laws.{part-below, text-refused, text-sizes, text-run}
use Rattle.response.proofs.respond.Goals as goal
use Rattle.response.proofs.respond.Goals.{In-Ok}

-- N and E of an accepted text are within the limits
few : (c : In-Ok) → (c.in-Ok.n ≤ 1024) × (c.in-Ok.e ≤ 8192)
few c = text-sizes _ _ _ _ _ c.read-read.ensures _ _ c.in-Ok.is

pub slice_bounds-weights-end : goal.slice_bounds-weights-end
slice_bounds-weights-end c = omega (arith, (few (goal.at.slice_bounds-weights-end c).In-Ok).0, c.read-read.auto)

pub slice_bounds-run_tables-end : goal.slice_bounds-run_tables-end
slice_bounds-run_tables-end c = sym (length-take-le _ _ (omega (arith, (few (goal.at.slice_bounds-run_tables-end c).In-Ok).0, c.read-read.auto)))

pub slice_bounds-starts-end : goal.slice_bounds-starts-end
slice_bounds-starts-end c = omega (arith, (few (goal.at.slice_bounds-starts-end c).In-Ok).0, c.read-read.auto)

pub slice_bounds-run_tables-end-in-Ok : goal.slice_bounds-run_tables-end-in-Ok
slice_bounds-run_tables-end-in-Ok c = sym (length-take-le _ _ (omega (arith, (few (goal.at.slice_bounds-run_tables-end-in-Ok c).In-Ok).0, c.read-read.auto)))

pub slice_bounds-preds-end : goal.slice_bounds-preds-end
slice_bounds-preds-end c = omega (arith, (few (goal.at.slice_bounds-preds-end c).In-Ok).1, c.read-read.auto)

pub slice_bounds-run_tables-end-in-Ok-2 : goal.slice_bounds-run_tables-end-in-Ok-2
slice_bounds-run_tables-end-in-Ok-2 c = sym (length-take-le _ _ (omega (arith, (few (goal.at.slice_bounds-run_tables-end-in-Ok-2 c).In-Ok).1, c.read-read.auto)))

pub run_tables-requires : goal.run_tables-requires
run_tables-requires c =
    let f = few (goal.at.run_tables-requires c).In-Ok in
    (part-below _ _ _ f.0, (part-below _ _ _ f.1, c.requires))

pub returns-in-Err : goal.returns-in-Err
returns-in-Err c = text-refused _ _ _ _ _ c.read-read.ensures _ c.in-Err.is (rw (← c.number.ensures, ← c.detail.ensures) c.put_refused.ensures)

pub returns-in-Ok : goal.returns-in-Ok
returns-in-Ok c = text-run _ _ _ _ _ c.read-read.ensures _ _ c.in-Ok.is c.run_tables.ensures
