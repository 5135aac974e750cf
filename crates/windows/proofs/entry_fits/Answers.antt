-- The task first, then the worker and the weight.
use native.Mathlib.Omega.{arith}
use Rattle.windows.proofs.Judging.{far-task, near-task}
use Rattle.windows.proofs.entry_fits.Goals as goal

pub returns-then-weights-task : goal.returns-then-weights-task
returns-then-weights-task c = far-task _ _ _ _ c.entry_at-entry.ensures.0 (omega arith)

pub returns : goal.returns
returns c =
    let e = c.entry_at-entry.ensures in
    near-task _ _ _ _ e.0 e.1 (omega arith)
