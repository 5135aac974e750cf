-- The entry's words as they were read.
use Rattle.windows.proofs.Sliding.{entering, entered}
use native.Mathlib.Omega.{arith}
use Rattle.windows.proofs.enter.Goals as goal

pub overflow_add-sums : goal.overflow_add-sums
overflow_add-sums c =
    let a = c.args in
    let e = c.entry_at-entry.ensures in
    omega (arith, entering a.weights.now a.executed.now a.sums.now a.x e c.requires.2)

pub returns : goal.returns
returns c =
    let a = c.args in
    entered a.weights.now a.executed.now a.sums.now a.x c.entry_at-entry.ensures
