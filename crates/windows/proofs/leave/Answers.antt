-- The entry's words as they were read.
use Rattle.windows.proofs.Sliding.{leaving, left}
use Rattle.windows.proofs.leave.Goals as goal

pub overflow_sub-sums : goal.overflow_sub-sums
overflow_sub-sums c =
    let a = c.args in
    leaving a.weights.now a.executed.now a.sums.now a.x c.entry_at-entry.ensures c.requires.2

pub returns : goal.returns
returns c =
    let a = c.args in
    left a.weights.now a.executed.now a.sums.now a.x c.entry_at-entry.ensures
