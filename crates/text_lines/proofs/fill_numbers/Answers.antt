use native.Mathlib.Omega.{arith}
use Rattle.layout.proofs.TaskLaws.{fill_more, fill-short}
use Rattle.text_lines.proofs.fill_numbers.Goals as goal

pub returns-in_err-found : goal.returns-in_err-found
returns-in_err-found c = rw c.from_residual.ensures (fill-short c.loop-k.invariant (omega arith) c.in_err-found.ensures)

pub loop-k-preserved : goal.loop-k-preserved
loop-k-preserved c = fill_more c.loop-k.invariant c.in_ok-found.ensures.1 c.min-place.ensures
