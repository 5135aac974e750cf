use Rattle.lists.proofs.Circles.{after-up, after-wrap}
use mathlib.Core.Path.{sym}
use native.Mathlib.Omega.{arith}
use Rattle.searches.proofs.after_worker.Goals as goal

pub returns-then-next-p : goal.returns-then-next-p
returns-then-next-p c = sym (after-wrap _ _ (omega arith))

pub returns-else-next-p : goal.returns-else-next-p
returns-else-next-p c = sym (after-up _ _ (omega arith))
