use Rattle.lists.proofs.Circles.{after-up, after-wrap}
use mathlib.Core.Path.{sym}
use native.Mathlib.Omega.{arith}
use Rattle.ring.proofs.after_slot.Goals as goal

pub returns-then-next-k : goal.returns-then-next-k
returns-then-next-k c = sym (after-wrap _ _ (omega arith))

pub returns-else-next-k : goal.returns-else-next-k
returns-else-next-k c = sym (after-up _ _ (omega arith))
