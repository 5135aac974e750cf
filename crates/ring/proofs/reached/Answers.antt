use mathlib.Core.Path.{sym, ◌∙◌}
use native.Mathlib.Omega.{arith}
use native.Mathlib.Nat.{mod-eq_of_lt, mod-eq-sub-mod}
use Rattle.ring.proofs.reached.Goals as goal

pub returns-then-x-k : goal.returns-then-x-k
returns-then-x-k c h = sym (mod-eq_of_lt (omega arith))

pub returns-else-x-k : goal.returns-else-x-k
returns-else-x-k c h = sym (mod-eq-sub-mod (omega arith) ∙ mod-eq_of_lt (omega arith))
