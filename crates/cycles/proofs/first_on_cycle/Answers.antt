-- Where stripping leaves tasks, they go into the search.
use native.Mathlib.Omega.{arith}
use Rattle.cycles.proofs.First.{all-gone}
use Rattle.cycles.proofs.first_on_cycle.Goals as goal

pub returns-then-stripped-n : goal.returns-then-stripped-n
returns-then-stripped-n c = let s = c.strip-stripped in (all-gone _ _ (omega (arith, s.auto.order, c.requires.1.1.0, c.requires.0.sized.tasks)) c.if-stripped-n.true s.ensures.0.order, s.ensures.0)
