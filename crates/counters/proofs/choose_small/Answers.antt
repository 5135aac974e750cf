use Rattle.counters.proofs.Sums.{squared}
use native.Mathlib.Omega.{arith}
use Rattle.counters.proofs.choose_small.Goals as goal

pub choose_narrow-requires : goal.choose_narrow-requires
choose_narrow-requires c = (squared c.if-p-eq4.true c.requires.0, (omega arith, (omega arith, c.requires.1.1.1)))

pub returns-then-p-eq4 : goal.returns-then-p-eq4
returns-then-p-eq4 c = rw c.if-p-eq4.true c.choose_narrow.ensures

pub choose_narrow-requires-then-p-eq16 : goal.choose_narrow-requires-then-p-eq16
choose_narrow-requires-then-p-eq16 c = (squared c.if-p-eq16.true c.requires.0, (omega arith, (omega arith, c.requires.1.1.1)))

pub returns-then-p-eq16 : goal.returns-then-p-eq16
returns-then-p-eq16 c = rw c.if-p-eq16.true c.choose_narrow-then-p-eq16.ensures
