use Rattle.counters.proofs.Sums.{small-fit, squared}
use native.Mathlib.Omega.{arith}
use Rattle.counters.proofs.choose.Goals as goal

pub choose_wide-requires : goal.choose_wide-requires
choose_wide-requires c = (squared c.if-p-eq2.true c.requires.0, (omega arith, omega arith))

pub returns-then-p-eq2 : goal.returns-then-p-eq2
returns-then-p-eq2 c = rw c.if-p-eq2.true c.choose_wide.ensures

pub choose_small-requires : goal.choose_small-requires
choose_small-requires c =
    let q = c.requires in
    (q.0, (q.1.0, (q.1.1, c.all_small.ensures c.if-all_small.true)))

pub returns-then-all_small : goal.returns-then-all_small
returns-then-all_small c = (small-fit _ (c.all_small.ensures c.if-all_small.true), c.choose_small.ensures)
