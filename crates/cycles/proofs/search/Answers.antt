use native.Mathlib.Omega.{arith}
use Rattle.cycles.proofs.First.{found_first, none_first}
use Rattle.cycles.proofs.search.Goals as goal

pub returns-then-on_cycle : goal.returns-then-on_cycle
returns-then-on_cycle c = found_first _ c.on_cycle.ensures c.if-on_cycle.true (omega arith) c.loop-t.invariant

pub returns : goal.returns
returns c = none_first c.loop-t.t (omega arith) c.loop-t.invariant
