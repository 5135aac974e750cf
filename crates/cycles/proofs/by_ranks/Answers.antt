-- None below the first level task is on a cycle; if it reaches itself, it is the smallest.
use Rattle.cycles.proofs.First.{found_first}
use Rattle.cycles.proofs.by_ranks.Goals as goal

pub returns-then-on_cycle : goal.returns-then-on_cycle
returns-then-on_cycle c = let f = c.in_ok-first.ensures in found_first _ c.on_cycle.ensures c.if-on_cycle.true f.0 f.1
