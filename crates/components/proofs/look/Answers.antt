use native.Mathlib.Omega.{arith}
use lib.ListN.{get_or}
use Rattle.tables.specs.Tables.{graph_in}
use Rattle.components.proofs.Laws.{Looks, looks}
use Rattle.components.proofs.look.Goals as goal
use Rattle.components.proofs.look.Goals.{Start}

-- the predecessor that is looked at
seen : (c : Start) → Looks (graph_in c.args.table) c.args.s.task (get_or c.args.at.now c.args.s.task 0)
seen c = looks c.args.table.sound _ _ c.requires.1.0.0 c.requires.1.1

pub bounds-rank-u : goal.bounds-rank-u
bounds-rank-u c = let k = seen (goal.at.bounds-rank-u c).Start in omega arith

pub enter-requires : goal.enter-requires
enter-requires c = let k = seen (goal.at.enter-requires c).Start in (c.requires.0, (k.task, c.requires.1.0.0))

pub returns-then-low-eq0 : goal.returns-then-low-eq0
returns-then-low-eq0 c = (c.enter.ensures, ((seen (goal.at.returns-then-low-eq0 c).Start).task, c.requires.1.0.1))
