use Rattle.tables.proofs.Laws.{bad-found, good-found, bad-none}
use borrow.Author.Count.{below_more}
use native.Mathlib.Omega.{arith}
use Rattle.tables.proofs.search_bad.Goals as goal

pub returns-then-not-part_good : goal.returns-then-not-part_good
returns-then-not-part_good c = bad-found _ _ _ _ _ (omega arith) c.if-not-part_good.true-raw c.part_good.ensures c.loop-t.invariant

pub loop-t-preserved : goal.loop-t-preserved
loop-t-preserved c = below_more _ _ c.loop-t.invariant (good-found _ _ _ _ _ c.if-not-part_good.false-raw c.part_good.ensures)

pub returns : goal.returns
returns c = bad-none _ _ _ _ (omega arith) c.loop-t.invariant
