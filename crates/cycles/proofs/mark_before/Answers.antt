use native.Mathlib.Omega.{arith}
use Rattle.cycles.proofs.Walks.{walk_begins, next-task, walk_more, walk_ends}
use Rattle.cycles.proofs.mark_before.Goals as goal

pub loop-head-init : goal.loop-head-init
loop-head-init c = walk_begins c.args.table.sound _ c.requires.0 c.requires.1 c.mark_preds-tail.ensures

pub mark_preds-tail-requires-in-loop-head : goal.mark_preds-tail-requires-in-loop-head
mark_preds-tail-requires-in-loop-head c = let w = c.loop-head.invariant in (next-task c.args.table.sound w (omega arith), w.marked)

pub loop-head-preserved : goal.loop-head-preserved
loop-head-preserved c = walk_more c.args.table.sound c.loop-head.invariant (omega arith) c.mark_preds-tail-in-loop-head.ensures

pub returns : goal.returns
returns c = walk_ends c.args.table.sound c.loop-head.invariant (omega arith)
