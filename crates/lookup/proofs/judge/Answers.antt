-- The tests in the order 2, 1, 3, each a case of the definition.
use Rattle.graph.specs.Lookup.{lent_of, lengths_fit}
use Rattle.lookup.proofs.Laws.{judge-beyond, judge-lengths, judge-task, judge-accepted, starts_fit}
use Rattle.lookup.proofs.judge.Goals as goal

pub returns-then-not-sizes_fit : goal.returns-then-not-sizes_fit
returns-then-not-sizes_fit c = judge-beyond c.args.side (lent_of c.args.weights.now c.args.pred_starts.now c.args.preds.now c.args.succ_starts.now c.args.succs.now) c.args.task.0 _ c.engine.ensures _ c.sizes_fit.ensures c.if-not-sizes_fit.true-raw

pub returns-then-not-pred_starts-n : goal.returns-then-not-pred_starts-n
unfolding lengths_fit
returns-then-not-pred_starts-n c = judge-lengths c.args.side (lent_of c.args.weights.now c.args.pred_starts.now c.args.preds.now c.args.succ_starts.now c.args.succs.now) c.args.task.0 _ c.engine.ensures _ c.sizes_fit.ensures c.if-not-sizes_fit.false-raw c.if-not-pred_starts-n.true-raw

pub side_fits-requires : goal.side_fits-requires
unfolding lengths_fit
side_fits-requires c = starts_fit (lent_of c.args.weights.now c.args.pred_starts.now c.args.preds.now c.args.succ_starts.now c.args.succs.now) c.if-not-pred_starts-n.false-raw

pub returns-then-not-side_fits : goal.returns-then-not-side_fits
unfolding lengths_fit
returns-then-not-side_fits c = judge-task c.args.side (lent_of c.args.weights.now c.args.pred_starts.now c.args.preds.now c.args.succ_starts.now c.args.succs.now) c.args.task.0 _ c.engine.ensures _ c.sizes_fit.ensures c.if-not-sizes_fit.false-raw c.if-not-pred_starts-n.false-raw _ c.side_fits.ensures c.if-not-side_fits.true-raw

pub returns : goal.returns
unfolding lengths_fit
returns c = judge-accepted c.args.side (lent_of c.args.weights.now c.args.pred_starts.now c.args.preds.now c.args.succ_starts.now c.args.succs.now) c.args.task.0 _ c.engine.ensures _ c.sizes_fit.ensures c.if-not-sizes_fit.false-raw c.if-not-pred_starts-n.false-raw _ c.side_fits.ensures c.if-not-side_fits.false-raw
