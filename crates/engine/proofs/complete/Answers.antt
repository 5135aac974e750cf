use Rattle.std.proofs.lemmas.Result.{err_from_is_err_and}
use Rattle.call_laws.proofs.Laws.{judged-made, row-there, complete-lent, complete-made}
use Rattle.engine_cells.proofs.Laws.{there}
use Rattle.rows.specs.Rows.{rows_of}
use Rattle.task.specs.declared.Step.TheVariants.{Complete}
use Rattle.engine.proofs.complete.Goals as goal

pub returns-in_err-judged : goal.returns-in_err-judged
returns-in_err-judged c =
    let a = c.args in
    let p = err_from_is_err_and c.from_residual.result c.from_residual.ensures.1 in
    rw (p.1, p.2) (judged-made a.weights.now a.pred_starts.now a.preds.now a.succ_starts.now a.succs.now a.degrees.now a.rings.now a.ends.now a.counters.now a.buffers.now a.executed.now a.run.now (rows_of a.rows.now) _ c.sizes_of-sizes.ensures a.limits a.p a.k a.worker.0 c.judge-judged.result c.judge-judged.ensures.judges Complete _ (rw (c.branch-judged.ensures, c.in_err-judged.is)))

pub row_at-row-requires : goal.row_at-row-requires
row_at-row-requires c = let a = c.args in row-there a.p a.k a.worker.0 c.sizes_of-sizes.result c.judge-judged.result c.judge-judged.ensures.knows (rw (c.branch-judged.ensures, c.in_ok-judged.is)) _ (there a.weights.now a.pred_starts.now a.preds.now a.succ_starts.now a.succs.now a.degrees.now a.rings.now a.ends.now a.counters.now a.buffers.now a.executed.now a.run.now a.rows.now _ c.sizes_of-sizes.ensures)

pub complete_row-stepped-requires : goal.complete_row-stepped-requires
complete_row-stepped-requires c = let a = c.args in (c.judge-judged.ensures.knows, complete-lent a.weights.now a.pred_starts.now a.preds.now a.succ_starts.now a.succs.now a.degrees.now a.rings.now a.ends.now a.counters.now a.buffers.now a.executed.now a.run.now (rows_of a.rows.now) _ c.sizes_of-sizes.ensures)

pub store_completed-requires : goal.store_completed-requires
store_completed-requires c = (let a = c.args in row-there a.p a.k a.worker.0 c.sizes_of-sizes.result c.judge-judged.result c.judge-judged.ensures.knows (rw (c.branch-judged.ensures, c.in_ok-judged.is)) _ (there a.weights.now a.pred_starts.now a.preds.now a.succ_starts.now a.succs.now a.degrees.now a.rings.now a.ends.now a.counters.now a.buffers.now a.executed.now a.run.now a.rows.now _ c.sizes_of-sizes.ensures), (c.row_at-row.ensures, c.complete_row-stepped.ensures.hand_and_write))

pub returns : goal.returns
returns c = let a = c.args in complete-made a.weights.now a.pred_starts.now a.preds.now a.succ_starts.now a.succs.now a.degrees.now a.rings.now a.ends.now a.counters.now a.buffers.now a.executed.now a.run.now (rows_of a.rows.now) _ c.sizes_of-sizes.ensures a.limits a.p a.k a.worker.0 c.judge-judged.result c.judge-judged.ensures.judges _ _ c.complete_row-stepped.result _ c.row_at-row.ensures c.store_completed.ensures _ _ _ _ c.complete_row-stepped.ensures.completes
