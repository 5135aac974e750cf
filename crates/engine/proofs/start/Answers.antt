use Rattle.std.proofs.lemmas.Result.{err_from_is_err_and}
use Rattle.call_laws.proofs.Laws.{judged-made, row-there, start-lent, start-made}
use Rattle.engine_cells.proofs.Laws.{there}
use Rattle.rows.specs.Rows.{rows_of}
use Rattle.task.specs.declared.Step.TheVariants.{Start}
use Rattle.engine.proofs.start.Goals as goal

pub returns-in_err-judged : goal.returns-in_err-judged
returns-in_err-judged c =
    let a = c.args in
    let p = err_from_is_err_and c.from_residual.result c.from_residual.ensures.1 in
    rw (p.1, p.2) (judged-made a.weights.now a.pred_starts.now a.preds.now a.succ_starts.now a.succs.now a.degrees.now a.rings.now a.ends.now a.counters.now a.buffers.now a.executed.now a.run.now (rows_of a.rows.now) _ c.sizes_of-sizes.ensures a.limits a.p a.k a.worker.0 c.judge-judged.result c.judge-judged.ensures.judges Start _ (rw (c.branch-judged.ensures, c.in_err-judged.is)))

pub row_at-row-requires : goal.row_at-row-requires
row_at-row-requires c = let a = c.args in row-there a.p a.k a.worker.0 c.sizes_of-sizes.result c.judge-judged.result c.judge-judged.ensures.knows (rw (c.branch-judged.ensures, c.in_ok-judged.is)) _ (there a.weights.now a.pred_starts.now a.preds.now a.succ_starts.now a.succs.now a.degrees.now a.rings.now a.ends.now a.counters.now a.buffers.now a.executed.now a.run.now a.rows.now _ c.sizes_of-sizes.ensures)

pub start_row-stepped-requires : goal.start_row-stepped-requires
start_row-stepped-requires c = let a = c.args in (c.judge-judged.ensures.knows, start-lent a.weights.now a.pred_starts.now a.preds.now a.succ_starts.now a.succs.now a.degrees.now a.rings.now a.ends.now a.counters.now a.buffers.now a.executed.now a.run.now (rows_of a.rows.now) _ c.sizes_of-sizes.ensures)

pub store_started-requires : goal.store_started-requires
store_started-requires c = (let a = c.args in row-there a.p a.k a.worker.0 c.sizes_of-sizes.result c.judge-judged.result c.judge-judged.ensures.knows (rw (c.branch-judged.ensures, c.in_ok-judged.is)) _ (there a.weights.now a.pred_starts.now a.preds.now a.succ_starts.now a.succs.now a.degrees.now a.rings.now a.ends.now a.counters.now a.buffers.now a.executed.now a.run.now a.rows.now _ c.sizes_of-sizes.ensures), (c.row_at-row.ensures, c.start_row-stepped.ensures.phase_alone))

pub returns : goal.returns
returns c = let a = c.args in start-made a.weights.now a.pred_starts.now a.preds.now a.succ_starts.now a.succs.now a.degrees.now a.rings.now a.ends.now a.counters.now a.buffers.now a.executed.now a.run.now (rows_of a.rows.now) _ c.sizes_of-sizes.ensures a.limits a.p a.k a.worker.0 c.judge-judged.result c.judge-judged.ensures.judges _ _ c.start_row-stepped.result _ c.row_at-row.ensures c.store_started.ensures _ c.start_row-stepped.ensures.starts
