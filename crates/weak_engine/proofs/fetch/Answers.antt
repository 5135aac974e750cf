use Rattle.std.proofs.lemmas.Result.{err_from_is_err_and}
use Rattle.weak_engine_cells.proofs.Laws.{there, judged-made, row-there, fetch-lent, fetch-made}
use Rattle.task.specs.declared.Step.TheVariants.{Fetch}
use Rattle.weak_engine.proofs.fetch.Goals as goal

pub returns-in_err-judged : goal.returns-in_err-judged
returns-in_err-judged c =
    let p = err_from_is_err_and c.from_residual.result c.from_residual.ensures.1 in
    let a = c.args in
    rw (p.1, p.2) (judged-made a.weights.now a.pred_starts.now a.preds.now a.succ_starts.now a.succs.now a.degrees.now a.fixed.now a.rings.now a.ends.now a.counters.now a.buffers.now a.executed.now a.run.now a.rows.now _ c.sizes_of-sizes.ensures a.limits a.p a.k a.worker.0 c.judge-judged.result c.judge-judged.ensures.judges Fetch _ (rw (c.branch-judged.ensures, c.in_err-judged.is)))

pub row_at-row-requires : goal.row_at-row-requires
row_at-row-requires c = let a = c.args in row-there a.p a.k a.worker.0 c.sizes_of-sizes.result c.judge-judged.result c.judge-judged.ensures.knows (rw (c.branch-judged.ensures, c.in_ok-judged.is)) _ (there a.weights.now a.pred_starts.now a.preds.now a.succ_starts.now a.succs.now a.degrees.now a.fixed.now a.rings.now a.ends.now a.counters.now a.buffers.now a.executed.now a.run.now a.rows.now _ c.sizes_of-sizes.ensures)

pub fetch_row-stepped-requires : goal.fetch_row-stepped-requires
fetch_row-stepped-requires c = let a = c.args in (c.judge-judged.ensures.knows, fetch-lent a.weights.now a.pred_starts.now a.preds.now a.succ_starts.now a.succs.now a.degrees.now a.fixed.now a.rings.now a.ends.now a.counters.now a.buffers.now a.executed.now a.run.now a.rows.now _ c.sizes_of-sizes.ensures)

pub store_fetched-requires : goal.store_fetched-requires
store_fetched-requires c = (let a = c.args in row-there a.p a.k a.worker.0 c.sizes_of-sizes.result c.judge-judged.result c.judge-judged.ensures.knows (rw (c.branch-judged.ensures, c.in_ok-judged.is)) _ (there a.weights.now a.pred_starts.now a.preds.now a.succ_starts.now a.succs.now a.degrees.now a.fixed.now a.rings.now a.ends.now a.counters.now a.buffers.now a.executed.now a.run.now a.rows.now _ c.sizes_of-sizes.ensures), (c.row_at-row.ensures, c.fetch_row-stepped.ensures.hand_and_pointer))

pub returns : goal.returns
returns c = let a = c.args in fetch-made a.weights.now a.pred_starts.now a.preds.now a.succ_starts.now a.succs.now a.degrees.now a.fixed.now a.rings.now a.ends.now a.counters.now a.buffers.now a.executed.now a.run.now a.rows.now _ c.sizes_of-sizes.ensures a.limits a.p a.k a.worker.0 c.judge-judged.result c.judge-judged.ensures.judges _ _ c.fetch_row-stepped.result _ c.row_at-row.ensures c.store_fetched.ensures _ _ c.fetch_row-stepped.ensures.fetches
