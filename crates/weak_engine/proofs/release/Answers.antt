use Rattle.std.proofs.lemmas.Result.{err_from_is_err_and}
use Rattle.weak_engine_cells.proofs.Laws.{there, judged-made, row-there, release-lent, release-made}
use Rattle.task.specs.declared.Step.TheVariants.{Release}
use Rattle.weak_engine.proofs.release.Goals as goal

pub returns-in_err-judged : goal.returns-in_err-judged
returns-in_err-judged c =
    let p = err_from_is_err_and c.from_residual.result c.from_residual.ensures.1 in
    let a = c.args in
    rw (p.1, p.2) (judged-made a.weights.now a.pred_starts.now a.preds.now a.succ_starts.now a.succs.now a.degrees.now a.fixed.now a.rings.now a.ends.now a.counters.now a.buffers.now a.executed.now a.run.now a.rows.now _ c.sizes_of-sizes.ensures a.limits a.p a.k a.worker.0 c.judge-judged.result c.judge-judged.ensures.judges Release _ (rw (c.branch-judged.ensures, c.in_err-judged.is)))

pub row_at-row-requires : goal.row_at-row-requires
row_at-row-requires c = let a = c.args in row-there a.p a.k a.worker.0 c.sizes_of-sizes.result c.judge-judged.result c.judge-judged.ensures.knows (rw (c.branch-judged.ensures, c.in_ok-judged.is)) _ (there a.weights.now a.pred_starts.now a.preds.now a.succ_starts.now a.succs.now a.degrees.now a.fixed.now a.rings.now a.ends.now a.counters.now a.buffers.now a.executed.now a.run.now a.rows.now _ c.sizes_of-sizes.ensures)

pub release_row-stepped-requires : goal.release_row-stepped-requires
release_row-stepped-requires c = let a = c.args in (c.judge-judged.ensures.knows, release-lent a.weights.now a.pred_starts.now a.preds.now a.succ_starts.now a.succs.now a.degrees.now a.fixed.now a.rings.now a.ends.now a.counters.now a.buffers.now a.executed.now a.run.now a.rows.now _ c.sizes_of-sizes.ensures)

pub store_released-requires : goal.store_released-requires
store_released-requires c = (let a = c.args in row-there a.p a.k a.worker.0 c.sizes_of-sizes.result c.judge-judged.result c.judge-judged.ensures.knows (rw (c.branch-judged.ensures, c.in_ok-judged.is)) _ (there a.weights.now a.pred_starts.now a.preds.now a.succ_starts.now a.succs.now a.degrees.now a.fixed.now a.rings.now a.ends.now a.counters.now a.buffers.now a.executed.now a.run.now a.rows.now _ c.sizes_of-sizes.ensures), (c.row_at-row.ensures, c.release_row-stepped.ensures.read_and_cursor))

pub returns : goal.returns
returns c = let a = c.args in release-made a.weights.now a.pred_starts.now a.preds.now a.succ_starts.now a.succs.now a.degrees.now a.fixed.now a.rings.now a.ends.now a.counters.now a.buffers.now a.executed.now a.run.now a.rows.now _ c.sizes_of-sizes.ensures a.limits a.p a.k a.worker.0 c.judge-judged.result c.judge-judged.ensures.judges _ _ c.release_row-stepped.result _ c.row_at-row.ensures c.store_released.ensures _ _ _ _ _ c.release_row-stepped.ensures.releases
