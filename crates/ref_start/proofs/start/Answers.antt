-- The lists' lengths are judged, the step by value is that of the rule, and its row is stored.
use Rattle.call_laws.proofs.Laws.{start-lent, start-made}
use Rattle.ref_rules.proofs.Laws.{measured, stored}
use Rattle.ref_start.proofs.start.Goals as goal

pub start_row-stepped-requires : goal.start_row-stepped-requires
start_row-stepped-requires c =
    let a = c.args in
    (c.judge-judged.ensures.knows, start-lent a.weights.now a.pred_starts.now a.preds.now a.succ_starts.now a.succs.now a.degrees.now a.rings.now a.ends.now a.counters.now a.buffers.now a.executed.now a.run.now a.rows.now _ (measured a.weights.now a.pred_starts.now a.preds.now a.succ_starts.now a.succs.now a.degrees.now a.rings.now a.ends.now a.counters.now a.buffers.now a.executed.now a.run.now a.rows.now))

pub returns : goal.returns
returns c =
    let a = c.args in
    start-made a.weights.now a.pred_starts.now a.preds.now a.succ_starts.now a.succs.now a.degrees.now a.rings.now a.ends.now a.counters.now a.buffers.now a.executed.now a.run.now a.rows.now _ (measured a.weights.now a.pred_starts.now a.preds.now a.succ_starts.now a.succs.now a.degrees.now a.rings.now a.ends.now a.counters.now a.buffers.now a.executed.now a.run.now a.rows.now)
    a.limits a.p a.k a.worker.0 c.judge-judged.result c.judge-judged.ensures.judges
    _ _ c.start_row-stepped.result _ c.row_at-row.ensures
    (c.answer_of.ensures, stored _ _ _ _ _ _ c.row_at-row.ensures c.row_after.ensures c.store_row.ensures)
    _ c.start_row-stepped.ensures.starts
