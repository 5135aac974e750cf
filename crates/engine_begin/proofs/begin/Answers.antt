use Rattle.call_laws.proofs.Laws.{begin-made}
use Rattle.rows.specs.Rows.{rows_of}
use Rattle.rows.proofs.Laws.{length-rows}
use Rattle.engine_begin.proofs.begin.Goals as goal

pub returns : goal.returns
returns c =
    let a = c.args in
    begin-made a.weights.now a.pred_starts.now a.preds.now a.succ_starts.now a.succs.now a.degrees.now a.rings.now a.ends.now a.counters.now a.buffers.now a.executed.now a.run.now (rows_of a.rows.now)
    a.limits a.p a.k _ c.begin_lists-begun.result
    _ _ _ _ _ _ _ _ _ _ (length-rows a.rows.now)
    c.clear_rows.ensures
    c.begin_lists-begun.ensures
