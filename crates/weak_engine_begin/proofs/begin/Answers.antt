use Rattle.weak_engine_begin.proofs.Laws.{begin-made}
use Rattle.weak_engine_begin.proofs.begin.Goals as goal

pub returns : goal.returns
returns c =
    let a = c.args in
    begin-made a.weights.now a.pred_starts.now a.preds.now a.succ_starts.now a.succs.now a.degrees.now a.fixed.now a.rings.now a.ends.now a.counters.now a.buffers.now a.executed.now a.run.now a.rows.now
    a.limits a.p a.k _ c.begin_lists-begun.result
    _ _ _ _ _ _ _ _ _ _
    c.clear_rows.ensures
    c.begin_lists-begun.ensures
