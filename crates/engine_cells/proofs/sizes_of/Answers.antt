use Rattle.engine_cells.proofs.Laws.{sizes-made}
use Rattle.engine_cells.proofs.sizes_of.Goals as goal

pub returns : goal.returns
returns c =
    let a = c.args in
    sizes-made a.weights.now a.pred_starts.now a.preds.now a.succ_starts.now a.succs.now a.degrees.now a.rings.now a.ends.now a.counters.now a.buffers.now a.executed.now a.run.now a.rows.now
