-- What is left of the tries ends the turn.
use Prim.Native.Nat.{◌-◌}
use Rattle.engine_cells.specs.Cells.{cell_mem}
use Rattle.tries.proofs.Laws.{Lasting, Trying}
use Rattle.tries.proofs.take_turn.Given as goal

abbrev pub invariant-loop-tried : goal.invariant-loop-tried
invariant-loop-tried l =
    Lasting l.initial.degrees l.initial.rings l.initial.ends l.initial.counters l.initial.buffers l.initial.executed l.initial.run l.initial.rows l.degrees l.rings l.ends l.counters l.buffers l.executed l.run l.rows
    × Trying (cell_mem l.weights l.pred_starts l.preds l.succ_starts l.succs l.initial.degrees l.initial.rings l.initial.ends l.initial.counters l.initial.buffers l.initial.executed l.initial.run l.initial.rows)
    (cell_mem l.weights l.pred_starts l.preds l.succ_starts l.succs l.degrees l.rings l.ends l.counters l.buffers l.executed l.run l.rows) l.worker.0 l.tried

abbrev pub decreases-loop-tried : goal.decreases-loop-tried
decreases-loop-tried l =
    4 - l.tried
