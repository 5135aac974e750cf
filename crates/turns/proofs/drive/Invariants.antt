-- What is left of the turns ends the desk's run.
use Prim.Native.Nat.{◌-◌, ◌*◌}
use Rattle.engine_cells.specs.Cells.{cell_mem}
use Rattle.turns.proofs.Laws.{Driving}
use Rattle.turns.proofs.drive.Given as goal

abbrev pub invariant-loop-turn : goal.invariant-loop-turn
invariant-loop-turn l =
    Driving (cell_mem l.weights l.pred_starts l.preds l.succ_starts l.succs l.initial.degrees l.initial.rings l.initial.ends l.initial.counters l.initial.buffers l.initial.executed l.initial.run l.initial.rows)
    (cell_mem l.weights l.pred_starts l.preds l.succ_starts l.succs l.degrees l.rings l.ends l.counters l.buffers l.executed l.run l.rows) l.worker (2 * l.steps - l._turn)
