-- The refusal is put, or the lines of the run; a run has as many entries as tasks, so that the buffer has room for their lines.
use Prim.Native.Nat.{ℕ, ◌*◌}
use mathlib.Core.Path.{◌≡◌}
use native.Mathlib.Omega.{arith}
use lib.ListN.{length, get_or}
use Rattle.response.proofs.Laws.{Ready, refusal-put, begun-ready, entries-all, lines-put}
use Rattle.response.proofs.run_graph.Goals as goal
use Rattle.response.proofs.run_graph.Goals.{After-drive}

-- once the turns are taken: what begin laid down is ready for them, and the run is whole
ready : (c : After-drive) → Ready c.args.weights.now c.args.preds.now c.args.executed.now c.args.run.now
ready c = begun-ready _ c.engine.ensures _ _ _ c.begin-answer.ensures c.in_default.is

module _ (c : After-drive) where
  run-words : ◌≡◌ {A = ℕ} (length c.drive.new.run) 2
  run-words = omega (arith, (ready c).run, c.begin-answer.auto, c.drive.auto)

  room : length c.drive.new.executed ≡ 2 * length c.args.weights.now
  room = omega (arith, (ready c).executed, c.begin-answer.auto, c.drive.auto)

  entries : get_or c.drive.new.run 0 0 ≡ length c.args.weights.now
  entries = entries-all _ c.engine.ensures _ _ _ c.begin-answer.ensures c.in_default.is _ c.drive.ensures

pub put_refused-requires : goal.put_refused-requires
put_refused-requires c = omega (arith, c.requires)

pub returns-in-Err : goal.returns-in-Err
returns-in-Err c = refusal-put _ c.engine.ensures _ _ _ c.begin-answer.ensures _ c.in-Err.is (rw (← c.number.ensures, ← c.detail.ensures) c.put_refused.ensures)

pub drive-requires : goal.drive-requires
drive-requires c =
    let a = c.args in
    let r : Ready a.weights.now a.preds.now a.executed.now a.run.now = begun-ready _ c.engine.ensures _ _ _ c.begin-answer.ensures c.in_default.is in
    (r.tasks, (r.edges, omega (arith, r.run)))

pub overflow_cast-weights : goal.overflow_cast-weights
overflow_cast-weights c = omega (arith, (ready (goal.at.overflow_cast-weights c).After-drive).tasks)

pub bounds-run-1 : goal.bounds-run-1
bounds-run-1 c = omega (arith, run-words (goal.at.bounds-run-1 c).After-drive)

pub put_pair-at-requires : goal.put_pair-at-requires
put_pair-at-requires c = omega (arith, c.requires)

pub bounds-run-0 : goal.bounds-run-0
bounds-run-0 c = omega (arith, run-words (goal.at.bounds-run-0 c).After-drive)

pub overflow_cast-run : goal.overflow_cast-run
overflow_cast-run c = omega (arith, c.type_inv.run 0)

pub put_entries-requires : goal.put_entries-requires
put_entries-requires c =
    let p = c.put_pair-at.ensures in
    (omega (arith, c.requires, (ready (goal.at.put_entries-requires c).After-drive).tasks, entries (goal.at.put_entries-requires c).After-drive, p.0.size, p.1), omega (arith, entries (goal.at.put_entries-requires c).After-drive, room (goal.at.put_entries-requires c).After-drive))

pub shape_of-succ_starts : goal.shape_of-succ_starts
shape_of-succ_starts c = omega (arith, c.begin-answer.auto, c.drive.auto)

pub shape_of-succs : goal.shape_of-succs
shape_of-succs c = omega (arith, c.begin-answer.auto, c.drive.auto)

pub shape_of-degrees : goal.shape_of-degrees
shape_of-degrees c = omega (arith, c.begin-answer.auto, c.drive.auto)

pub shape_of-rings : goal.shape_of-rings
shape_of-rings c = omega (arith, c.begin-answer.auto, c.drive.auto)

pub shape_of-ends : goal.shape_of-ends
shape_of-ends c = omega (arith, c.begin-answer.auto, c.drive.auto)

pub shape_of-counters : goal.shape_of-counters
shape_of-counters c = omega (arith, c.begin-answer.auto, c.drive.auto)

pub shape_of-buffers : goal.shape_of-buffers
shape_of-buffers c = omega (arith, c.begin-answer.auto, c.drive.auto)

pub shape_of-executed : goal.shape_of-executed
shape_of-executed c = omega (arith, c.begin-answer.auto, c.drive.auto)

pub shape_of-run : goal.shape_of-run
shape_of-run c = omega (arith, c.begin-answer.auto, c.drive.auto)

pub shape_of-rows : goal.shape_of-rows
shape_of-rows c = omega (arith, c.begin-answer.auto, c.drive.auto)

pub returns : goal.returns
returns c =
    lines-put _ c.engine.ensures _ _ _ c.begin-answer.ensures c.in_default.is _ c.drive.ensures
    c.put_pair-at.ensures.0 c.put_entries.ensures
