-- A refused call leaves the results; an accepted one has P zeros, the entries and the room.
use mathlib.Core.Path.{sym}
use native.Mathlib.Omega.{arith}
use Rattle.std.proofs.lemmas.Result.{err_from_is_err_and}
use Rattle.windows.proofs.Putting.{scratch-size, call-refused, two-words, few-workers, call_asks, call-whole}
use Rattle.windows.proofs.windows.Goals as goal

pub returns-in_err-judge : goal.returns-in_err-judge
returns-in_err-judge c =
    let p = err_from_is_err_and c.from_residual.result c.from_residual.ensures.1 in
    rw (p.1, p.2) (call-refused _ _ _ _ _ _ _ c.judge.ensures _ (rw (c.branch-judge.ensures, c.in_err-judge.is)))

pub bounds-run-0 : goal.bounds-run-0
bounds-run-0 c =
    let a = c.args in
    omega (
      arith,
      two-words a.limits a.p a.m a.weights.now a.executed.now a.run.now a.results.now
          c.judge.ensures (rw (c.branch-judge.ensures, c.in_ok-judge.is)),
    )

pub overflow_cast-entries : goal.overflow_cast-entries
overflow_cast-entries c = omega (arith, c.type_inv.run 0)

pub slice_bounds-sums-end : goal.slice_bounds-sums-end
slice_bounds-sums-end c =
    let a = c.args in
    few-workers a.limits a.p a.m a.weights.now a.executed.now a.run.now a.results.now
    c.judge.ensures (rw (c.branch-judge.ensures, c.in_ok-judge.is))

pub slice_bounds-put_windows-end : goal.slice_bounds-put_windows-end
slice_bounds-put_windows-end c =
    let a = c.args in
    sym (scratch-size a.p (few-workers a.limits a.p a.m a.weights.now a.executed.now a.run.now a.results.now
    c.judge.ensures (rw (c.branch-judge.ensures, c.in_ok-judge.is))))

pub put_windows-requires : goal.put_windows-requires
put_windows-requires c =
    let a = c.args in
    call_asks a.limits a.p a.m a.weights.now a.executed.now a.run.now a.results.now
    c.judge.ensures (rw (c.branch-judge.ensures, c.in_ok-judge.is))

pub returns : goal.returns
returns c =
    let a = c.args in
    call-whole a.limits a.p a.m a.weights.now a.executed.now a.run.now a.results.now
    c.judge.ensures (rw (c.branch-judge.ensures, c.in_ok-judge.is))
    _ c.put_windows.ensures
