use Rattle.std.proofs.lemmas.Result.{err_from_is_err_and}
use Rattle.memory.specs.Field as list
use Rattle.start.proofs.Laws.{start-refused, start-damaged, start-accepted, phase-alone}
use Rattle.admission.proofs.Rows.{admission-measured, few-steps}
use native.Mathlib.Omega.{arith}
use Rattle.start.proofs.start_row.Goals as goal

pub returns-in_err-after : goal.returns-in_err-after
returns-in_err-after c =
    let p = err_from_is_err_and c.from_residual.result c.from_residual.ensures.1 in
    rw (p.1, p.2) (record { starts = start-refused _ _ _ _ _ c.args.judged _ c.admit.ensures _ _ (rw (c.branch-after.ensures, c.in_err-after.is)); phase_alone = tt })

pub bounds-run-1 : goal.bounds-run-1
bounds-run-1 c = omega (arith, (admission-measured _ _ _ _ _ _ c.args.judged c.requires.0 _ c.admit.ensures c.in_ok-after.after (rw (c.branch-after.ensures, c.in_ok-after.is))).lengths.list list.run, c.requires.1)

pub overflow_mul-sizes : goal.overflow_mul-sizes
overflow_mul-sizes c = omega (arith, (admission-measured _ _ _ _ _ _ c.args.judged c.requires.0 _ c.admit.ensures c.in_ok-after.after (rw (c.branch-after.ensures, c.in_ok-after.is))).few_tasks)

pub overflow_add-sizes : goal.overflow_add-sizes
overflow_add-sizes c = omega (arith, few-steps _ _ _ _ (admission-measured _ _ _ _ _ _ c.args.judged c.requires.0 _ c.admit.ensures c.in_ok-after.after (rw (c.branch-after.ensures, c.in_ok-after.is))))

pub overflow_cast-accepted : goal.overflow_cast-accepted
overflow_cast-accepted c = omega (arith, c.type_inv.run 1)

pub returns-then-sizes-accepted : goal.returns-then-sizes-accepted
returns-then-sizes-accepted c = record { starts = start-damaged _ _ _ _ _ c.args.judged _ c.admit.ensures _ c.in_ok-after.after (rw (c.branch-after.ensures, c.in_ok-after.is)) c.if-sizes-accepted.true; phase_alone = tt }

pub overflow_add-run : goal.overflow_add-run
overflow_add-run c = omega (arith, few-steps _ _ _ _ (admission-measured _ _ _ _ _ _ c.args.judged c.requires.0 _ c.admit.ensures c.in_ok-after.after (rw (c.branch-after.ensures, c.in_ok-after.is))), c.if-sizes-accepted.false)

pub bounds-run-1-2 : goal.bounds-run-1-2
bounds-run-1-2 c = omega (arith, (admission-measured _ _ _ _ _ _ c.args.judged c.requires.0 _ c.admit.ensures c.in_ok-after.after (rw (c.branch-after.ensures, c.in_ok-after.is))).lengths.list list.run, c.requires.1)

pub returns : goal.returns
returns c = record { starts = start-accepted _ _ _ _ _ c.args.judged _ c.admit.ensures _ c.in_ok-after.after (rw (c.branch-after.ensures, c.in_ok-after.is)) c.if-sizes-accepted.false; phase_alone = phase-alone _ c.args.judged _ c.admit.ensures c.in_ok-after.after (rw (c.branch-after.ensures, c.in_ok-after.is)) }
