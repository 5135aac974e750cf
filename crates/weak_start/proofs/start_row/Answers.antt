use Rattle.std.proofs.lemmas.Result.{err_from_is_err_and}
use Rattle.weak_start.proofs.Laws.{start-refused, start-damaged, start-accepted, start-words, start-counts, phase-alone}
use native.Mathlib.Omega.{arith}
use Rattle.weak_start.proofs.start_row.Goals as goal

pub returns-in_err-after : goal.returns-in_err-after
returns-in_err-after c =
    let p = err_from_is_err_and c.from_residual.result c.from_residual.ensures.1 in
    rw (p.1, p.2) (record { starts = start-refused _ _ _ _ _ c.args.judged _ c.admit.ensures _ _ (rw (c.branch-after.ensures, c.in_err-after.is)); phase_alone = tt })

pub count_of-requires : goal.count_of-requires
count_of-requires c = start-words _ _ _ _ _ c.args.judged c.requires.0 _ c.admit.ensures c.in_ok-after.after (rw (c.branch-after.ensures, c.in_ok-after.is)) _ c.requires.1

pub returns-in_err-accepted : goal.returns-in_err-accepted
returns-in_err-accepted c =
    let p = err_from_is_err_and c.from_residual-in_err-accepted.result c.from_residual-in_err-accepted.ensures.1 in
    rw (p.1, p.2) (record {
      starts = start-damaged _ _ _ _ _ c.args.judged _ c.admit.ensures _ c.in_ok-after.after (rw (c.branch-after.ensures, c.in_ok-after.is)) _ c.count_of.ensures _ (rw (c.branch-accepted.ensures, c.in_err-accepted.is));
      phase_alone = tt;
    })

pub overflow_add-run : goal.overflow_add-run
overflow_add-run c = omega (arith, start-counts _ _ _ _ _ c.args.judged c.requires.0 _ c.admit.ensures c.in_ok-after.after (rw (c.branch-after.ensures, c.in_ok-after.is)) _ _ c.count_of.ensures c.in_ok-accepted.accepted (rw (c.branch-accepted.ensures, c.in_ok-accepted.is)))

pub bounds-run-1 : goal.bounds-run-1
bounds-run-1 c = omega (arith, start-words _ _ _ _ _ c.args.judged c.requires.0 _ c.admit.ensures c.in_ok-after.after (rw (c.branch-after.ensures, c.in_ok-after.is)) _ c.requires.1)

pub returns : goal.returns
returns c = record {
  starts = start-accepted _ _ _ _ _ c.args.judged _ c.admit.ensures _ c.in_ok-after.after (rw (c.branch-after.ensures, c.in_ok-after.is)) _ c.count_of.ensures c.in_ok-accepted.accepted (rw (c.branch-accepted.ensures, c.in_ok-accepted.is));
  phase_alone = phase-alone _ c.args.judged _ c.admit.ensures c.in_ok-after.after (rw (c.branch-after.ensures, c.in_ok-after.is));
}
