use Rattle.std.proofs.lemmas.Result.{err_from_is_err_and}
use Rattle.fetch.proofs.Laws.{row-steps, row_sized, row-refused, row-fetches}
use native.Mathlib.Omega.{arith}
use Rattle.lists.proofs.Told.{with_both}
use Rattle.fetch.proofs.fetch_row.Goals as goal

pub returns-in_err-after : goal.returns-in_err-after
returns-in_err-after c =
    let p = err_from_is_err_and c.from_residual.result c.from_residual.ensures.1 in
    rw (p.1, p.2) (record {
      fetches = row-refused _ _ _ _ c.args.judged _ _ _ _ _ c.admit.ensures _ (rw (c.branch-after.ensures, c.in_err-after.is));
      hand_and_pointer = tt;
    })

pub overflow_mul-steps : goal.overflow_mul-steps
overflow_mul-steps c = omega (arith, row-steps _ _ _ _ c.args.judged c.requires.0 _ _ c.admit.ensures c.in_ok-after.after (rw (c.branch-after.ensures, c.in_ok-after.is)))

pub overflow_add-steps : goal.overflow_add-steps
overflow_add-steps c = omega (arith, row-steps _ _ _ _ c.args.judged c.requires.0 _ _ c.admit.ensures c.in_ok-after.after (rw (c.branch-after.ensures, c.in_ok-after.is)))

pub fetch_admitted-requires : goal.fetch_admitted-requires
fetch_admitted-requires c = row_sized _ _ _ _ c.args.judged c.requires.0 _ _ c.admit.ensures c.in_ok-after.after (rw (c.branch-after.ensures, c.in_ok-after.is)) _ _ _ c.requires.1

pub returns : goal.returns
returns c =
    with_both (λ a b. record { fetches = a; hand_and_pointer = b })
    (row-fetches _ _ _ _ c.args.judged _ _ _ _ _ c.admit.ensures c.in_ok-after.after (rw (c.branch-after.ensures, c.in_ok-after.is))
    _ _ c.fetch_admitted.result (c.fetch_admitted.ensures.fetches_admitted, c.fetch_admitted.ensures.hand_and_pointer))
