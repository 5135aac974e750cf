use Rattle.std.proofs.lemmas.Result.{err_from_is_err_and}
use Rattle.weak_admission.proofs.Rows.{admission-measured}
use Rattle.weak_fetch.proofs.Laws.{row_sized, row-takeable, hand-and-pointer, row-refused, rule-refuses, fetch-made}
use Rattle.weak_fetch.proofs.fetch_row.Goals as goal

pub returns-in_err-after : goal.returns-in_err-after
returns-in_err-after c =
    let p = err_from_is_err_and c.from_residual.result c.from_residual.ensures.1 in
    rw (p.1, p.2) (record {
      fetches = row-refused _ _ _ _ c.args.judged _ _ _ _ _ c.admit.ensures _ (rw (c.branch-after.ensures, c.in_err-after.is));
      hand_and_pointer = tt;
    })

pub plan_fetch-requires : goal.plan_fetch-requires
plan_fetch-requires c = row_sized _ _ _ _ (admission-measured _ _ _ _ _ _ c.args.judged c.requires.0 _ c.admit.ensures c.in_ok-after.after (rw (c.branch-after.ensures, c.in_ok-after.is))) _ _ _ c.requires.1

pub returns-in_err-head : goal.returns-in_err-head
returns-in_err-head c =
    let p = err_from_is_err_and c.from_residual-in_err-head.result c.from_residual-in_err-head.ensures.1 in
    rw (p.1, p.2) (record {
      fetches = rule-refuses _ _ _ _ c.args.judged _ _ _ _ _ c.admit.ensures c.in_ok-after.after (rw (c.branch-after.ensures, c.in_ok-after.is)) _ c.plan_fetch.ensures _ (rw (c.branch-head.ensures, c.in_err-head.is));
      hand_and_pointer = tt;
    })

pub write_fetch-left-requires : goal.write_fetch-left-requires
write_fetch-left-requires c =
    row-takeable _ _ _ _ (admission-measured _ _ _ _ _ _ c.args.judged c.requires.0 _ c.admit.ensures c.in_ok-after.after (rw (c.branch-after.ensures, c.in_ok-after.is)))
    c.args.rings.now c.args.ends.now c.args.run.now c.requires.1 _ _ _ c.plan_fetch.ensures c.in_ok-head.head (rw (c.branch-head.ensures, c.in_ok-head.is))

pub returns : goal.returns
returns c = record {
  fetches = fetch-made _ _ _ _ c.args.judged _ _ _ _ _ c.admit.ensures c.in_ok-after.after (rw (c.branch-after.ensures, c.in_ok-after.is)) _ c.plan_fetch.ensures c.in_ok-head.head (rw (c.branch-head.ensures, c.in_ok-head.is)) _ _ _ c.write_fetch-left.ensures.writes_fetch;
  hand_and_pointer = hand-and-pointer _ c.args.judged _ c.admit.ensures c.in_ok-after.after (rw (c.branch-after.ensures, c.in_ok-after.is)) _ _ _ _ c.write_fetch-left.ensures.value;
}
