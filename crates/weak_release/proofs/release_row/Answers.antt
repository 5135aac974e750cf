use Rattle.std.proofs.lemmas.Result.{err_from_is_err_and}
use Rattle.weak_release.proofs.Whole.{row_keeps, whole-refused, whole-sized, later-placeable, first-placeable, whole-none, later-made, first_made}
use Rattle.weak_release.proofs.release_row.Goals as goal

pub returns-in_err-after : goal.returns-in_err-after
returns-in_err-after c =
    let p = err_from_is_err_and c.from_residual.result c.from_residual.ensures.1 in
    rw (p.1, p.2) (record {
      releases = whole-refused _ _ _ _ c.args.judged _ _ _ _ c.admit.ensures _ (rw (c.branch-after.ensures, c.in_err-after.is));
      read_and_cursor = tt;
    })

pub plan_release-requires : goal.plan_release-requires
plan_release-requires c = whole-sized _ _ _ _ c.args.judged _ _ _ _ c.admit.ensures c.requires c.in_ok-after.after (rw (c.branch-after.ensures, c.in_ok-after.is))

pub returns-in_err-plan : goal.returns-in_err-plan
returns-in_err-plan c =
    let p = err_from_is_err_and c.from_residual-in_err-plan.result c.from_residual-in_err-plan.ensures.1 in
    rw (p.1, p.2) (record {
      releases = whole-none _ _ _ _ c.args.judged _ _ _ _ c.admit.ensures c.requires c.in_ok-after.after (rw (c.branch-after.ensures, c.in_ok-after.is)) _ c.plan_release.ensures _ (rw (c.branch-plan.ensures, c.in_err-plan.is));
      read_and_cursor = tt;
    })

pub write_first-left-requires : goal.write_first-left-requires
write_first-left-requires c = first-placeable _ _ _ _ c.args.judged _ _ _ _ c.admit.ensures c.requires c.in_ok-after.after (rw (c.branch-after.ensures, c.in_ok-after.is)) _ c.plan_release.ensures c.in-First.task c.in-First.predecessor c.in-First.count c.in-First.owner c.in-First.both c.in-First.weight c.in-First.accepted (rw (c.branch-plan.ensures, c.in_ok-plan.is, c.in-First.is))

pub write_later-left-requires : goal.write_later-left-requires
write_later-left-requires c = later-placeable _ _ _ _ c.args.judged _ _ _ _ c.admit.ensures c.requires c.in_ok-after.after (rw (c.branch-after.ensures, c.in_ok-after.is)) _ c.plan_release.ensures c.in-Later.task c.in-Later.predecessor c.in-Later.count c.in-Later.owner c.in-Later.both c.in-Later.accepted (rw (c.branch-plan.ensures, c.in_ok-plan.is, c.in-Later.is))

pub returns-in-First : goal.returns-in-First
returns-in-First c = record {
  releases = first_made _ _ _ _ c.args.judged _ _ _ _ c.admit.ensures c.requires c.in_ok-after.after (rw (c.branch-after.ensures, c.in_ok-after.is)) _ c.plan_release.ensures c.in-First.task c.in-First.predecessor c.in-First.count c.in-First.owner c.in-First.both c.in-First.weight c.in-First.accepted (rw (c.branch-plan.ensures, c.in_ok-plan.is, c.in-First.is)) _ _ c.write_first-left.ensures.writes_first;
  read_and_cursor = row_keeps _ c.args.judged _ c.admit.ensures c.in_ok-after.after (rw (c.branch-after.ensures, c.in_ok-after.is)) _ c.write_first-left.ensures.value;
}

pub returns-in-Later : goal.returns-in-Later
returns-in-Later c = record {
  releases = later-made _ _ _ _ c.args.judged _ _ _ _ c.admit.ensures c.requires c.in_ok-after.after (rw (c.branch-after.ensures, c.in_ok-after.is)) _ c.plan_release.ensures c.in-Later.task c.in-Later.predecessor c.in-Later.count c.in-Later.owner c.in-Later.both c.in-Later.accepted (rw (c.branch-plan.ensures, c.in_ok-plan.is, c.in-Later.is)) _ _ _ _ c.write_later-left.ensures.writes_later;
  read_and_cursor = row_keeps _ c.args.judged _ c.admit.ensures c.in_ok-after.after (rw (c.branch-after.ensures, c.in_ok-after.is)) _ c.write_later-left.ensures.value;
}
