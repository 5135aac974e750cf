use Rattle.std.proofs.lemmas.Result.{err_from_is_err_and}
use Rattle.weak_complete.proofs.Laws.{plan-asks, copy-asks, sink-asks, inner-asks, row-refused, hand-and-write, rule-refuses, copy-made, sink-made, inner_made}
use native.Mathlib.Omega.{arith}
use Rattle.weak_admission.proofs.Rows.{admission-measured}
use Rattle.weak_complete.proofs.complete_row.Goals as goal

pub returns-in_err-after : goal.returns-in_err-after
returns-in_err-after c =
    let p = err_from_is_err_and c.from_residual.result c.from_residual.ensures.1 in
    rw (p.1, p.2) (record {
      completes = row-refused _ _ _ _ _ _ _ _ _ _ _ _ c.args.judged _ c.admit.ensures _ (rw (c.branch-after.ensures, c.in_err-after.is));
      hand_and_write = tt;
    })

pub ring_number-own-requires : goal.ring_number-own-requires
ring_number-own-requires c = omega (arith, admission-measured _ _ _ _ _ _ c.args.judged c.requires.0 _ c.admit.ensures c.in_ok-after.after (rw (c.branch-after.ensures, c.in_ok-after.is)))

pub plan_complete-requires : goal.plan_complete-requires
plan_complete-requires c = plan-asks _ _ _ _ (admission-measured _ _ _ _ _ _ c.args.judged c.requires.0 _ c.admit.ensures c.in_ok-after.after (rw (c.branch-after.ensures, c.in_ok-after.is))) c.args.weights.now c.args.succ_starts.now c.args.degrees.now c.args.counters.now c.args.buffers.now c.args.executed.now c.args.run.now c.requires.1 _ c.ring_number-own.ensures.1

pub returns-in_err-plan : goal.returns-in_err-plan
returns-in_err-plan c =
    let p = err_from_is_err_and c.from_residual-in_err-plan.result c.from_residual-in_err-plan.ensures.1 in
    rw (p.1, p.2) (record {
      completes = rule-refuses _ _ _ _ _ _ _ _ _ _ _ _ c.args.judged _ c.admit.ensures c.in_ok-after.after (rw (c.branch-after.ensures, c.in_ok-after.is)) _ c.ring_number-own.ensures.0 _ c.plan_complete.ensures _ (rw (c.branch-plan.ensures, c.in_err-plan.is));
      hand_and_write = tt;
    })

pub write_copy-left-requires : goal.write_copy-left-requires
write_copy-left-requires c = copy-asks _ _ _ _ (admission-measured _ _ _ _ _ _ c.args.judged c.requires.0 _ c.admit.ensures c.in_ok-after.after (rw (c.branch-after.ensures, c.in_ok-after.is))) c.args.weights.now c.args.succ_starts.now c.args.degrees.now c.args.counters.now c.args.buffers.now c.args.executed.now c.args.run.now c.requires.1 _ c.ring_number-own.ensures.1 _ _ c.plan_complete.ensures c.in-Copy.entries c.in-Copy.accepted c.in-Copy.degree (rw (c.branch-plan.ensures, c.in_ok-plan.is, c.in-Copy.is))

pub write_sink-left-requires : goal.write_sink-left-requires
write_sink-left-requires c = sink-asks _ _ _ _ (admission-measured _ _ _ _ _ _ c.args.judged c.requires.0 _ c.admit.ensures c.in_ok-after.after (rw (c.branch-after.ensures, c.in_ok-after.is))) c.args.weights.now c.args.succ_starts.now c.args.degrees.now c.args.counters.now c.args.buffers.now c.args.executed.now c.args.run.now c.requires.1 _ c.ring_number-own.ensures.1 _ _ c.plan_complete.ensures c.in-Sink.entries c.in-Sink.accepted c.in-Sink.weight (rw (c.branch-plan.ensures, c.in_ok-plan.is, c.in-Sink.is))

pub write_inner-left-requires : goal.write_inner-left-requires
write_inner-left-requires c = inner-asks _ _ _ _ (admission-measured _ _ _ _ _ _ c.args.judged c.requires.0 _ c.admit.ensures c.in_ok-after.after (rw (c.branch-after.ensures, c.in_ok-after.is))) c.args.weights.now c.args.succ_starts.now c.args.degrees.now c.args.counters.now c.args.buffers.now c.args.executed.now c.args.run.now c.requires.1 _ c.ring_number-own.ensures.1 _ _ c.plan_complete.ensures c.in-Inner.entries c.in-Inner.accepted c.in-Inner.weight (rw (c.branch-plan.ensures, c.in_ok-plan.is, c.in-Inner.is))

pub returns-in-Copy : goal.returns-in-Copy
returns-in-Copy c = record {
  completes = copy-made _ _ _ _ _ _ _ _ _ _ _ _ c.args.judged _ c.admit.ensures c.in_ok-after.after (rw (c.branch-after.ensures, c.in_ok-after.is)) _ c.ring_number-own.ensures.0 _ c.plan_complete.ensures c.in-Copy.entries c.in-Copy.accepted _ _ _ _ c.in-Copy.degree (rw (c.branch-plan.ensures, c.in_ok-plan.is, c.in-Copy.is)) c.write_copy-left.ensures.writes_copy;
  hand_and_write = hand-and-write _ c.args.judged _ c.admit.ensures c.in_ok-after.after (rw (c.branch-after.ensures, c.in_ok-after.is)) _ _ c.write_copy-left.ensures.value;
}

pub returns-in-Sink : goal.returns-in-Sink
returns-in-Sink c = record {
  completes = sink-made _ _ _ _ _ _ _ _ _ _ _ _ c.args.judged _ c.admit.ensures c.in_ok-after.after (rw (c.branch-after.ensures, c.in_ok-after.is)) _ c.ring_number-own.ensures.0 _ c.plan_complete.ensures c.in-Sink.entries c.in-Sink.accepted _ _ _ _ c.in-Sink.weight _ (rw (c.branch-plan.ensures, c.in_ok-plan.is, c.in-Sink.is)) c.write_sink-left.ensures.writes_sink;
  hand_and_write = hand-and-write _ c.args.judged _ c.admit.ensures c.in_ok-after.after (rw (c.branch-after.ensures, c.in_ok-after.is)) _ _ c.write_sink-left.ensures.value;
}

pub returns-in-Inner : goal.returns-in-Inner
returns-in-Inner c = record {
  completes = inner_made _ _ _ _ _ _ _ _ _ _ _ _ c.args.judged _ c.admit.ensures c.in_ok-after.after (rw (c.branch-after.ensures, c.in_ok-after.is)) _ c.ring_number-own.ensures.0 _ c.plan_complete.ensures c.in-Inner.entries c.in-Inner.accepted _ _ _ _ c.in-Inner.weight _ (rw (c.branch-plan.ensures, c.in_ok-plan.is, c.in-Inner.is)) _ c.write_inner-left.ensures.writes_inner;
  hand_and_write = hand-and-write _ c.args.judged _ c.admit.ensures c.in_ok-after.after (rw (c.branch-after.ensures, c.in_ok-after.is)) _ _ c.write_inner-left.ensures.value;
}
