use Rattle.std.proofs.lemmas.Result.{err_from_is_err_and}
use Rattle.complete.proofs.Laws.{own-asks, plan-asks, counter-asks, record-asks, buffer-asks, sink-writable, inner-writable, row-refused, hand-and-write, rule-refuses, sink-made, inner_made}
use native.Mathlib.Omega.{arith}
use Rattle.admission.proofs.Rows.{admission-measured}
use Rattle.complete.proofs.complete_row.Goals as goal

pub returns-in_err-after : goal.returns-in_err-after
returns-in_err-after c =
    let p = err_from_is_err_and c.from_residual.result c.from_residual.ensures.1 in
    rw (p.1, p.2) (record { completes = row-refused _ _ _ _ _ _ _ _ _ _ _ c.args.judged _ c.admit.ensures _ (rw (c.branch-after.ensures, c.in_err-after.is)); hand_and_write = tt })

pub ring_number-own-requires : goal.ring_number-own-requires
ring_number-own-requires c = omega (arith, own-asks _ _ _ _ (admission-measured _ _ _ _ _ _ c.args.judged c.requires.0 _ c.admit.ensures c.in_ok-after.after (rw (c.branch-after.ensures, c.in_ok-after.is))))

pub plan_complete-requires : goal.plan_complete-requires
plan_complete-requires c = plan-asks _ _ _ _ (admission-measured _ _ _ _ _ _ c.args.judged c.requires.0 _ c.admit.ensures c.in_ok-after.after (rw (c.branch-after.ensures, c.in_ok-after.is))) _ c.requires.1.0 _ _ _ _ c.ring_number-own.ensures.1 c.requires.1.1.0 c.requires.1.1.1.0 c.requires.1.1.1.1.1.1

pub write_sink-requires : goal.write_sink-requires
write_sink-requires c = (counter-asks _ _ _ _ (admission-measured _ _ _ _ _ _ c.args.judged c.requires.0 _ c.admit.ensures c.in_ok-after.after (rw (c.branch-after.ensures, c.in_ok-after.is))) _ _ _ _ _ _ _ _ (sink-writable _ _ _ _ _ _ _ _ c.plan_complete.ensures c.in-Sink.entries c.in-Sink.accepted c.in-Sink.weight (rw (c.branch-plan.ensures, c.in_ok-plan.is, c.in-Sink.is))) c.ring_number-own.ensures.1 c.requires.1.1.1.0, record-asks _ _ _ _ (admission-measured _ _ _ _ _ _ c.args.judged c.requires.0 _ c.admit.ensures c.in_ok-after.after (rw (c.branch-after.ensures, c.in_ok-after.is))) _ _ _ _ _ _ _ _ (sink-writable _ _ _ _ _ _ _ _ c.plan_complete.ensures c.in-Sink.entries c.in-Sink.accepted c.in-Sink.weight (rw (c.branch-plan.ensures, c.in_ok-plan.is, c.in-Sink.is))) c.requires.1.0 _ _ c.requires.1.1.1.1.1.0 c.requires.1.1.1.1.1.1)

pub write_inner-requires : goal.write_inner-requires
write_inner-requires c = (counter-asks _ _ _ _ (admission-measured _ _ _ _ _ _ c.args.judged c.requires.0 _ c.admit.ensures c.in_ok-after.after (rw (c.branch-after.ensures, c.in_ok-after.is))) _ _ _ _ _ _ _ _ (inner-writable _ _ _ _ _ _ _ _ c.plan_complete.ensures c.in-Inner.entries c.in-Inner.accepted c.in-Inner.weight (rw (c.branch-plan.ensures, c.in_ok-plan.is, c.in-Inner.is))).0 c.ring_number-own.ensures.1 c.requires.1.1.1.0, (record-asks _ _ _ _ (admission-measured _ _ _ _ _ _ c.args.judged c.requires.0 _ c.admit.ensures c.in_ok-after.after (rw (c.branch-after.ensures, c.in_ok-after.is))) _ _ _ _ _ _ _ _ (inner-writable _ _ _ _ _ _ _ _ c.plan_complete.ensures c.in-Inner.entries c.in-Inner.accepted c.in-Inner.weight (rw (c.branch-plan.ensures, c.in_ok-plan.is, c.in-Inner.is))).0 c.requires.1.0 _ _ c.requires.1.1.1.1.1.0 c.requires.1.1.1.1.1.1, buffer-asks _ _ _ _ (admission-measured _ _ _ _ _ _ c.args.judged c.requires.0 _ c.admit.ensures c.in_ok-after.after (rw (c.branch-after.ensures, c.in_ok-after.is))) _ c.requires.1.0 _ _ c.requires.1.1.1.1.0 (inner-writable _ _ _ _ _ _ _ _ c.plan_complete.ensures c.in-Inner.entries c.in-Inner.accepted c.in-Inner.weight (rw (c.branch-plan.ensures, c.in_ok-plan.is, c.in-Inner.is))).1))

pub returns-in_err-plan : goal.returns-in_err-plan
returns-in_err-plan c =
    let p = err_from_is_err_and c.from_residual-in_err-plan.result c.from_residual-in_err-plan.ensures.1 in
    rw (p.1, p.2) (record { completes = rule-refuses _ _ _ _ _ _ _ _ _ _ _ c.args.judged _ c.admit.ensures c.in_ok-after.after (rw (c.branch-after.ensures, c.in_ok-after.is)) _ c.ring_number-own.ensures.0 _ c.plan_complete.ensures _ (rw (c.branch-plan.ensures, c.in_err-plan.is)); hand_and_write = tt })

pub returns-in-Sink : goal.returns-in-Sink
returns-in-Sink c = record { completes = sink-made _ _ _ _ _ _ _ _ _ _ _ c.args.judged _ c.admit.ensures c.in_ok-after.after (rw (c.branch-after.ensures, c.in_ok-after.is)) _ c.ring_number-own.ensures.0 _ c.plan_complete.ensures _ _ _ (sink-writable _ _ _ _ _ _ _ _ c.plan_complete.ensures c.in-Sink.entries c.in-Sink.accepted c.in-Sink.weight (rw (c.branch-plan.ensures, c.in_ok-plan.is, c.in-Sink.is))) _ c.write_sink.ensures.0 _ _ c.write_sink.ensures.1.0 _ (rw (c.branch-plan.ensures, c.in_ok-plan.is, c.in-Sink.is)) c.write_sink.ensures.1.1; hand_and_write = hand-and-write _ c.args.judged _ c.admit.ensures c.in_ok-after.after (rw (c.branch-after.ensures, c.in_ok-after.is)) _ _ c.write_sink.ensures.1.1 }

pub returns-in-Inner : goal.returns-in-Inner
returns-in-Inner c = record { completes = inner_made _ _ _ _ _ _ _ _ _ _ _ c.args.judged _ c.admit.ensures c.in_ok-after.after (rw (c.branch-after.ensures, c.in_ok-after.is)) _ c.ring_number-own.ensures.0 _ c.plan_complete.ensures _ _ _ (inner-writable _ _ _ _ _ _ _ _ c.plan_complete.ensures c.in-Inner.entries c.in-Inner.accepted c.in-Inner.weight (rw (c.branch-plan.ensures, c.in_ok-plan.is, c.in-Inner.is))).0 _ c.write_inner.ensures.leaves.0 _ _ c.write_inner.ensures.leaves.1.0 _ (rw (c.branch-plan.ensures, c.in_ok-plan.is, c.in-Inner.is)) _ c.write_inner.ensures.buffers_after c.write_inner.ensures.leaves.1.1; hand_and_write = hand-and-write _ c.args.judged _ c.admit.ensures c.in_ok-after.after (rw (c.branch-after.ensures, c.in_ok-after.is)) _ _ c.write_inner.ensures.leaves.1.1 }
