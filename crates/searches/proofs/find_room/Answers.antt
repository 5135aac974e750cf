use Rattle.searches.proofs.Laws.{ends_read, ends-test, onward-all, look_none, look-unsound, look-stops, look-goes-on}
use Rattle.lists.proofs.Circles.{after-lt}
use Rattle.ring.specs.Ring.{sound, full}
use Rattle.choice.specs.Search as rules
use mathlib.Core.Path.{ap}
use native.Mathlib.Omega.{arith}
use Rattle.searches.proofs.find_room.Goals as goal

pub loop-owners-init : goal.loop-owners-init
loop-owners-init c = (omega arith, ap (rules.search _ _) (onward-all _ _))

pub returns-then-owners-eq0 : goal.returns-then-owners-eq0
returns-then-owners-eq0 c = record { result_value = look_none _ _ _ _ _ _ c.loop-owners.invariant.1 c.if-owners-eq0.true; reads = tt }

pub ring_number-requires : goal.ring_number-requires
ring_number-requires c = omega arith

pub ends_at-both-requires : goal.ends_at-both-requires
ends_at-both-requires c = omega arith

pub returns-then-not-is_sound : goal.returns-then-not-is_sound
returns-then-not-is_sound c = record {
  result_value = look-unsound _ _ _ _ _ _
      c.loop-owners.invariant.1
      c.loop-owners.invariant.0
      (omega (arith, c.if-owners-eq0.false))
      (ends-test (sound _) _ _ _ _ _ _ c.is_sound.ensures c.ends_at-both.ensures
      c.ring_number.ensures.0 c.if-not-is_sound.true-raw);
  reads = tt;
}

pub overflow_sub-owners : goal.overflow_sub-owners
overflow_sub-owners c = omega arith

pub after_worker-o-requires : goal.after_worker-o-requires
after_worker-o-requires c = omega arith

pub loop-owners-smaller : goal.loop-owners-smaller
loop-owners-smaller c = omega arith

pub loop-owners-preserved : goal.loop-owners-preserved
loop-owners-preserved c = (
  rw c.after_worker-o.ensures (after-lt _ _ (omega arith)),
  look-goes-on _ _ _ _ _ _
      c.loop-owners.invariant.1
      c.loop-owners.invariant.0
      (omega (arith, c.if-owners-eq0.false))
      (ends-test (sound _) _ _ _ _ _ _ c.is_sound.ensures c.ends_at-both.ensures
      c.ring_number.ensures.0 c.if-not-is_sound.false-raw)
      (ends-test (full _) _ _ _ _ _ _ c.is_full.ensures c.ends_at-both.ensures
      c.ring_number.ensures.0 c.if-not-is_full.false-raw)
      _ c.after_worker-o.ensures,
)

pub returns : goal.returns
returns c = record {
  result_value = look-stops _ _ _ _ _ _
      c.loop-owners.invariant.1
      c.loop-owners.invariant.0
      (omega (arith, c.if-owners-eq0.false))
      (ends-test (sound _) _ _ _ _ _ _ c.is_sound.ensures c.ends_at-both.ensures
      c.ring_number.ensures.0 c.if-not-is_sound.false-raw)
      (ends-test (full _) _ _ _ _ _ _ c.is_full.ensures c.ends_at-both.ensures
      c.ring_number.ensures.0 c.if-not-is_full.true-raw);
  reads = ends_read _ _ _ _ c.ends_at-both.ensures c.ring_number.ensures.0;
}
