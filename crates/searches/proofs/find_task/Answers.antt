use Rattle.searches.proofs.Laws.{ends_read, ends-test, sound_empty, not-empty, onward-all, look_none, look-unsound, look-stops, look-goes-on}
use Rattle.lists.proofs.Circles.{after-lt}
use Rattle.ring.specs.Ring.{sound}
use Rattle.choice.specs.Search as rules
use mathlib.Core.Path.{ap}
use native.Mathlib.Omega.{arith}
use Rattle.searches.proofs.find_task.Goals as goal

pub loop-fillers-init : goal.loop-fillers-init
loop-fillers-init c = (omega arith, ap (rules.search _ _) (onward-all _ _))

pub returns-then-fillers-eq0 : goal.returns-then-fillers-eq0
returns-then-fillers-eq0 c = record { result_value = look_none _ _ _ _ _ _ c.loop-fillers.invariant.1 c.if-fillers-eq0.true; reads = tt }

pub ring_number-requires : goal.ring_number-requires
ring_number-requires c = omega arith

pub ends_at-both-requires : goal.ends_at-both-requires
ends_at-both-requires c = omega arith

pub overflow_sub-fillers : goal.overflow_sub-fillers
overflow_sub-fillers c = omega arith

pub after_worker-j-requires : goal.after_worker-j-requires
after_worker-j-requires c = omega arith

pub loop-fillers-smaller : goal.loop-fillers-smaller
loop-fillers-smaller c = omega arith

pub loop-fillers-preserved : goal.loop-fillers-preserved
loop-fillers-preserved c =
    let here = c.loop-fillers in
    let passed =
    sound_empty _ _ _ _ _ _ c.is_sound_empty.ensures
    c.ends_at-both.ensures c.ring_number.ensures.0 c.if-not-is_sound_empty.false-raw in (
      rw c.after_worker-j.ensures (after-lt _ _ (omega arith)),
      look-goes-on _ _ _ _ _ _ here.invariant.1 here.invariant.0 (omega (arith, c.if-fillers-eq0.false)) passed.0 passed.1 _ c.after_worker-j.ensures,
    )

pub returns-then-not-is_sound : goal.returns-then-not-is_sound
returns-then-not-is_sound c = let here = c.loop-fillers in record {
  result_value = look-unsound _ _ _ _ _ _ here.invariant.1 here.invariant.0 (omega (arith, c.if-fillers-eq0.false))
      (ends-test (sound _) _ _ _ _ _ _ c.is_sound.ensures
      c.ends_at-both.ensures c.ring_number.ensures.0 c.if-not-is_sound.true-raw);
  reads = tt;
}

pub returns : goal.returns
returns c =
    let here = c.loop-fillers in
    let judged =
    ends-test (sound _) _ _ _ _ _ _ c.is_sound.ensures
    c.ends_at-both.ensures c.ring_number.ensures.0 c.if-not-is_sound.false-raw in record {
      result_value = look-stops _ _ _ _ _ _ here.invariant.1 here.invariant.0 (omega (arith, c.if-fillers-eq0.false)) judged
          (not-empty _ _ _ _ _ _ c.is_sound_empty.ensures
          c.ends_at-both.ensures c.ring_number.ensures.0
          c.if-not-is_sound_empty.true-raw judged);
      reads = ends_read _ _ _ _ c.ends_at-both.ensures c.ring_number.ensures.0;
    }
