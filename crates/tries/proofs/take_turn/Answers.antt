use mathlib.Core.Path.{refl}
use native.Mathlib.Omega.{arith}
use Rattle.tries.proofs.Laws.{trying-last, trying-over, trying-on}
use Rattle.tries.proofs.take_turn.Goals as goal

pub loop-tried-init : goal.loop-tried-init
loop-tried-init c = (record { degrees = refl; rings = refl; ends = refl; counters = refl; buffers = refl; executed = refl; run = refl; rows = refl }, record { whole = refl })

pub shape_of-degrees-in_default : goal.shape_of-degrees-in_default
shape_of-degrees-in_default c = omega arith

pub shape_of-rings-in_default : goal.shape_of-rings-in_default
shape_of-rings-in_default c = omega arith

pub shape_of-ends-in_default : goal.shape_of-ends-in_default
shape_of-ends-in_default c = omega arith

pub shape_of-counters-in_default : goal.shape_of-counters-in_default
shape_of-counters-in_default c = omega arith

pub shape_of-buffers-in_default : goal.shape_of-buffers-in_default
shape_of-buffers-in_default c = omega arith

pub shape_of-executed-in_default : goal.shape_of-executed-in_default
shape_of-executed-in_default c = omega arith

pub shape_of-run-in_default : goal.shape_of-run-in_default
shape_of-run-in_default c = omega arith

pub shape_of-rows-in_default : goal.shape_of-rows-in_default
shape_of-rows-in_default c = omega arith

pub returns-in_default : goal.returns-in_default
returns-in_default c =
    trying-over _ _ _ _ c.loop-tried.invariant.1 (omega arith) _ c.engine.ensures _ c.try_at.ensures _ _ c.step-answer.ensures _ c.in_default.is

pub overflow_add-tried : goal.overflow_add-tried
overflow_add-tried c = omega arith

pub loop-tried-smaller : goal.loop-tried-smaller
loop-tried-smaller c = omega arith

pub loop-tried-preserved : goal.loop-tried-preserved
loop-tried-preserved c =
    let l = c.loop-tried in (
      record {
        degrees = omega (arith, l.invariant.0);
        rings = omega (arith, l.invariant.0);
        ends = omega (arith, l.invariant.0);
        counters = omega (arith, l.invariant.0);
        buffers = omega (arith, l.invariant.0);
        executed = omega (arith, l.invariant.0);
        run = omega (arith, l.invariant.0);
        rows = omega (arith, l.invariant.0);
      },
      trying-on _ _ _ _ l.invariant.1 (omega arith) _ c.engine.ensures _ c.try_at.ensures _ _ c.step-answer.ensures _ c.in-Err.is,
    )

pub shape_of-degrees : goal.shape_of-degrees
shape_of-degrees c = omega arith

pub shape_of-rings : goal.shape_of-rings
shape_of-rings c = omega arith

pub shape_of-ends : goal.shape_of-ends
shape_of-ends c = omega arith

pub shape_of-counters : goal.shape_of-counters
shape_of-counters c = omega arith

pub shape_of-buffers : goal.shape_of-buffers
shape_of-buffers c = omega arith

pub shape_of-executed : goal.shape_of-executed
shape_of-executed c = omega arith

pub shape_of-run : goal.shape_of-run
shape_of-run c = omega arith

pub shape_of-rows : goal.shape_of-rows
shape_of-rows c = omega arith

pub returns : goal.returns
returns c = trying-last _ _ _ _ c.loop-tried.invariant.1 (omega arith)
