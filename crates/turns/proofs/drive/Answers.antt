use native.Mathlib.Omega.{arith}
use Rattle.turns.proofs.Laws.{driving-none, driving-over, driving-last, driving-turn}
use Rattle.turns.proofs.drive.Goals as goal

pub loop-turn-init : goal.loop-turn-init
loop-turn-init c = driving-none _ _ (omega arith)

pub returns-then-steps-run : goal.returns-then-steps-run
returns-then-steps-run c = driving-over _ _ _ _ c.loop-turn.invariant c.if-steps-run.true

pub loop-turn-preserved : goal.loop-turn-preserved
loop-turn-preserved c =
    driving-turn _ _ _ _ c.loop-turn.invariant (omega (arith, c.if-steps-run.false)) _ (omega arith) _ c.new.ensures _ c.take_turn.ensures

pub returns : goal.returns
returns c = driving-last _ _ _ _ c.loop-turn.invariant (omega arith)
