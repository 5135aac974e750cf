use native.Mathlib.Omega.{arith}
use Rattle.strip.proofs.Queue.{lowered_none, lower-next, lowered-next}
use Rattle.strip.proofs.lower_all.Goals as goal

pub loop-word-init : goal.loop-word-init
loop-word-init c = lowered_none _ _ _ c.requires.0

pub lower-tail-requires : goal.lower-tail-requires
lower-tail-requires c =
    (c.loop-word.invariant.queued, lower-next _ _ _ _ _ _ _ _ (omega arith) c.loop-word.invariant c.requires.1)

pub loop-word-preserved : goal.loop-word-preserved
loop-word-preserved c =
    lowered-next c.args.words.now _ _ _ _ _ _ c.loop-word.word-index (omega arith) c.loop-word.invariant _ _ _ c.lower-tail.ensures
