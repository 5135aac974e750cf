use native.Mathlib.Omega.{arith}
use Rattle.successors.proofs.Places.{placing-here, placing-more, placing-whole}
use Rattle.successors.proofs.place_all.Goals as goal

pub place-requires : goal.place-requires
place-requires c = omega (arith, placing-here _ _ _ _ _ _ _ c.loop-word.invariant (omega arith))

pub loop-word-preserved : goal.loop-word-preserved
loop-word-preserved c = placing-more _ _ _ _ _ _ _ c.loop-word.invariant (omega arith) _ _ c.place.ensures.0 c.place.ensures.1

pub returns : goal.returns
returns c = placing-whole _ _ _ _ _ _ _ c.loop-word.invariant (omega arith)
