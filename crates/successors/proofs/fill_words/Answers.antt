use native.Mathlib.Omega.{arith}
use Rattle.successors.proofs.Edges.{laying-none, laying-room, laying-more, laying-whole}
use Rattle.successors.proofs.fill_words.Goals as goal

pub loop-t-init : goal.loop-t-init
loop-t-init c = laying-none _ _ _ c.requires

pub place_all-requires : goal.place_all-requires
place_all-requires c = rw c.part.ensures (laying-room _ _ _ c.requires _ _ _ c.loop-t.invariant (omega arith), omega (arith, c.requires.sound.sized.edges, c.requires.whole))

pub loop-t-preserved : goal.loop-t-preserved
loop-t-preserved c = laying-more _ _ _ c.requires _ _ _ c.loop-t.invariant (omega arith) _ _ (rw c.part.ensures at c.place_all.ensures) (omega arith) (omega arith)

pub returns : goal.returns
returns c = laying-whole _ _ _ c.requires _ _ _ c.loop-t.invariant (omega arith)
