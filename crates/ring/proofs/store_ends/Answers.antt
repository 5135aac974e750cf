use Rattle.ring.specs.Ring.{store_ends}
use Rattle.ring.proofs.Ends.{second-inside, third-inside}
use mathlib.Core.Path.{refl}
use Rattle.ring.proofs.store_ends.Goals as goal

pub bounds-words-q-2 : goal.bounds-words-q-2
bounds-words-q-2 c = second-inside c.args.words.now c.args.q c.args.ends c.requires

pub bounds-words-q-3 : goal.bounds-words-q-3
bounds-words-q-3 c = third-inside c.args.words.now c.args.q c.args.ends c.requires

pub returns : goal.returns
unfolding store_ends
returns c = refl
