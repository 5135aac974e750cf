-- Of the words so far, whether all are below the bound.
use Rattle.tables.proofs.Laws.{BelowTo}
use Rattle.tables.proofs.flat_below.Given as goal

abbrev pub invariant-loop-word : goal.invariant-loop-word
invariant-loop-word l = BelowTo l.words l.bound l.word-index l.below
