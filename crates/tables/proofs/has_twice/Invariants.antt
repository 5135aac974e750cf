-- No word was met twice so far, the marks that carry the stamp are those of the words met, and these are counted.
use Rattle.tables.proofs.Laws.{Counted, Met}
use Rattle.tables.proofs.has_twice.Given as goal

abbrev pub invariant-loop-word : goal.invariant-loop-word
invariant-loop-word l = Met l.words l.marks l.stamp l.word-index × Counted l.words l.initial.counts l.counts l.word-index
