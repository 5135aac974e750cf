-- Each count is how often its number stands among the words so far; so it is at most as many as they are, and adding 1 fits.
use Rattle.tables.proofs.Laws.{Counted}
use Rattle.tables.proofs.count_words.Given as goal

abbrev pub invariant-loop-word : goal.invariant-loop-word
invariant-loop-word l = Counted l.words l.initial.counts l.counts l.word-index
