-- The words left have room, and placing them from here makes what placing all from the entry makes.
use Rattle.successors.proofs.Places.{Placing}
use Rattle.successors.proofs.place_all.Given as goal

abbrev pub invariant-loop-word : goal.invariant-loop-word
invariant-loop-word l = Placing l.t l.words l.initial.next l.initial.succs l.next l.succs l.word-index
