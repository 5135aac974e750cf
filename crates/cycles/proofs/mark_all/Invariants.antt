-- The loop: the words so far are marked besides.
use lib.ListN.{take}
use Rattle.cycles.specs.Marks.{Grown}
use Rattle.cycles.proofs.mark_all.Given as goal

abbrev pub invariant-loop-word : goal.invariant-loop-word
invariant-loop-word l = Grown (take l.word-index l.words) l.initial.seen l.initial.queue l.from l.seen l.queue l.tail
