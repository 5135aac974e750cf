-- The loop keeps: the words so far are taken from the counts. The next word's task still has a successor left.
use lib.ListN.{take}
use Rattle.strip.specs.Queue.{Lowered}
use Rattle.strip.proofs.lower_all.Given as goal

abbrev pub invariant-loop-word : goal.invariant-loop-word
invariant-loop-word l = Lowered (take l.word-index l.words) l.initial.left l.left l.initial.queue l.queue l.from l.tail
