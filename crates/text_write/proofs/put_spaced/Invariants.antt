-- The numbers taken so far are put.
use Rattle.text_write.proofs.Laws.{Spacing}
use Rattle.text_write.proofs.put_spaced.Given as goal

abbrev pub invariant-loop-number : goal.invariant-loop-number
invariant-loop-number l = Spacing l.at l.numbers l.initial.out l.number-index l.out l.end
