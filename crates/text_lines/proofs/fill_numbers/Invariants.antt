-- The numbers found so far stand in the words from e up to k, as far as there is room.
use Rattle.layout.specs.Scan.{Filling}
use Rattle.text_lines.proofs.fill_numbers.Given as goal

abbrev pub invariant-loop-k : goal.invariant-loop-k
invariant-loop-k l = Filling l.text l.at l.e l.initial.words l.p l.k l.words
