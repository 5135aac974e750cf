-- The lines passed are all skipped; the line at p is skipped where its trimmed rest idles.
use Prim.Native.Nat.{◌-◌}
use lib.ListN.{length}
use Rattle.layout.proofs.TaskLaws.{Skimmed}
use Rattle.text_lines.proofs.next_content.Given as goal

abbrev pub invariant-loop-p : goal.invariant-loop-p
invariant-loop-p l = Skimmed l.text l.at l.line l.p l.l

abbrev pub decreases-loop-p : goal.decreases-loop-p
decreases-loop-p l = length l.text - l.p
