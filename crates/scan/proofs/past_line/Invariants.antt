-- The line still ends where it ended from the first place on.
use Prim.Native.Nat.{◌-◌}
use lib.ListN.{length}
use Rattle.layout.proofs.Places.{Onward}
use Rattle.scan.proofs.past_line.Given as goal

abbrev pub invariant-loop-p : goal.invariant-loop-p
invariant-loop-p l = Onward l.text l.at l.p

abbrev pub decreases-loop-p : goal.decreases-loop-p
decreases-loop-p l = length l.text - l.p
