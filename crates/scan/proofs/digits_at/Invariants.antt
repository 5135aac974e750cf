-- The digits from the first place on are read, at most five of them, and have the value.
use Prim.Native.Nat.{◌-◌, ◌≤◌}
use Rattle.layout.proofs.Numbers.{Ran}
use Rattle.scan.proofs.digits_at.Given as goal

abbrev pub invariant-loop-p : goal.invariant-loop-p
invariant-loop-p l = Ran l.text l.at l.p l.v × (l.p ≤ l.end)

abbrev pub decreases-loop-p : goal.decreases-loop-p
decreases-loop-p l = l.end - l.p
