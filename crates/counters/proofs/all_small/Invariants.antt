-- Those looked at are small if no test said otherwise.
use Prim.Native.Nat.{ℕ, ◌<◌, ◌≤◌}
use mathlib.Core.Path.{◌≡◌}
use mathlib.Core.Bool.{true}
use lib.IntN.{pos}
use lib.ListN.{get_or}
use lib.Signed.{mag}
use Rattle.counters.proofs.all_small.Given as goal

abbrev pub invariant-loop-counter : goal.invariant-loop-counter
invariant-loop-counter l = l.small ≡ true → (q : ℕ) → q < l.counter-index → mag (get_or l.counters q (pos 0)) ≤ 67108864
