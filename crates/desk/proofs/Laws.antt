-- What was put lies inside the buffer.
use Prim.Native.Nat.{ℕ, ◌≤◌}
use mathlib.Core.Path.{ap}
use mathlib.Core.List.{List}
use native.Mathlib.Omega.{arith}
use lib.ListN.{length, length-take}
use Rattle.text_put.specs.Appending.{Appends}

pub put-inside : {bytes before after : List ℕ} {r : ℕ} → Appends 0 bytes before after r → r ≤ length after
put-inside {bytes} {before} {after} {r} p = omega (arith, p.end, ap length p.text, length-take r after)
