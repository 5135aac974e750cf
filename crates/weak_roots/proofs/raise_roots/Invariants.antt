-- Each turn raises one more degree; the others are as they were.
use Prim.Native.Nat.{ℕ, ◌<◌, ◌≤◌, max}
use mathlib.Core.Path.{◌≡◌}
use lib.ListN.{get_or}
use Rattle.weak_roots.proofs.raise_roots.Given as goal

abbrev pub invariant-loop-degree : goal.invariant-loop-degree
invariant-loop-degree l =
    ((u : ℕ) → u < l.degree-index → get_or l.degrees u 0 ≡ max 1 (get_or l.initial.degrees u 0))
    × ((u : ℕ) → l.degree-index ≤ u → get_or l.degrees u 0 ≡ get_or l.initial.degrees u 0)
