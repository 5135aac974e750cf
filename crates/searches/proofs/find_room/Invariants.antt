-- The whole search equals the search of the rings still left, from owner o.
use Rattle.searches.proofs.Laws.{onward}
use Rattle.lists.specs.Circles.{around}
use Rattle.ring.specs.Ring.{sound, full, ends_at}
use Rattle.choice.specs.Search as rules
use Prim.Native.Nat.{ℕ, ◌+◌, ◌*◌, ◌<◌}
use mathlib.Core.Path.{◌≡◌}
use mathlib.Core.Bool.{not}
use mathlib.Core.List.{List}
use Rattle.searches.proofs.find_room.Given as goal

abbrev pub found : List ℕ → ℕ → ℕ → ℕ → List ℕ → rules.Found
found ends p k i = rules.search (λ x. sound k (ends_at ends (x * p + i))) (λ x. not (full k (ends_at ends (x * p + i))))

abbrev pub invariant-loop-owners : goal.invariant-loop-owners
invariant-loop-owners l =
    (l.o.0 < l.p) × (found l.ends l.p l.k l.filler.0 (around l.p l.initial.o.0) ≡ found l.ends l.p l.k l.filler.0 (onward l.p l.owners l.o.0))

abbrev pub decreases-loop-owners : goal.decreases-loop-owners
decreases-loop-owners l = l.owners
