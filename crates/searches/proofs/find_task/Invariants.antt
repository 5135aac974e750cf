-- The whole scan equals the scan of the rings still left, from filler j.
use Rattle.searches.proofs.Laws.{onward}
use Rattle.lists.specs.Circles.{around}
use Rattle.ring.specs.Ring.{sound, empty, ends_at}
use Rattle.choice.specs.Search as rules
use Prim.Native.Nat.{ℕ, ◌+◌, ◌*◌, ◌<◌}
use mathlib.Core.Path.{◌≡◌}
use mathlib.Core.Bool.{not}
use mathlib.Core.List.{List}
use Rattle.searches.proofs.find_task.Given as goal

abbrev pub found : List ℕ → ℕ → ℕ → ℕ → List ℕ → rules.Found
found ends p k i = rules.search (λ x. sound k (ends_at ends (i * p + x))) (λ x. not (empty (ends_at ends (i * p + x))))

abbrev pub invariant-loop-fillers : goal.invariant-loop-fillers
invariant-loop-fillers l =
    (l.j.0 < l.p) × (found l.ends l.p l.k l.owner.0 (around l.p l.initial.j.0) ≡ found l.ends l.p l.k l.owner.0 (onward l.p l.fillers l.j.0))

abbrev pub decreases-loop-fillers : goal.decreases-loop-fillers
decreases-loop-fillers l = l.fillers
