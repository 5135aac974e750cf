-- The lists of n rings hold each of them.
use Prim.Native.Nat.{ℕ, ◌*◌, ◌≤◌, ◌<◌}
use mathlib.Core.Path.{◌≡◌}
use mathlib.Core.List.{List}
use native.Mathlib.Omega.{arith}
use lib.ListN.{length}
use Rattle.lists.proofs.Places.{place_end}
use Rattle.task.specs.Types.{engine}
use Rattle.ring.specs.Ring.{ring_words, end_words, slot_at, rings_of, Inside}

pub ring-inside : {A : Type 0} (k n q : ℕ) (slots : List A) (ends : List ℕ) → k ≤ engine.slots
    → length slots ≡ n * ring_words k → length ends ≡ n * end_words → q < n → Inside k q (rings_of slots ends)
unfolding slot_at
ring-inside k n q slots ends few s e h = record { few = few; slots = rw s (place_end k n q h); ends = omega (arith, e) }
