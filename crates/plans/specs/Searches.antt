-- The two searches over rings, of every family: P workers, K slots, worker i.
use Rattle.std.specs.Prelude.{ℕ, not, List}
use Rattle.lists.specs.Circles.{around}
use Rattle.ring.specs.Ring.{empty, full}
use Rattle.choice.specs.Search.{Found, search}
use Rattle.memory.specs.Family.{Family}
use Rattle.memory.specs.Memory.{Mem}
use Rattle.plans.specs.Memory.{ring_number, ends_in, pointer_in}
use Rattle.plans.specs.Words.{ends_fit}

module _ {F : Family} where
  -- "Fetch by i: scan the rings of owner i from the ring pointer upward, modulo P; the scan stops at the first ring that isn't empty."
  unfoldable pub scan : ℕ → ℕ → ℕ → Mem F → Found
  scan p k i m = search (λ j. ends_fit k m (ring_number p i j)) (λ j. not (empty (ends_in m (ring_number p i j)))) (around p (pointer_in m i))

  -- "the first ring filled by i that isn't full", among those of the owners, in their order
  unfoldable pub find_room : ℕ → ℕ → ℕ → Mem F → List ℕ → Found
  find_room p k i m owners = search (λ o. ends_fit k m (ring_number p o i)) (λ o. not (full k (ends_in m (ring_number p o i)))) owners
