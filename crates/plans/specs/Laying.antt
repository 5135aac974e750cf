-- Items that join a ring, and the roots that begin deals out.
use Rattle.std.specs.Prelude.{ℕ, ◌+◌, ◌%◌, cond, List, [], ◌∷◌, ◌++◌, eqb, pos, ◌+ℤ◌}
use Rattle.ring.specs.Ring.{slot_at, tail_on}
use Rattle.memory.specs.Family.{Family}
use Rattle.memory.specs.Field as list
use Rattle.memory.specs.Memory.{Mem}
use Rattle.memory.specs.Updates.{Update, store, written}
use Rattle.plans.specs.Memory.{ring_number, ends_in, counter_in, weight_in}

module _ {F : Family} where
  -- an item joins the ring of owner o filled by worker i
  abbrev pub append : ℕ → ℕ → ℕ → ℕ → F.Item → Mem F → List (Update F)
  append p k o i a m =
      store list.rings (slot_at k (ring_number p o i) (ends_in m (ring_number p o i)).tail) a
      ∷ store list.ends (ring_number p o i) (tail_on k (ends_in m (ring_number p o i)))
      ∷ []

  -- and with it the weight of task t: "The weight joins the counter of the ring really used."
  abbrev pub join_ring : ℕ → ℕ → ℕ → ℕ → F.Item → ℕ → Mem F → List (Update F)
  join_ring p k o i a t m =
      append p k o i a m ++ (store list.counters (ring_number p o i) (counter_in m (ring_number p o i) +ℤ pos (weight_in m t)) ∷ [])

  -- "The roots (degree 0) are taken rising: root number m" (here n) ", from 0, goes to the ring of owner and filler m mod P, and its weight to
  -- that counter."; `item` is the item of a root, `beside` what else is written with it
  unfoldable pub roots_laid : ℕ → ℕ → (ℕ → F.Item) → (ℕ → ℕ → List (Update F)) → ℕ → List ℕ → Mem F → Mem F
  roots_laid p k item beside n [] m = m
  roots_laid p k item beside n (t ∷ ts) m =
      roots_laid p k item beside (n + 1) ts (written (beside n t ++ join_ring p k (n % p) (n % p) (item t) t m) m)

-- the members of a list whose number, counted from n, is ≡ i modulo p
unfoldable pub dealt : ℕ → ℕ → ℕ → List ℕ → List ℕ
dealt p i n [] = []
dealt p i n (t ∷ ts) = cond (eqb (n % p) i) (t ∷ dealt p i (n + 1) ts) (dealt p i (n + 1) ts)

-- the members of a list, counted from n, that go to ring q: number n goes to the ring of owner and filler n modulo p
unfoldable pub to_ring : ℕ → ℕ → ℕ → List ℕ → List ℕ
to_ring p q n [] = []
to_ring p q n (t ∷ ts) = cond (eqb (ring_number p (n % p) (n % p)) q) (t ∷ to_ring p q (n + 1) ts) (to_ring p q (n + 1) ts)
