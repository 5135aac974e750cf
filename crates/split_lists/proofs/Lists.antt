-- A take from one of worker i's lists, and an append to one that it fills: what is read of the rings before and after.
use Prim.Native.Nat.{ℕ, ◌+◌, ◌*◌, ◌%◌, ◌<◌}
use mathlib.Core.Path.{◌≡◌, ◌∙◌}
use mathlib.Core.List.{List, [], ◌∷◌, ◌++◌}
use native.Mathlib.Omega.{arith}
use native.Mathlib.Decide.{dec_lt}
use lib.ListN.{length, get_or}
use Rattle.lists.specs.Squares.{square, with_cell}
use Rattle.lists.proofs.Decided.{stable}
use Rattle.lists.proofs.Places.{place_end, place-lt}
use Rattle.task.specs.Entries.{Entry}
use Rattle.ring.specs.Ring.{capacity, slot_at, Sound, Empty, Full, Rings, rings_of, queue, taken_at, appended_at}
use Rattle.ring.proofs.Queues.{queue-empty, queue-full, queue-most, queue-take, queue-take-other, queue-append, queue-append-other}
use Rattle.choice.specs.Form.{Offered}
use Rattle.memory.specs.Family.{Family}
use Rattle.memory.specs.Field as list
use Rattle.memory.specs.Memory.{Mem}
use Rattle.plans.specs.Memory.{ring_number, ends_in, rings_in, head_item, pointer_in}
use Rattle.plans.specs.Sizes.{Lengths}
use Rattle.plans.specs.Tables.{StopsAt, scanned_ends, offered_ends}
use Rattle.split_lists.specs.Items.{queue_of}
use Rattle.split_lists.specs.Moves.{First}
use Rattle.split_lists.specs.Reading.{queue_in, state_from}
use Rattle.split_lists.proofs.Readings.{queue-at}
use Rattle.split_lists.proofs.Memories.{rings-put, ends-room, stops_first, stops-offered}

module _ {F : Family} (p k i : ℕ) (m : Mem F) (entries : List (Entry F.Item)) (worker : i < p) where
  -- "the scan stops at the first ring that isn't empty"
  pub first-waiting : (distance : ℕ) → StopsAt p k Empty (scanned_ends p i m) distance
      → First p (λ j. ¬ (queue_of (state_from p k m entries) i j ≡ [])) (pointer_in m i) ((pointer_in m i + distance) % p)
  first-waiting =
      stops_first p k Empty (λ j. ¬ (queue_of (state_from p k m entries) i j ≡ [])) (λ j. ends_in m (ring_number p i j))
      (λ j l sound. rw (queue-at p k m entries i j worker l) (
        λ e some. some ((queue-empty F.no_item k (rings_in m) (ring_number p i j) sound).0 e),
        λ some e. some ((queue-empty F.no_item k (rings_in m) (ring_number p i j) sound).1 e),
      ))
      (pointer_in m i)

  -- A take from the list that worker j fills.
  module _ (j : ℕ) (filler : j < p) where
    -- the rings that it leaves, and what is left of the list
    abbrev pub taken : Rings F.Item
    taken = rings_of m.rings (taken_at F.no_item k (ring_number p i j) (rings_in m)).ends

    abbrev pub rest : List F.Item
    rest = queue F.no_item k taken (ring_number p i j)

    -- the list was the item, then the rest
    pub queue-taken : Lengths p k m → Sound k (ends_in m (ring_number p i j)) → ¬ (Empty (ends_in m (ring_number p i j)))
        → queue_of (state_from p k m entries) i j ≡ head_item k m (ring_number p i j) ∷ rest
    unfolding taken_at
    queue-taken lengths sound some =
        queue-at p k m entries i j worker filler
        ∙ queue-take F.no_item k (rings_in m) (ring_number p i j) sound some (ends-room p i j worker filler k m lengths)

    -- the other lists stay
    pub queues-taken : square p (λ a b. queue F.no_item k taken (ring_number p a b)) ≡ with_cell (state_from p k m entries).queues i j rest
    queues-taken =
        rings-put p i j worker filler (queue F.no_item k (rings_in m)) (queue F.no_item k taken)
        (queue-take-other F.no_item k (rings_in m) (ring_number p i j))

  -- The ring of owner o filled by worker i, where its ends aren't damaged.
  module _ (o : ℕ) (owner : o < p) (sound : Sound k (ends_in m (ring_number p o i))) where
    pub no_room : Full k (ends_in m (ring_number p o i)) → ¬ (length (queue_of (state_from p k m entries) o i) < capacity k)
    no_room f = rw (queue-at p k m entries o i owner worker) (λ h. omega (arith, h, (queue-full F.no_item k (rings_in m) (ring_number p o i) sound).0 f))

    module _ (free : ¬ (Full k (ends_in m (ring_number p o i)))) where
      pub has_room : length (queue_of (state_from p k m entries) o i) < capacity k
      has_room =
          rw (queue-at p k m entries o i owner worker)
          (stable (dec_lt (length (queue_in p k m o i)) (capacity k))
          (λ h. free ((queue-full F.no_item k (rings_in m) (ring_number p o i) sound).1
          (omega (arith, h, queue-most F.no_item k (rings_in m) (ring_number p o i) sound)))))

      -- an item joins it: no other list changes
      pub queues-appended : Lengths p k m → (t : F.Item)
          → square p (λ a b. queue F.no_item k (appended_at k (ring_number p o i) t (rings_in m)) (ring_number p a b))
          ≡ with_cell (state_from p k m entries).queues o i (queue_of (state_from p k m entries) o i ++ (t ∷ []))
      unfolding slot_at
      queues-appended lengths t =
          rings-put p o i owner worker (queue F.no_item k (rings_in m)) (queue F.no_item k (appended_at k (ring_number p o i) t (rings_in m)))
          (λ q off. queue-append-other F.no_item k (rings_in m) (ring_number p o i) t q off sound.tail)
          ∙ rw (
            queue-at p k m entries o i owner worker,
            queue-append F.no_item k (rings_in m) (ring_number p o i) t sound free
                (rw (lengths.list list.rings) (place_end k (p * p) (ring_number p o i) (place-lt p p o i owner worker)))
                (ends-room p o i owner worker k m lengths),
          )

  -- "If Q_i^j is full", another thread's list "in a round robin fashion"
  pub first-room : (Candidate : ℕ → Type 0) → ((h : ℕ) → Candidate h → h < p)
      → (j : ℕ) (owners : List ℕ) → Offered p Candidate j owners → (e : ℕ) → StopsAt (length owners) k (Full k) (offered_ends p i m owners) e
      → First p (λ h. Candidate h × (length (queue_of (state_from p k m entries) h i) < capacity k)) j (get_or owners e 0)
  first-room Candidate below =
      stops-offered p k (Full k) Candidate (λ h. length (queue_of (state_from p k m entries) h i) < capacity k) (λ h. ends_in m (ring_number p h i))
      (λ h c sound. (no_room h (below h c) sound, has_room h (below h c) sound))
