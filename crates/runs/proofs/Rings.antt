-- The rings of a memory of any family in which no ends are damaged: what a scan finds where an item waits, and that there is room where none does.
use Prim.Native.Nat.{ℕ, ◌+◌, ◌*◌, ◌%◌, ◌<◌}
use mathlib.Core.Path.{◌≡◌, refl, sym, ap, ◌∙◌}
use mathlib.Core.List.{List, []}
use native.Mathlib.Omega.{arith}
use native.Mathlib.Nat.{mod-lt}
use lib.ListN.{length, get_or}
use Rattle.lists.specs.Lists.{occ_of}
use Rattle.lists.proofs.Circles.{mod-reached}
use Rattle.lists.proofs.Occurrences.{occ-hit}
use Rattle.lists.proofs.Places.{place-lt}
use Rattle.task.specs.Entries.{Entry}
use Rattle.task.specs.declared.Limits.{Limits}
use Rattle.ring.specs.Ring.{Sound, Empty, Full, rings_of, taken_at, queue}
use Rattle.ring.proofs.Ends.{capacity-is}
use Rattle.ring.proofs.Queues.{queue-empty, queue-full, queue-take}
use Rattle.choice.specs.Search.{Found, unsound, none, at}
use Rattle.memory.specs.Family.{Family}
use Rattle.memory.specs.Memory.{Mem}
use Rattle.plans.specs.Memory.{ring_number, ends_in, rings_in, head_item, pointer_in}
use Rattle.plans.specs.Sizes.{Fits}
use Rattle.plans.specs.Tables.{BadEnds, StopsAt, scanned, scanned_ends, offered_ends}
use Rattle.plans.proofs.Searches.{Looked}
use Rattle.split_lists.specs.Items.{State, queue_of, waiting_for}
use Rattle.split_lists.specs.Reading.{state_from}
use Rattle.split_lists.proofs.Memories.{ends-room}
use Rattle.split_lists.proofs.Readings.{queue-at}
use Rattle.runs.proofs.Waiting.{lists-empty, list-waits, waiting_none}

module _ {F : Family} {limits : Limits} {p k : ℕ} {m : Mem F} (fits : Fits limits p k m) (ends : (q : ℕ) → q < p * p → Sound k (ends_in m q))
    (i : ℕ) (worker : i < p) where
  owned-sound : (j : ℕ) → j < p → Sound k (ends_in m (ring_number p i j))
  owned-sound j l = ends (ring_number p i j) (place-lt p p i j worker l)

  filled-sound : (o : ℕ) → o < p → Sound k (ends_in m (ring_number p o i))
  filled-sound o l = ends (ring_number p o i) (place-lt p p o i l worker)

  -- any distance leads to one of the workers
  near : (x : ℕ) → x % p < p
  near x = mod-lt x fits.limits.one_worker

  -- the scan comes to no damaged ends
  pub scan-sound : ¬ (BadEnds p k Empty (scanned_ends p i m))
  scan-sound (e, inside, on, bad) = bad (owned-sound ((pointer_in m i + e) % p) (near (pointer_in m i + e)))

  -- nor does a search for room, along any owners
  module _ (owners : List ℕ) (workers : (e : ℕ) → e < length owners → get_or owners e 0 < p) where
    pub room-sound : ¬ (BadEnds (length owners) k (Full k) (offered_ends p i m owners))
    room-sound (e, inside, on, bad) = bad (filled-sound (get_or owners e 0) (workers e inside))

  -- the state that the memory is read as, with these entries of its record
  module _ (entries : List (Entry F.Item)) where
    abbrev state : State F.Item
    state = state_from p k m entries

    list-empty : (j : ℕ) → j < p → Empty (ends_in m (ring_number p i j)) → queue_of state i j ≡ []
    list-empty j l e = queue-at p k m entries i j worker l ∙ (queue-empty F.no_item k (rings_in m) (ring_number p i j) (owned-sound j l)).0 e

    -- the head of a ring waits
    head-waits : (same : Discrete F.Item) (j : ℕ) → j < p → ¬ (Empty (ends_in m (ring_number p i j)))
        → 0 < occ_of same (head_item k m (ring_number p i j)) (waiting_for p state i)
    unfolding taken_at
    head-waits same j l n =
        list-waits p state i same (head_item k m (ring_number p i j)) j l (rw (queue-at p k m entries i j worker l) here)
      where
        here : 0 < occ_of same (head_item k m (ring_number p i j)) (queue F.no_item k (rings_in m) (ring_number p i j))
        here =
            rw (queue-take F.no_item k (rings_in m) (ring_number p i j) (owned-sound j l) n (ends-room p i j worker l k m fits.lengths))
            (omega (
              arith,
              occ-hit same (head_item k m (ring_number p i j)) (head_item k m (ring_number p i j))
                  (queue F.no_item k (rings_of m.rings (taken_at F.no_item k (ring_number p i j) (rings_in m)).ends) (ring_number p i j)) refl,
            ))

    -- so the next item waits
    pub next-waits : (same : Discrete F.Item) (e : ℕ) → StopsAt p k Empty (scanned_ends p i m) e
        → 0 < occ_of same (head_item k m (scanned p i m e)) (waiting_for p state i)
    next-waits same e stop = head-waits same ((pointer_in m i + e) % p) (near (pointer_in m i + e)) stop.stops

    -- where an item waits, the scan stops
    pub scan-stops-at : pointer_in m i < p → (f : Found) → Looked p k Empty (scanned_ends p i m) (pointer_in m i) f → ¬ (waiting_for p state i ≡ [])
        → (e : ℕ) × StopsAt p k Empty (scanned_ends p i m) e
    scan-stops-at pointer unsound bad some = absurd (scan-sound bad)
    scan-stops-at pointer none all some = absurd (some (lists-empty p state i all-empty))
      where
        all-empty : (j : ℕ) → j < p → queue_of state i j ≡ []
        all-empty j l =
            let (d, inside, e) = mod-reached p (pointer_in m i) j pointer l in
            list-empty j l (rw e at (all d inside).1)
    scan-stops-at pointer (at j) (e, stop, q) some = (e, stop)

    -- an empty ring isn't full: it has two slots or more
    pub empty-room : (o : ℕ) → o < p → waiting_for p state o ≡ [] → ¬ (Full k (ends_in m (ring_number p o i)))
    empty-room o owner nothing full =
        omega (
          arith,
          fits.limits.two_slots,
          capacity-is k,
          sym ((queue-full F.no_item k (rings_in m) (ring_number p o i) (filled-sound o owner)).0 full)
              ∙ ap length (sym (queue-at p k m entries o i owner worker) ∙ waiting_none p state o nothing i worker),
        )

    -- so where nothing waits, the search stops at its first ring, of any owners
    pub room-first : ((o : ℕ) → o < p → waiting_for p state o ≡ []) → (owners : List ℕ) → ((e : ℕ) → e < length owners → get_or owners e 0 < p)
        → 0 < length owners → StopsAt (length owners) k (Full k) (offered_ends p i m owners) 0
    room-first nothing owners workers some =
        record {
          inside = some;
          goes_on = λ d l. absurd (omega (arith, l));
          sound = filled-sound (get_or owners 0 0) (workers 0 some);
          stops = empty-room (get_or owners 0 0) (workers 0 some) (nothing (get_or owners 0 0) (workers 0 some));
        }
