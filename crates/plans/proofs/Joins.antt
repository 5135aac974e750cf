-- What the words of the rings are after the item of a task has joined one of them, where each ring was filled from its first slot on.
use Prim.Native.Nat.{ℕ, ◌+◌, ◌*◌, ◌≤◌, ◌<◌}
use mathlib.Core.Path.{◌≡◌, refl, sym, ap, ◌∙◌}
use mathlib.Core.List.{List, [], ◌∷◌, ◌++◌, map}
use native.Mathlib.Omega.{arith}
use native.Mathlib.Decide.{ℕ_discrete}
use native.Mathlib.Nat.{mod-eq_of_lt}
use lib.IntN.{pos}
use lib.ListN.{length, get_or, length-append, length-map}
use lib.Seq.{get_or-set_same, get_or-set_other, get_or-append_seam}
use Rattle.lists.specs.Sums.{sum_of}
use Rattle.lists.proofs.Sums.{sum_of-single, sum_of-append}
use Rattle.lists.proofs.Appends.{get_d-snoc-other}
use Rattle.lists.proofs.Places.{place_end, place_same}
use Rattle.task.specs.declared.Ends.{Ends}
use Rattle.ring.specs.Ring.{end_words, slot_at, tail_on, Sound, Full, queue, appended_at, filled_ends}
use Rattle.ring.proofs.Ends.{ends-stored, ends-other, filled-sound, filled-append}
use Rattle.ring.proofs.Queues.{queue-append, queue-append-other}
use Rattle.memory.specs.Family.{Family}
use Rattle.memory.specs.Field as list
use Rattle.memory.specs.Memory.{Mem}
use Rattle.memory.specs.Updates.{updated, written}
use Rattle.memory.proofs.Shape.{written-shaped}
use Rattle.plans.specs.Memory.{ring_number, rings_in, ends_in, counter_in, weight_in}
use Rattle.plans.specs.Sizes.{Lengths}
use Rattle.plans.specs.Laying.{join_ring}

pub map_snoc : {A B : Type 0} (f : A → B) (l : List A) (a : A) → map f (l ++ (a ∷ [])) ≡ map f l ++ (f a ∷ [])
map_snoc f [] a = refl
map_snoc f (x ∷ l) a = ap (λ (r : List _). f x ∷ r) (map_snoc f l a)

-- items that are the tasks themselves
pub map-itself : {A : Type 0} (l : List A) → map (λ x. x) l ≡ l
map-itself [] = refl
map-itself (x ∷ l) = ap (λ (r : List _). x ∷ r) (map-itself l)

-- ring q holds the items of these tasks from its first slot on, its other slots are blank, and its counter is the tasks' weight
pub record Holds {F : Family} (item : ℕ → F.Item) (k : ℕ) (weight : ℕ → ℕ) (m : Mem F) (q : ℕ) (l : List ℕ) : Type 0 where
  pub ends : ends_in m q ≡ filled_ends k (length l)
  pub slot : (x : ℕ) → x < k → get_or m.rings (slot_at k q x) F.no_item ≡ get_or (map item l) x F.no_item
  pub items : queue F.no_item k (rings_in m) q ≡ map item l
  pub counter : counter_in m q ≡ pos (sum_of weight l)

-- the item of task t joins the ring of owner o filled by worker i
module _ {F : Family} (item : ℕ → F.Item) (p k o i t : ℕ) (m : Mem F) where
  abbrev q : ℕ
  q = ring_number p o i

  abbrev next : Mem F
  next = written (join_ring p k o i (item t) t m) m

  -- it is appended to that ring
  join-appends : rings_in next ≡ appended_at k q (item t) (rings_in m)
  unfolding written updated appended_at
  join-appends = refl

  pub join-lengths : Lengths p k m → Lengths p k next
  join-lengths = written-shaped p k (join_ring p k o i (item t) t m) m

  -- the ring that it joins
  pub join-own : (weight : ℕ → ℕ) (l : List ℕ) → Lengths p k m → q < p * p → weight_in m t ≡ weight t → length l < k
      → Holds item k weight m q l → Holds item k weight next q (l ++ (t ∷ []))
  unfolding written updated tail_on slot_at
  join-own weight l lengths h w room r =
      record {
        ends = ends-stored m.ends q (tail_on k (ends_in m q)) ends-room ∙ rw (r.ends, filled-append k (length l), length-append l (t ∷ []));
        slot = λ x hx. slots x hx (ℕ_discrete x (length l));
        items =
            rw join-appends
            (queue-append F.no_item k (rings_in m) q (item t) sound free slots-room ends-room
            ∙ ap (λ (s : List F.Item). s ++ (item t ∷ [])) r.items
            ∙ sym (map_snoc item l t));
        counter =
            get_or-set_same m.counters q _ (pos 0) (omega (arith, h, lengths.list list.counters))
            ∙ rw (r.counter, w, sum_of-append weight l (t ∷ []), sum_of-single weight t);
      }
    where
      tail-is : (ends_in m q).tail ≡ length l
      tail-is = ap (λ (e : Ends). e.tail) r.ends ∙ mod-eq_of_lt room

      ends-room : q * end_words + end_words ≤ length m.ends
      ends-room = rw (lengths.list list.ends) (omega (arith, h))

      slots-room : slot_at k q k ≤ length m.rings
      slots-room = rw (lengths.list list.rings) (place_end k (p * p) q h)

      sound : Sound k (ends_in m q)
      sound = rw r.ends (filled-sound k (length l) (omega (arith, room)) (omega (arith, room)))

      free : ¬ (Full k (ends_in m q))
      free f = omega (arith, room, f, ap (λ (e : Ends). e.count) r.ends)

      as_long : length (map item l) ≡ length l
      as_long = length-map l item

      slots : (x : ℕ) → x < k → Dec (x ≡ length l) → get_or next.rings (slot_at k q x) F.no_item ≡ get_or (map item (l ++ (t ∷ []))) x F.no_item
      slots x hx (yes e) =
          rw (tail-is, e)
          (get_or-set_same m.rings (slot_at k q (length l)) (item t) F.no_item (omega (arith, slots-room, room))
          ∙ sym (get_or-append_seam (map item l) (item t) [] F.no_item)
          ∙ ap (λ (y : ℕ). get_or (map item l ++ (item t ∷ [])) y F.no_item) as_long
          ∙ ap (λ (s : List F.Item). get_or s (length l) F.no_item) (sym (map_snoc item l t)))
      slots x hx (no n) =
          get_or-set_other m.rings (slot_at k q (ends_in m q).tail) (slot_at k q x) (item t) F.no_item (λ e. n (omega (arith, e, tail-is)))
          ∙ r.slot x hx
          ∙ sym (get_d-snoc-other (map item l) (item t) x F.no_item (λ e. n (e ∙ as_long)))
          ∙ ap (λ (s : List F.Item). get_or s x F.no_item) (sym (map_snoc item l t))

  -- another one
  pub join-other : (weight : ℕ → ℕ) (l : List ℕ) (s : ℕ) → (ends_in m q).tail < k → ¬ (s ≡ q)
      → Holds item k weight m s l → Holds item k weight next s l
  unfolding written updated slot_at
  join-other weight l s small n r =
      record {
        ends = ends-other m.ends q s (tail_on k (ends_in m q)) n ∙ r.ends;
        slot = λ x hx. get_or-set_other m.rings (slot_at k q (ends_in m q).tail) (slot_at k s x) (item t) F.no_item
            (λ e. n (place_same k s x q (ends_in m q).tail hx small e).0) ∙ r.slot x hx;
        items = rw join-appends (queue-append-other F.no_item k (rings_in m) q (item t) s n small ∙ r.items);
        counter = get_or-set_other m.counters q s _ (pos 0) n ∙ r.counter;
      }
