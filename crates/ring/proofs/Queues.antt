-- Laws of the list that a ring holds: an append adds its item at the end, a take removes the first one, other rings stay as they are.
use Prim.Native.Nat.{ℕ, suc, ◌+◌, ◌*◌, ◌%◌, ◌≤◌, ◌<◌}
use mathlib.Core.Path.{◌≡◌, sym, ap, ◌∙◌}
use mathlib.Core.List.{List, [], ◌∷◌, ◌++◌}
use mathlib.Core.Logic.{◌↔◌}
use native.Mathlib.Omega.{arith}
use native.Mathlib.Nat.{mod-lt, mod-eq_of_lt}
use lib.ListN.{length, get_or, set}
use lib.Seq.{get_or-set_same, get_or-set_other}
use Rattle.lists.specs.Lists.{tabulate}
use Rattle.lists.specs.Circles.{after}
use Rattle.lists.proofs.Appends.{no-members}
use Rattle.lists.proofs.Blocks.{length-tabulate, tabulate-same, tabulate-snoc}
use Rattle.lists.proofs.Places.{place_same}
use Rattle.lists.proofs.Circles.{mod-after}
use Rattle.task.specs.declared.Ends.{Ends}
use Rattle.ring.specs.Ring.{capacity, end_words, slot_at, ends_at, Sound, Empty, Full, head_on, tail_on, Rings, rings_of, queued, queue, appended_at, taken_at, filled_ends}
use Rattle.ring.proofs.Ends.{capacity-is, ends-stored, ends-other, filled-sound, queued-damaged, queued-count, queued-append, queued-take, slot-free, slot-used}

-- Slots of different rings are different.
slots_apart : (k o q x y : ℕ) → x < k → y < k → ¬ (o ≡ q) → ¬ (slot_at k o x ≡ slot_at k q y)
unfolding slot_at
slots_apart k o q x y hx hy n e = n (place_same k o x q y hx hy e).0

-- What ring q holds, by its slots and its ends.
module _ {A : Type 0} (d : A) (k q : ℕ) where
  abbrev items : List A → Ends → List A
  items s e = tabulate (queued k e) (λ n. get_or s (slot_at k q ((e.head + n) % k)) d)

  items-append : (s : List A) (e : Ends) (a : A) → Sound k e → ¬ (Full k e) → slot_at k q k ≤ length s
      → items (set s (slot_at k q e.tail) a) (tail_on k e) ≡ items s e ++ (a ∷ [])
  unfolding tail_on slot_at
  items-append s e a h n room =
      ap (λ (m : ℕ). tabulate m new) (queued-append k e h n)
      ∙ tabulate-snoc (queued k e) new
      ∙ rw (tabulate-same (queued k e) new old kept, slot-free k e h, get_or-set_same s (slot_at k q e.tail) a d (omega (arith, room, h.tail)))
    where
      new : ℕ → A
      new m = get_or (set s (slot_at k q e.tail) a) (slot_at k q ((e.head + m) % k)) d

      old : ℕ → A
      old m = get_or s (slot_at k q ((e.head + m) % k)) d

      kept : (m : ℕ) → m < queued k e → new m ≡ old m
      kept m l = get_or-set_other s (slot_at k q e.tail) (slot_at k q ((e.head + m) % k)) a d (λ w. slot-used k e h n m l (omega (arith, w)))

  items-take : (s : List A) (e : Ends) → Sound k e → ¬ (Empty e) → items s e ≡ get_or s (slot_at k q e.head) d ∷ items s (head_on k e)
  unfolding head_on tabulate
  items-take s e h n =
      ap (λ (m : ℕ). tabulate m (λ j. get_or s (slot_at k q ((e.head + j) % k)) d)) (queued-take k e h n)
      ∙ rw (
        first,
        tabulate-same (queued k (head_on k e)) (λ j. get_or s (slot_at k q ((e.head + suc j) % k)) d) (λ j. get_or s (slot_at k q ((after k e.head + j) % k)) d)
            (λ j l. ap (λ (m : ℕ). get_or s (slot_at k q m) d) (sym (mod-after k e.head j))),
      )
    where
      first : (e.head + 0) % k ≡ e.head
      first = mod-eq_of_lt {n = e.head + 0} (omega (arith, h.head)) ∙ omega arith

module _ {A : Type 0} (d : A) (k : ℕ) (r : Rings A) (q : ℕ) where
  pub length-queue : length (queue d k r q) ≡ queued k (ends_at r.ends q)
  unfolding queue
  length-queue = length-tabulate (queued k (ends_at r.ends q)) (λ n. get_or r.slots (slot_at k q (((ends_at r.ends q).head + n) % k)) d)

  pub queue-damaged : ¬ (Sound k (ends_at r.ends q)) → queue d k r q ≡ []
  queue-damaged n = no-members (queue d k r q) (length-queue ∙ queued-damaged k (ends_at r.ends q) n)

  -- of sound ends its length is the count
  pub length-count : Sound k (ends_at r.ends q) → length (queue d k r q) ≡ (ends_at r.ends q).count
  length-count h = length-queue ∙ queued-count k (ends_at r.ends q) h

  pub queue-empty : Sound k (ends_at r.ends q) → Empty (ends_at r.ends q) ↔ (queue d k r q ≡ [])
  queue-empty h = (
    λ e. no-members (queue d k r q) (length-count h ∙ e),
    λ n. sym (length-count h) ∙ ap length n,
  )

  pub queue-cleared : 0 < k → ends_at r.ends q ≡ filled_ends k 0 → queue d k r q ≡ []
  queue-cleared h e = (queue-empty (rw e (filled-sound k 0 h (omega arith)))).0 (rw e)

  pub queue-full : Sound k (ends_at r.ends q) → Full k (ends_at r.ends q) ↔ (length (queue d k r q) ≡ capacity k)
  queue-full h = (
    λ f. length-count h ∙ f ∙ sym (capacity-is k),
    λ e. sym (length-count h) ∙ e ∙ capacity-is k,
  )

  pub queue-most : Sound k (ends_at r.ends q) → length (queue d k r q) ≤ capacity k
  queue-most h = omega (arith, length-count h, h.count, capacity-is k)

  -- an append, to this ring and to another
  pub queue-append : (a : A) → Sound k (ends_at r.ends q) → ¬ (Full k (ends_at r.ends q)) → slot_at k q k ≤ length r.slots
      → q * end_words + end_words ≤ length r.ends → queue d k (appended_at k q a r) q ≡ queue d k r q ++ (a ∷ [])
  unfolding queue appended_at
  queue-append a h n room ends =
      rw (ends-stored r.ends q (tail_on k (ends_at r.ends q)) ends) (items-append d k q r.slots (ends_at r.ends q) a h n room)

  pub queue-append-other : (a : A) (o : ℕ) → ¬ (o ≡ q) → (ends_at r.ends q).tail < k → queue d k (appended_at k q a r) o ≡ queue d k r o
  unfolding queue appended_at
  queue-append-other a o n h =
      rw (ends-other r.ends q o (tail_on k (ends_at r.ends q)) n)
      (tabulate-same (queued k (ends_at r.ends o)) _ _
      (λ m l. get_or-set_other r.slots (slot_at k q (ends_at r.ends q).tail) (slot_at k o (((ends_at r.ends o).head + m) % k)) a d
      (slots_apart k o q (((ends_at r.ends o).head + m) % k) (ends_at r.ends q).tail (mod-lt ((ends_at r.ends o).head + m) (omega (arith, h))) h n)))

  -- a take, from this ring and from another
  pub queue-take : Sound k (ends_at r.ends q) → ¬ (Empty (ends_at r.ends q)) → q * end_words + end_words ≤ length r.ends
      → queue d k r q ≡ (taken_at d k q r).item ∷ queue d k (rings_of r.slots (taken_at d k q r).ends) q
  unfolding queue taken_at
  queue-take h n ends =
      rw (ends-stored r.ends q (head_on k (ends_at r.ends q)) ends) (items-take d k q r.slots (ends_at r.ends q) h n)

  pub queue-take-other : (o : ℕ) → ¬ (o ≡ q) → queue d k (rings_of r.slots (taken_at d k q r).ends) o ≡ queue d k r o
  unfolding queue taken_at
  queue-take-other o n = rw (ends-other r.ends q o (head_on k (ends_at r.ends q)) n)
