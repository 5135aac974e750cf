-- Laws over plain lists and numbers that the functions' proofs cite.
use Prim.Native.Nat.{ℕ, ◌+◌, ◌-◌, ◌*◌, ◌%◌, ◌≤◌, ◌<◌}
use mathlib.Core.Path.{◌≡◌, refl, sym, ◌∙◌}
use mathlib.Core.Bool.{Bool, true, false, ◌&&◌}
use mathlib.Core.List.{List}
use lib.Dec.{ltb, eqb}
use lib.ListN.{length, set}
use native.Mathlib.Omega.{arith}
use native.Mathlib.Nat.{mod-lt, mod-eq_of_lt}
use borrow.Author.Tests.{lt-ltb, le-ltb, lt-leb, le-leb, eq-eqb, ne_eqb}
use Rattle.lists.specs.Circles.{after}
use Rattle.lists.proofs.Told.{Told, told-true, told-false, same-told}
use Rattle.task.specs.declared.Ends.{Ends}
use Rattle.ring.specs.Ring.{Empty, sound, empty, slot_at, ends_at, store_ends, head_on, tail_on, rings_of, appended_at, Inside}

and-false : (b : Bool) → (b && false) ≡ false
and-false true = refl
and-false false = refl

and_right : (b : Bool) → (b && true) ≡ b
and_right true = refl
and_right false = refl

-- With the slot after an end computed beforehand.
module _ (k x : ℕ) (e : Ends) where
  pub tail-made : x ≡ after k e.tail → record { head = e.head; tail = x; count = e.count + 1 } ≡ tail_on k e
  unfolding tail_on
  tail-made h = rw h

  pub head-made : x ≡ after k e.head → record { head = x; tail = e.tail; count = e.count - 1 } ≡ head_on k e
  unfolding head_on
  head-made h = rw h

-- The tests of a ring's ends, one after the other; x is the slot that head plus count leads to.
module _ (k : ℕ) (e : Ends) where
  pub sound-head : k ≤ e.head → false ≡ sound k e
  unfolding sound
  sound-head h = rw (le-ltb e.head k h) refl

  module _ (h : e.head < k) where
    pub sound-count : k < e.count → false ≡ sound k e
    unfolding sound
    sound-count c = rw (lt-ltb e.head k h, lt-leb e.count k c, and-false (ltb e.tail k)) refl

    pub sound-tail : e.count ≤ k → (x : ℕ) → x ≡ (e.head + e.count) % k → eqb x e.tail ≡ sound k e
    unfolding sound
    sound-tail c x reached = rw (lt-ltb e.head k h, le-leb e.count k c, and_right (ltb e.tail k), reached) (below (same-told ((e.head + e.count) % k) e.tail))
      where
        leads : Bool
        leads = eqb ((e.head + e.count) % k) e.tail

        below : Told leads ((e.head + e.count) % k ≡ e.tail) (¬ ((e.head + e.count) % k ≡ e.tail)) → leads ≡ (ltb e.tail k && leads)
        below (told-true v l) = rw (v, lt-ltb e.tail k (rw (← l) (mod-lt (e.head + e.count) (omega (arith, h)))))
        below (told-false v l) = rw (v, and-false (ltb e.tail k))

  -- The two tests together: of a ring that isn't empty, and of an empty one, which is sound where head is a slot and tail the same one.
  pub some-there : ¬ (Empty e) → false ≡ (sound k e && empty e)
  unfolding empty
  some-there n = rw (ne_eqb e.count 0 n, and-false (sound k e))

  module _ (none : Empty e) where
    pub none-there : (b : Bool) → b ≡ sound k e → b ≡ (sound k e && empty e)
    unfolding empty
    none-there b h = rw (h, eq-eqb e.count 0 none, and_right (sound k e))

    pub ends-meet : e.head < k → eqb e.head e.tail ≡ (sound k e && empty e)
    ends-meet h = none-there _ (sound-tail h (omega (arith, none)) e.head leads)
      where
        leads : e.head ≡ (e.head + e.count) % k
        leads = sym (mod-eq_of_lt {n = e.head + e.count} {m = k} (omega (arith, none, h)) ∙ omega (arith, none))

-- Ring q of all rings.
module _ (slots ends : List ℕ) (k q : ℕ) where
  pub ring-room : Inside k q (rings_of slots ends) → q * k + k ≤ length slots
  unfolding slot_at
  ring-room i = i.slots

  -- its ends, and the slot that an append answers with
  module _ (e : Ends) (x : ℕ) (read : e ≡ ends_at ends q) (slot : x ≡ e.tail) where
    pub slot-inside : Inside k q (rings_of slots ends) → e.tail < k → q * k + x < length slots
    slot-inside i h = omega (arith, ring-room i, slot, h)

    pub append-in-made : (new : List ℕ) (a : ℕ) → new ≡ store_ends ends q (tail_on k e)
        → rings_of (set slots (q * k + x) a) new ≡ appended_at k q a (rings_of slots ends)
    unfolding appended_at slot_at
    append-in-made new a h = rw (h, slot, read)
