-- Laws of a ring's ends: how they are stored, what the tests on them tell, how a take and an append move them, and which slots are used.
use Prim.Native.Nat.{ℕ, suc, ◌+◌, ◌-◌, ◌*◌, ◌%◌, ◌≤◌, ◌<◌}
use mathlib.Core.Path.{◌≡◌, refl, sym, ap, ◌∙◌}
use mathlib.Core.Bool.{true, false, ◌&&◌}
use mathlib.Core.List.{List}
use native.Mathlib.Omega.{arith}
use native.Mathlib.Decide.{ℕ_discrete, dec_lt}
use native.Mathlib.Nat.{mod-lt, mod-eq_of_lt, mod-add-mod}
use borrow.Author.Tests.{ltb-true, lt-ltb, leb-true, le-leb, eqb-true, eq-eqb}
use lib.Dec.{ltb, leb, eqb}
use lib.ListN.{length, get_or, set, length-set}
use lib.Seq.{get_or-set_same, get_or-set_other, lt-length-set, set-set, set_comm, set-get_or}
use Rattle.lists.specs.Circles.{after}
use Rattle.lists.proofs.Told.{Told, told, same-told, told-true, told-false, and-true}
use Rattle.lists.proofs.Apart.{true-and-false}
use Rattle.lists.proofs.Circles.{after-lt, mod-far, mod-after}
use Rattle.task.specs.declared.Ends.{Ends}
use Rattle.ring.specs.Ring.{capacity, end_words, ends_at, store_ends, Sound, Empty, Full, sound, empty, full, head_on, tail_on, filled_ends, queued}

-- "holds K tasks"
pub capacity-is : (k : ℕ) → capacity k ≡ k
unfolding capacity
capacity-is k = refl

pub ends_same : (e f : Ends) → e.head ≡ f.head → e.tail ≡ f.tail → e.count ≡ f.count → e ≡ f
ends_same e f a b c =
    ap (λ (h : ℕ). record { head = h; tail = e.tail; count = e.count }) a
    ∙ ap (λ (t : ℕ). record { head = f.head; tail = t; count = e.count }) b
    ∙ ap (λ (n : ℕ). record { head = f.head; tail = f.tail; count = n }) c

-- The words of the ends.
module _ (words : List ℕ) (q : ℕ) where
  -- the words with the first of the three stored, with the first two
  abbrev pub one : Ends → List ℕ
  one e = set words (q * 3) e.head

  abbrev pub two : Ends → List ℕ
  two e = set (one e) (q * 3 + 1) e.tail

  pub length-stored : (e : Ends) → length (store_ends words q e) ≡ length words
  unfolding store_ends
  length-stored e =
      length-set (two e) (q * 3 + 2) e.count ∙ length-set (one e) (q * 3 + 1) e.tail ∙ length-set words (q * 3) e.head

  -- the words stored behind the first one lie within the list
  pub second-inside : (e : Ends) → q * end_words + end_words ≤ length words → q * 3 + 1 < length (one e)
  second-inside e h = lt-length-set words (q * 3) e.head (omega arith)

  pub third-inside : (e : Ends) → q * end_words + end_words ≤ length words → q * 3 + 2 < length (two e)
  third-inside e h = lt-length-set (one e) (q * 3 + 1) e.tail (lt-length-set words (q * 3) e.head (omega arith))

  -- a word that isn't one of the three
  stored-elsewhere : (e : Ends) (i : ℕ) → ¬ (i ≡ q * 3) → ¬ (i ≡ q * 3 + 1) → ¬ (i ≡ q * 3 + 2)
      → get_or (store_ends words q e) i 0 ≡ get_or words i 0
  unfolding store_ends
  stored-elsewhere e i a b c =
      get_or-set_other (two e) (q * 3 + 2) i e.count 0 c
      ∙ get_or-set_other (one e) (q * 3 + 1) i e.tail 0 b
      ∙ get_or-set_other words (q * 3) i e.head 0 a

  pub ends-stored : (e : Ends) → q * end_words + end_words ≤ length words → ends_at (store_ends words q e) q ≡ e
  unfolding ends_at store_ends
  ends-stored e h =
      rw (
        get_or-set_other (two e) (q * 3 + 2) (q * 3) e.count 0 (λ n. omega arith),
        get_or-set_other (one e) (q * 3 + 1) (q * 3) e.tail 0 (λ n. omega arith),
        get_or-set_same words (q * 3) e.head 0 (omega arith),
        get_or-set_other (two e) (q * 3 + 2) (q * 3 + 1) e.count 0 (λ n. omega arith),
        get_or-set_same (one e) (q * 3 + 1) e.tail 0 (second-inside e h),
        get_or-set_same (two e) (q * 3 + 2) e.count 0 (third-inside e h),
      )

  pub ends-other : (r : ℕ) (e : Ends) → ¬ (r ≡ q) → ends_at (store_ends words q e) r ≡ ends_at words r
  unfolding ends_at
  ends-other r e n =
      rw (
        stored-elsewhere e (r * 3) (λ m. n (omega arith)) (λ m. omega arith) (λ m. omega arith),
        stored-elsewhere e (r * 3 + 1) (λ m. omega arith) (λ m. n (omega arith)) (λ m. omega arith),
        stored-elsewhere e (r * 3 + 2) (λ m. omega arith) (λ m. omega arith) (λ m. n (omega arith)),
      )

  -- the ends before put back
  pub ends-back : (e : Ends) → store_ends (store_ends words q e) q (ends_at words q) ≡ words
  unfolding store_ends ends_at
  ends-back e =
      ap (λ (l : List ℕ). set (set l (q * 3 + 1) t) (q * 3 + 2) c)
      (set_comm (two e) (q * 3 + 2) (q * 3) e.count h (λ n. omega arith)
      ∙ ap (λ (l : List ℕ). set l (q * 3 + 2) e.count)
      (set_comm (one e) (q * 3 + 1) (q * 3) e.tail h (λ n. omega arith)
      ∙ ap (λ (l : List ℕ). set l (q * 3 + 1) e.tail) (set-set words (q * 3) e.head h ∙ set-get_or words (q * 3) 0)))
      ∙ ap (λ (l : List ℕ). set l (q * 3 + 2) c)
      (set_comm (set words (q * 3 + 1) e.tail) (q * 3 + 2) (q * 3 + 1) e.count t (λ n. omega arith)
      ∙ ap (λ (l : List ℕ). set l (q * 3 + 2) e.count) (set-set words (q * 3 + 1) e.tail t ∙ set-get_or words (q * 3 + 1) 0))
      ∙ set-set words (q * 3 + 2) e.count c
      ∙ set-get_or words (q * 3 + 2) 0
    where
      h : ℕ
      h = get_or words (q * 3) 0

      t : ℕ
      t = get_or words (q * 3 + 1) 0

      c : ℕ
      c = get_or words (q * 3 + 2) 0

  -- words that are all 0 are the ends of a ring that nothing was put into
  pub ends-cleared : (k : ℕ) → 0 < k → ((x : ℕ) → ◌≡◌ {A = ℕ} (get_or words x 0) 0) → ends_at words q ≡ filled_ends k 0
  unfolding ends_at
  ends-cleared k h z = rw (z (q * 3), z (q * 3 + 1), z (q * 3 + 2), mod-eq_of_lt {n = 0} {m = k} h)

-- ends stored that are sound: those of all n rings are as before
pub stored-sound : (k n : ℕ) (words : List ℕ) (q : ℕ) (e : Ends) → length words ≡ n * end_words → ((r : ℕ) → r < n → Sound k (ends_at words r)) → Sound k e
    → (r : ℕ) → r < n → Sound k (ends_at (store_ends words q e) r)
stored-sound k n words q e size before s r h = go (ℕ_discrete r q)
  where
    go : Dec (r ≡ q) → Sound k (ends_at (store_ends words q e) r)
    go (yes c) = rw (c, ends-stored words q e (omega (arith, size, h, c))) s
    go (no c) = rw (ends-other words q r e c) (before r h)

-- What the tests tell.
pub sound-told : (k : ℕ) (e : Ends) → Told (sound k e) (Sound k e) (¬ (Sound k e))
unfolding sound
sound-told k e = told (sound k e) yes-sound no-sound
  where
    is_true : Sound k e → sound k e ≡ true
    is_true s =
        rw (lt-ltb e.head k s.head, lt-ltb e.tail k s.tail, le-leb e.count k s.count)
        (eq-eqb ((e.head + e.count) % k) e.tail s.leads)

    yes-sound : sound k e ≡ true → Sound k e
    yes-sound t =
        let (r, d) = and-true (ltb e.head k && ltb e.tail k && leb e.count k) (eqb ((e.head + e.count) % k) e.tail) t in
        let (s, c) = and-true (ltb e.head k && ltb e.tail k) (leb e.count k) r in
        let (a, b) = and-true (ltb e.head k) (ltb e.tail k) s in
        record {
          head = ltb-true e.head k a;
          tail = ltb-true e.tail k b;
          count = leb-true e.count k c;
          leads = eqb-true ((e.head + e.count) % k) e.tail d;
        }

    no-sound : sound k e ≡ false → ¬ (Sound k e)
    no-sound f s = true-and-false (is_true s) f

pub empty-told : (e : Ends) → Told (empty e) (Empty e) (¬ (Empty e))
unfolding empty
empty-told e = same-told e.count 0

pub full-told : (k : ℕ) (e : Ends) → Told (full k e) (Full k e) (¬ (Full k e))
unfolding full
full-told k e = same-told e.count k

-- Ends moved on.
module _ (k : ℕ) (e : Ends) where
  pub sound-append : Sound k e → ¬ (Full k e) → Sound k (tail_on k e)
  unfolding tail_on after
  sound-append s n =
      record {
        head = s.head;
        tail = mod-lt (e.tail + 1) (omega (arith, s.head));
        count = omega (arith, s.count, n);
        leads = sym (ap (λ (t : ℕ). (t + 1) % k) (sym s.leads) ∙ mod-add-mod (e.head + e.count) k 1 ∙ ap (λ (x : ℕ). x % k) (omega arith));
      }

  pub sound-take : Sound k e → ¬ (Empty e) → Sound k (head_on k e)
  unfolding head_on
  sound-take s n =
      record {
        head = after-lt k e.head (omega (arith, s.head));
        tail = s.tail;
        count = omega (arith, s.count);
        leads = mod-after k e.head (e.count - 1) ∙ ap (λ (c : ℕ). (e.head + c) % k) (omega (arith, n)) ∙ s.leads;
      }

  pub queued-damaged : ¬ (Sound k e) → queued k e ≡ 0
  unfolding queued
  queued-damaged n = go (sound-told k e)
    where
      go : Told (sound k e) (Sound k e) (¬ (Sound k e)) → queued k e ≡ 0
      go (told-true t s) = absurd (n s)
      go (told-false f m) = rw f

  pub queued-count : Sound k e → queued k e ≡ e.count
  unfolding queued
  queued-count s = go (sound-told k e)
    where
      go : Told (sound k e) (Sound k e) (¬ (Sound k e)) → queued k e ≡ e.count
      go (told-true t m) = rw t
      go (told-false f n) = absurd (n s)

-- Ends that are sound: how many items an append and a take leave, and that in a ring that isn't full no item stands
-- in the slot after the last one.
module _ (k : ℕ) (e : Ends) (s : Sound k e) where
  pub queued-append : ¬ (Full k e) → queued k (tail_on k e) ≡ suc (queued k e)
  unfolding tail_on
  queued-append n = queued-count k (tail_on k e) (sound-append k e s n) ∙ ap (λ (c : ℕ). c + 1) (sym (queued-count k e s)) ∙ omega arith

  pub queued-take : ¬ (Empty e) → queued k e ≡ suc (queued k (head_on k e))
  unfolding head_on
  queued-take n = queued-count k e s ∙ omega (arith, n) ∙ ap suc (sym (queued-count k (head_on k e) (sound-take k e s n)))

  pub slot-free : (e.head + queued k e) % k ≡ e.tail
  slot-free = rw (queued-count k e s) s.leads

  pub slot-used : ¬ (Full k e) → (n : ℕ) → n < queued k e → ¬ ((e.head + n) % k ≡ e.tail)
  slot-used room n l c = go (dec_lt (e.head + e.count) k) (dec_lt (e.head + n) k)
    where
      few : n < e.count
      few = omega (arith, l, queued-count k e s)

      below : e.count < k
      below = omega (arith, room, s.count)

      same : (e.head + n) % k ≡ (e.head + e.count) % k
      same = c ∙ sym s.leads

      go : Dec (e.head + e.count < k) → Dec (e.head + n < k) → ⊥
      go (yes h) (yes m) = omega (arith, few, same, mod-eq_of_lt {n = e.head + n} m, mod-eq_of_lt {n = e.head + e.count} h)
      go (yes h) (no m) = omega (arith, few, h, m)
      go (no h) (yes m) =
          omega (arith, few, below, same, mod-eq_of_lt {n = e.head + n} m, mod-far k e.head e.count s.head below (omega arith))
      go (no h) (no m) =
          omega (
            arith,
            few,
            same,
            mod-far k e.head n s.head (omega (arith, few, below)) (omega arith),
            mod-far k e.head e.count s.head below (omega arith),
          )

-- A ring that is filled from slot 0 on.
module _ (k n : ℕ) where
  pub filled-sound : 0 < k → n ≤ k → Sound k (filled_ends k n)
  filled-sound h l = record { head = h; tail = mod-lt n h; count = l; leads = ap (λ (c : ℕ). c % k) (omega arith) }

  -- a ring that holds all n of them: were they too many, it would hold none
  pub filled-queued : 0 < k → queued k (filled_ends k n) ≡ n → Sound k (filled_ends k n)
  filled-queued h e = go (sound-told k (filled_ends k n))
    where
      go : Told (sound k (filled_ends k n)) (Sound k (filled_ends k n)) (¬ (Sound k (filled_ends k n))) → Sound k (filled_ends k n)
      go (told-true t s) = s
      go (told-false f m) = filled-sound h (omega (arith, e, queued-damaged k (filled_ends k n) m))

  pub filled-append : tail_on k (filled_ends k n) ≡ filled_ends k (n + 1)
  unfolding tail_on after
  filled-append = rw (mod-add-mod n k 1)
