-- For lists that hold each of the items once, the exchanges are as many as the pairs of items that the two lists order differently.
use Prim.Native.Nat.{ℕ, ◌+◌, ◌*◌, ◌≤◌, ◌<◌}
use mathlib.Core.Path.{◌≡◌, refl, sym, ◌∙◌}
use mathlib.Core.Bool.{Bool, true, false, cond, not}
use mathlib.Core.List.{List, [], ◌∷◌}
use native.Mathlib.Omega.{arith}
use native.Mathlib.Decide.{dec_lt}
use native.Mathlib.Nat.{zero-mul, one-mul, lt_irrefl}
use lib.Dec.{ltb}
use borrow.Author.Tests.{lt-ltb, le-ltb}
use Rattle.lists.specs.Decided.{tally}
use Rattle.lists.specs.Lists.{occ_of, place_of}
use Rattle.lists.specs.Sums.{sum_of}
use Rattle.lists.proofs.Decided.{tally-no}
use Rattle.lists.proofs.Occurrences.{occ-cons, occ-hit, occ-apart}
use Rattle.lists.proofs.Sums.{sum_of-add, sum_of-same, sum_of-both}
use Rattle.lists.proofs.Positions.{place-apart, earlier, earlier-skip, earlier-first, earlier-none}
use Rattle.exchange.specs.Pairs.{differently, bit, pairs_differing}
use Rattle.exchange.proofs.Counts.{ahead, differ, crossing}

module _ {A : Type 0} (same : Discrete A) where
  ahead-sum : (x : A) (l b : List A) → ahead same x l b ≡ sum_of (λ z. earlier same z x b) l
  unfolding ahead sum_of
  ahead-sum x [] b = refl
  ahead-sum x (z ∷ l) b = omega (arith, ahead-sum x l b)

  -- nothing comes before the first; the first comes before all others; it leaves their order
  module _ (w : A) (a b : List A) where
    crossing-none : (x : A) → crossing same (w ∷ a) b x w ≡ 0
    crossing-none x = rw (earlier-none same x w a) (zero-mul (earlier same w x b))

    crossing-first : (z : A) → ¬ (z ≡ w) → crossing same (w ∷ a) b w z ≡ earlier same z w b
    crossing-first z n = rw (earlier-first same w z a n) (one-mul (earlier same z w b))

    crossing-rest : (x z : A) → ¬ (x ≡ w) → ¬ (z ≡ w) → crossing same (w ∷ a) b x z ≡ crossing same a b x z
    crossing-rest x z n m = rw (earlier-skip same x z w a n m)

  -- the pairs as a sum over all ordered pairs of the list's items
  differ-sum : (a b : List A) → ((t : A) → occ_of same t a ≤ 1) → differ same a b ≡ sum_of (λ x. sum_of (crossing same a b x) a) a
  unfolding differ sum_of
  differ-sum [] b one = refl
  differ-sum (w ∷ a) b one =
      omega (
        arith,
        ahead-sum w a b,
        crossing-none w a b w,
        sum_of-same same (crossing same (w ∷ a) b w) (λ z. earlier same z w b) a (λ z h. crossing-first w a b z (other z h)),
        differ-sum a b (λ t. omega (arith, one t, occ-cons same t w a)),
        sum_of-same same (λ x. crossing same (w ∷ a) b x w + sum_of (crossing same (w ∷ a) b x) a) (λ x. sum_of (crossing same a b x) a) a rest,
      )
    where
      other : (x : A) → 0 < occ_of same x a → ¬ (x ≡ w)
      other x h = occ-apart same x w a h (omega (arith, one w, occ-hit same w w a refl))

      rest : (x : A) → 0 < occ_of same x a → crossing same (w ∷ a) b x w + sum_of (crossing same (w ∷ a) b x) a ≡ sum_of (crossing same a b x) a
      rest x h =
          omega (
            arith,
            crossing-none w a b x,
            sum_of-same same (crossing same (w ∷ a) b x) (crossing same a b x) a (λ z g. crossing-rest w a b x z (other x h) (other z g)),
          )

-- the test and the decided question agree
less-bit : (i j : ℕ) → tally (dec_lt i j) ≡ bit (ltb i j)
less-bit i j = go (dec_lt i j)
  where
    go : (d : Dec (i < j)) → tally d ≡ bit (ltb i j)
    go (yes h) = rw (lt-ltb i j h)
    go (no n) = rw (le-ltb i j (omega arith))

-- of two different numbers one is smaller
more-bit : (i j : ℕ) → ¬ (i ≡ j) → tally (dec_lt j i) ≡ bit (not (ltb i j))
more-bit i j m = go (dec_lt j i)
  where
    go : (d : Dec (j < i)) → tally d ≡ bit (not (ltb i j))
    go (yes h) = rw (le-ltb i j (omega arith))
    go (no n) = rw (lt-ltb i j (omega arith))

one-of-both : (p q : Bool) → bit (not p) * bit q + bit p * bit (not q) ≡ bit (cond p (not q) q)
one-of-both true true = refl
one-of-both true false = refl
one-of-both false true = refl
one-of-both false false = refl

module _ {A : Type 0} (same : Discrete A) (a b : List A) where
  abbrev cross : A → A → ℕ
  cross = crossing same a b

  -- a pair is ordered differently if it crosses one way or the other
  pub cross-pair : (u t : A) → ¬ (u ≡ t) → 0 < occ_of same u a → 0 < occ_of same u b → cross t u + cross u t ≡ bit (differently same a b u t)
  unfolding differently
  cross-pair u t n h g =
      rw (
        less-bit (place_of same u a) (place_of same t a),
        less-bit (place_of same u b) (place_of same t b),
        more-bit (place_of same u a) (place_of same t a) (place-apart same u t a h n),
        more-bit (place_of same u b) (place_of same t b) (place-apart same u t b g n),
      ) (one-of-both (ltb (place_of same u a) (place_of same t a)) (ltb (place_of same u b) (place_of same t b)))

  cross-self : (t : A) → cross t t ≡ 0
  cross-self t = rw (tally-no (dec_lt (place_of same t a) (place_of same t a)) (lt_irrefl (place_of same t a))) (zero-mul (earlier same t t b))

  -- the sum over all ordered pairs, as one over the unordered
  cross-pairs : (items : List A) → ((t : A) → occ_of same t items ≤ 1) → ((t : A) → 0 < occ_of same t items → (0 < occ_of same t a) × (0 < occ_of same t b))
      → sum_of (λ x. sum_of (cross x) items) items ≡ pairs_differing same items a b
  unfolding pairs_differing sum_of
  cross-pairs [] one held = refl
  cross-pairs (u ∷ items) one held =
      omega (
        arith,
        cross-self u,
        sum_of-add (λ x. cross x u) (λ x. sum_of (cross x) items) items,
        sum_of-add (λ x. cross x u) (cross u) items,
        sum_of-same same (λ x. cross x u + cross u x) (λ t. bit (differently same a b u t)) items both,
        cross-pairs items (λ t. omega (arith, one t, occ-cons same t u items)) (λ t h. held t (omega (arith, h, occ-cons same t u items))),
      )
    where
      here : (0 < occ_of same u a) × (0 < occ_of same u b)
      here = held u (omega (arith, occ-hit same u u items refl))

      both : (t : A) → 0 < occ_of same t items → cross t u + cross u t ≡ bit (differently same a b u t)
      both t h =
          cross-pair u t (λ e. occ-apart same t u items h (omega (arith, one u, occ-hit same u u items refl)) (sym e)) here.0 here.1

-- lists that hold the items that are wanted, each once
module _ {A : Type 0} (same : Discrete A) (want : A → ℕ) (one : (t : A) → want t ≤ 1) (items a b : List A)
    (all : (t : A) → occ_of same t items ≡ want t) (p : (t : A) → occ_of same t a ≡ want t) (q : (t : A) → occ_of same t b ≡ want t) where
  pub held : (t : A) → 0 < occ_of same t items → (0 < occ_of same t a) × (0 < occ_of same t b)
  held t h = (omega (arith, h, all t, p t), omega (arith, h, all t, q t))

  pub differ-pairs : differ same a b ≡ pairs_differing same items a b
  differ-pairs =
      differ-sum same a b (λ t. omega (arith, p t, one t))
      ∙ sum_of-both same (λ x. sum_of (crossing same a b x) a) a items (λ t. p t ∙ sym (all t))
      ∙ sum_of-same same (λ x. sum_of (crossing same a b x) a) (λ x. sum_of (crossing same a b x) items) items
      (λ x h. sum_of-both same (crossing same a b x) a items (λ t. p t ∙ sym (all t)))
      ∙ cross-pairs same a b items (λ t. omega (arith, all t, one t)) held
