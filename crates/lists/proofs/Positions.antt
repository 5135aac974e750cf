-- Laws of the place where an item first stands in a list.
use Prim.Native.Nat.{ℕ, zero, suc, ◌+◌, ◌≤◌, ◌<◌}
use mathlib.Core.Path.{◌≡◌, refl, sym, ◌∙◌}
use mathlib.Core.List.{List, [], ◌∷◌, ◌++◌}
use native.Mathlib.Omega.{arith}
use native.Mathlib.Decide.{dec_lt}
use lib.ListN.{length, get_or}
use Rattle.lists.specs.Lists.{occ_of, place_of}
use Rattle.lists.specs.Decided.{tally, stop}
use Rattle.lists.proofs.Decided.{tally-yes, tally-no, tally-same}
use Rattle.lists.proofs.Occurrences.{occ-cons, occ-hit, occ-miss, occ-append}

module _ {A : Type 0} (same : Discrete A) where
  place-hit : (a x : A) (l : List A) → a ≡ x → place_of same a (x ∷ l) ≡ 0
  unfolding place_of
  place-hit a x l e = go (same a x)
    where
      go : (d : Dec (a ≡ x)) → stop d (place_of same a l) ≡ 0
      go (yes q) = refl
      go (no n) = absurd (n e)

  place-miss : (a x : A) (l : List A) → ¬ (a ≡ x) → place_of same a (x ∷ l) ≡ suc (place_of same a l)
  unfolding place_of
  place-miss a x l m = go (same a x)
    where
      go : (d : Dec (a ≡ x)) → stop d (place_of same a l) ≡ suc (place_of same a l)
      go (yes q) = absurd (m q)
      go (no n) = refl

  pub place-member : (a : A) (l : List A) → 0 < occ_of same a l → place_of same a l < length l
  unfolding occ_of
  place-member a [] h = absurd (omega arith)
  place-member a (x ∷ l) h = go (same a x) (place-member a l)
    where
      go : Dec (a ≡ x) → (0 < occ_of same a l → place_of same a l < length l) → place_of same a (x ∷ l) < suc (length l)
      go (yes e) r = omega (arith, place-hit a x l e)
      go (no n) r = omega (arith, place-miss a x l n, r (omega (arith, occ-miss same a x l n)))

  -- what stands at an item's place, and that no earlier place has it
  pub place_at : (d a : A) (l : List A) → 0 < occ_of same a l → get_or l (place_of same a l) d ≡ a
  unfolding occ_of
  place_at d a [] h = absurd (omega arith)
  place_at d a (x ∷ l) h = go (same a x) (place_at d a l)
    where
      go : Dec (a ≡ x) → (0 < occ_of same a l → get_or l (place_of same a l) d ≡ a) → get_or (x ∷ l) (place_of same a (x ∷ l)) d ≡ a
      go (yes e) f = rw (place-hit a x l e) (sym e)
      go (no n) f = rw (place-miss a x l n) (f (omega (arith, occ-miss same a x l n)))

  pub place-least : (d : A) (l : List A) (x : ℕ) → x < length l → place_of same (get_or l x d) l ≤ x
  place-least d [] x h = absurd (omega arith)
  place-least d (y ∷ l) zero h = omega (arith, place-hit y y l refl)
  place-least d (y ∷ l) (suc x) h = go (same (get_or l x d) y) (place-least d l x (omega (arith, h)))
    where
      go : Dec (get_or l x d ≡ y) → place_of same (get_or l x d) l ≤ x → place_of same (get_or l x d) (y ∷ l) ≤ suc x
      go (yes e) f = omega (arith, place-hit (get_or l x d) y l e)
      go (no n) f = omega (arith, f, place-miss (get_or l x d) y l n)

  -- two items stand in different places, if either is in the list
  pub place-apart : (u t : A) (l : List A) → 0 < occ_of same u l → ¬ (u ≡ t) → ¬ (place_of same u l ≡ place_of same t l)
  unfolding occ_of
  place-apart u t [] h n e = absurd (omega arith)
  place-apart u t (x ∷ l) h n e = go (same u x) (same t x) (λ m. place-apart u t l m n)
    where
      go : Dec (u ≡ x) → Dec (t ≡ x) → (0 < occ_of same u l → ¬ (place_of same u l ≡ place_of same t l)) → ⊥
      go (yes p) (yes q) r = n (p ∙ sym q)
      go (yes p) (no m) r = omega (arith, place-hit u x l p, place-miss t x l m)
      go (no m) (yes q) r = omega (arith, place-miss u x l m, place-hit t x l q)
      go (no m) (no k) r = r (omega (arith, occ-miss same u x l m)) (omega (arith, place-miss u x l m, place-miss t x l k))

  -- in two lists joined: a place in the first, and that of an item which isn't in the first
  pub place-left : (a : A) (k l : List A) → place_of same a k < length k → place_of same a (k ++ l) ≡ place_of same a k
  place-left a [] l h = absurd (omega arith)
  place-left a (x ∷ k) l h = go (same a x) (place-left a k l)
    where
      go : Dec (a ≡ x) → (place_of same a k < length k → place_of same a (k ++ l) ≡ place_of same a k) → place_of same a (x ∷ (k ++ l)) ≡ place_of same a (x ∷ k)
      go (yes e) r = omega (arith, place-hit a x k e, place-hit a x (k ++ l) e)
      go (no n) r = omega (arith, place-miss a x k n, place-miss a x (k ++ l) n, r (omega (arith, place-miss a x k n)))

  pub place-right : (a : A) (k l : List A) → occ_of same a k ≡ 0 → place_of same a (k ++ l) ≡ length k + place_of same a l
  place-right a [] l h = omega arith
  place-right a (x ∷ k) l h = omega (arith, place-miss a x (k ++ l) other, place-right a k l (omega (arith, occ-miss same a x k other)))
    where
      other : ¬ (a ≡ x)
      other e = omega (arith, h, occ-hit same a x k e)

module _ {A : Type 0} (same : Discrete A) (u t : A) where
  -- u comes before t: its place is smaller
  abbrev pub Before : List A → Type 0
  Before l = place_of same u l < place_of same t l

  -- the same as a number, 1 where u comes before t
  abbrev pub earlier : List A → ℕ
  earlier l = tally (dec_lt (place_of same u l) (place_of same t l))

  -- u comes before t in w ∷ l if t isn't w, and u is w or comes before t in l
  before_head : (w : A) (l : List A) → Before (w ∷ l) → ¬ (t ≡ w)
  before_head w l h e = omega (arith, place-hit same t w l e)

  before-tail : (w : A) (l : List A) → Before (w ∷ l) → ¬ (u ≡ w) → Before l
  before-tail w l h n = omega (arith, place-miss same u w l n, place-miss same t w l (before_head w l h))

  pub before-cons : (w : A) (l : List A) → ¬ (t ≡ w) → (¬ (u ≡ w) → Before l) → Before (w ∷ l)
  before-cons w l m f = go (same u w)
    where
      go : Dec (u ≡ w) → Before (w ∷ l)
      go (yes e) = omega (arith, place-hit same u w l e, place-miss same t w l m)
      go (no n) = omega (arith, f n, place-miss same u w l n, place-miss same t w l m)

  -- the first comes before all others
  pub before-first : (l : List A) → ¬ (t ≡ u) → Before (u ∷ l)
  before-first l n = before-cons u l n (λ m. absurd (m refl))

  -- the same items put in front of two lists
  before-behind : (m k l : List A) → (Before k → Before l) → Before (m ++ k) → Before (m ++ l)
  before-behind [] k l f h = f h
  before-behind (w ∷ m) k l f h =
      before-cons w (m ++ l) (before_head w (m ++ k) h) (λ n. before-behind m k l f (before-tail w (m ++ k) h n))

  -- whatever comes before another stands in the list
  pub before-member : (l : List A) → Before l → 0 < occ_of same u l
  unfolding place_of
  before-member [] h = absurd (omega arith)
  before-member (w ∷ l) h = go (same u w) (before-member l)
    where
      go : Dec (u ≡ w) → (Before l → 0 < occ_of same u l) → 0 < occ_of same u (w ∷ l)
      go (yes e) r = omega (arith, occ-hit same u w l e)
      go (no n) r = omega (arith, occ-miss same u w l n, r (before-tail w l h n))

  -- a member of the first of two lists comes before what isn't in the first
  pub before-joined : (k l : List A) → 0 < occ_of same u k → occ_of same t k ≡ 0 → Before (k ++ l)
  before-joined k l h z =
      omega (arith, place-member same u k h, place-left same u k l (place-member same u k h), place-right same t k l z)

  -- of neighbours in a list without repetition the left one comes first
  pub neighbours-before : (k m : List A) → ((a : A) → occ_of same a (k ++ (u ∷ t ∷ m)) ≤ 1) → Before (k ++ (u ∷ t ∷ m))
  neighbours-before k m one =
      omega (
        arith,
        place-right same u k (u ∷ t ∷ m) (omega (arith, one u, occ-append same u k (u ∷ t ∷ m), occ-hit same u u (t ∷ m) refl)),
        place-right same t k (u ∷ t ∷ m)
            (omega (arith, one t, occ-append same t k (u ∷ t ∷ m), occ-cons same t u (t ∷ m), occ-hit same t t m refl)),
        before-first (t ∷ m) other,
      )
    where
      other : ¬ (t ≡ u)
      other e =
          omega (arith, one u, occ-append same u k (u ∷ t ∷ m), occ-hit same u u (t ∷ m) refl, occ-hit same u t m (sym e))

  -- one item more leaves the order of the others
  pub before_more : (y : A) (k l : List A) → ¬ (t ≡ y) → Before (k ++ l) → Before (k ++ (y ∷ l))
  before_more y k l n = before-behind k l (y ∷ l) (λ h. before-cons y l n (λ q. h))

  -- neighbours change places: every other pair keeps its order
  pub before_swap : (x y : A) (k l : List A) → ¬ ((u ≡ x) × (t ≡ y)) → Before (k ++ (x ∷ y ∷ l)) → Before (k ++ (y ∷ x ∷ l))
  before_swap x y k l n = before-behind k (x ∷ y ∷ l) (y ∷ x ∷ l) go
    where
      go : Before (x ∷ y ∷ l) → Before (y ∷ x ∷ l)
      go h =
          before-cons y (x ∷ l) (λ e. before_head y l (before-tail x (y ∷ l) h (λ q. n (q, e))) e)
          (λ m. before-cons x l (before_head x (y ∷ l) h) (λ q. before-tail y l (before-tail x (y ∷ l) h q) m))

  pub earlier-skip : (w : A) (l : List A) → ¬ (u ≡ w) → ¬ (t ≡ w) → earlier (w ∷ l) ≡ earlier l
  earlier-skip w l n m =
      tally-same (dec_lt (place_of same u (w ∷ l)) (place_of same t (w ∷ l))) (dec_lt (place_of same u l) (place_of same t l))
      (λ h. before-tail w l h n) (λ h. before-cons w l m (λ q. h))

  pub earlier-first : (l : List A) → ¬ (t ≡ u) → earlier (u ∷ l) ≡ 1
  earlier-first l n = tally-yes (dec_lt (place_of same u (u ∷ l)) (place_of same t (u ∷ l))) (before-first l n)

  pub earlier-none : (l : List A) → earlier (t ∷ l) ≡ 0
  earlier-none l = tally-no (dec_lt (place_of same u (t ∷ l)) (place_of same t (t ∷ l))) (λ h. before_head t l h refl)
