-- The pairs that two lists order differently, counted along the first list, and its laws: what the first item of the second list adds to it.
use Prim.Native.Nat.{ℕ, ◌+◌, ◌*◌, ◌≤◌}
use mathlib.Core.Path.{◌≡◌, refl}
use mathlib.Core.List.{List, [], ◌∷◌, ◌++◌}
use native.Mathlib.Omega.{arith}
use native.Mathlib.Decide.{dec_lt}
use lib.ListN.{length}
use Rattle.lists.specs.Decided.{tally}
use Rattle.lists.specs.Lists.{occ_of, place_of}
use Rattle.lists.proofs.Occurrences.{occ-cons, occ-hit, occ-not-head, occ-not-tail}
use Rattle.lists.proofs.Positions.{earlier, earlier-skip, earlier-first, earlier-none}

module _ {A : Type 0} (same : Discrete A) where
  -- how many of the items in l come before x in b
  unfoldable pub ahead : A → List A → List A → ℕ
  ahead x [] b = 0
  ahead x (z ∷ l) b = tally (dec_lt (place_of same z b) (place_of same x b)) + ahead x l b

  -- how many pairs a and b order differently: x before z in a, z before x in b
  unfoldable pub differ : List A → List A → ℕ
  differ [] b = 0
  differ (x ∷ a) b = ahead x a b + differ a b

  -- 1 if u comes before t in a and t before u in b, else 0
  abbrev pub crossing : List A → List A → A → A → ℕ
  crossing a b u t = tally (dec_lt (place_of same u a) (place_of same t a)) * tally (dec_lt (place_of same t b) (place_of same u b))

module _ {A : Type 0} (same : Discrete A) where
  -- nothing comes before the first
  ahead-head : (x : A) (l b : List A) → ahead same x l (x ∷ b) ≡ 0
  unfolding ahead
  ahead-head x [] b = refl
  ahead-head x (z ∷ l) b = omega (arith, earlier-none same z x b, ahead-head x l b)

  ahead-skip : (x y : A) (l b : List A) → ¬ (x ≡ y) → occ_of same y l ≡ 0 → ahead same x l (y ∷ b) ≡ ahead same x l b
  unfolding ahead
  ahead-skip x y [] b n h = refl
  ahead-skip x y (z ∷ l) b n h =
      omega (arith, earlier-skip same z x y b (occ-not-head same y z l h) n, ahead-skip x y l b n (occ-not-tail same y z l h))

  ahead-around : (x y : A) (k m b : List A) → ahead same x (k ++ (y ∷ m)) b ≡ earlier same y x b + ahead same x (k ++ m) b
  unfolding ahead
  ahead-around x y [] m b = refl
  ahead-around x y (z ∷ k) m b = omega (arith, ahead-around x y k m b)

  differ-skip : (y : A) (l b : List A) → occ_of same y l ≡ 0 → differ same l (y ∷ b) ≡ differ same l b
  unfolding differ
  differ-skip y [] b h = refl
  differ-skip y (x ∷ l) b h =
      omega (arith, ahead-skip x y l b (occ-not-head same y x l h) (occ-not-tail same y x l h), differ-skip y l b (occ-not-tail same y x l h))

  -- the second list's first item y makes a pair with each of the items k that stand before it in the first
  pub differ-first : (y : A) (k m b : List A) → occ_of same y (k ++ m) ≡ 0 → differ same (k ++ (y ∷ m)) (y ∷ b) ≡ length k + differ same (k ++ m) b
  unfolding differ
  differ-first y [] m b h = omega (arith, ahead-head y m b, differ-skip y m b h)
  differ-first y (x ∷ k) m b h =
      omega (
        arith,
        ahead-around x y k m (y ∷ b),
        earlier-first same y x b other,
        ahead-skip x y (k ++ m) b other rest,
        differ-first y k m b rest,
      )
    where
      other : ¬ (x ≡ y)
      other = occ-not-head same y x (k ++ m) h

      rest : occ_of same y (k ++ m) ≡ 0
      rest = occ-not-tail same y x (k ++ m) h

  -- from a list to itself: the exchanges are none
  pub differ_self : (l : List A) → ((a : A) → occ_of same a l ≤ 1) → differ same l l ≡ 0
  unfolding differ
  differ_self [] h = refl
  differ_self (x ∷ l) h = omega (arith, differ-first x [] l l gone, differ_self l (λ a. omega (arith, h a, occ-cons same a x l)))
    where
      gone : occ_of same x l ≡ 0
      gone = omega (arith, h x, occ-hit same x x l refl)
