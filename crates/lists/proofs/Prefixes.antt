-- Laws of a list that is read from the front: its first i members, one more, all of them; and of a list of equal members.
use Prim.Native.Nat.{ℕ, zero, suc, ◌+◌, ◌-◌, ◌≤◌, ◌<◌}
use mathlib.Core.Path.{◌≡◌, refl, sym, ap, ◌∙◌}
use mathlib.Core.List.{List, [], ◌∷◌, ◌++◌}
use native.Mathlib.Omega.{arith}
use native.Mathlib.Numerals.{add-one}
use native.Mathlib.Nat.{zero-add}
use native.Mathlib.Decide.{ℕ_discrete, dec_lt}
use lib.ListN.{length, get_or, set, take, drop, replicate, get_or-eq_default}
use lib.Seq.{length-take-le, get_or-take, take-suc, take-suc-set, take-take, paste-suc, length-paste}
use Rattle.lists.specs.Decided.{tally}
use Rattle.lists.specs.Lists.{occ}
use Rattle.lists.proofs.Decided.{stable, tally-yes, tally-no}
use Rattle.lists.proofs.Occurrences.{occ-nil, occ-cons, occ-append, occ-split, at-occ}

-- an item alone, and at the end of a list
pub occ-single : (u x : ℕ) → occ u (x ∷ []) ≡ tally (ℕ_discrete u x)
occ-single u x = omega (arith, occ-cons ℕ_discrete u x [], occ-nil ℕ_discrete u)

pub occ-snoc : (u x : ℕ) (l : List ℕ) → occ u (l ++ (x ∷ [])) ≡ occ u l + tally (ℕ_discrete u x)
occ-snoc u x l = omega (arith, occ-append ℕ_discrete u l (x ∷ []), occ-single u x)

-- the first i members and one more
module _ (l : List ℕ) (i : ℕ) (h : i < length l) where
  pub take_more : take (i + 1) l ≡ take i l ++ (get_or l i 0 ∷ [])
  take_more = rw (add-one i) (take-suc l i 0 h)

  pub occ-more : (u : ℕ) → occ u (take (i + 1) l) ≡ occ u (take i l) + tally (ℕ_discrete u (get_or l i 0))
  occ-more u = ap (occ u) take_more ∙ occ-snoc u (get_or l i 0) (take i l)

  pub occ-more-hit : (u : ℕ) → u ≡ get_or l i 0 → occ u (take (i + 1) l) ≡ suc (occ u (take i l))
  occ-more-hit u e = omega (arith, occ-more u, tally-yes (ℕ_discrete u (get_or l i 0)) e)

  pub occ-more-miss : (u : ℕ) → ¬ (u ≡ get_or l i 0) → occ u (take (i + 1) l) ≡ occ u (take i l)
  occ-more-miss u n = omega (arith, occ-more u, tally-no (ℕ_discrete u (get_or l i 0)) n)

-- a store right behind the first i members
module _ (l : List ℕ) (i x : ℕ) (h : i < length l) where
  pub take-store : take (i + 1) (set l i x) ≡ take i l ++ (x ∷ [])
  take-store = rw (add-one i) (take-suc-set l i x h)

  pub occ-store : (u : ℕ) → occ u (take (i + 1) (set l i x)) ≡ occ u (take i l) + tally (ℕ_discrete u x)
  occ-store u = ap (occ u) take-store ∙ occ-snoc u x (take i l)

-- the first i members of one list over those of another, and one more
module _ (from to : List ℕ) (i : ℕ) where
  pub copy_more : i < length from → i < length to → set (take i from ++ drop i to) i (get_or from i 0) ≡ take (i + 1) from ++ drop (i + 1) to
  copy_more h k = rw (zero-add i, zero-add (suc i), ← add-one i) at (paste-suc to 0 from i 0 (omega arith) h)

  pub length-copy : i ≤ length from → i ≤ length to → length (take i from ++ drop i to) ≡ length to
  length-copy h k = rw (zero-add i) at (length-paste to 0 from i (omega arith) h)

-- no more among the first i than among the first k
pub occ-take-le : (l : List ℕ) (i k u : ℕ) → i ≤ k → occ u (take i l) ≤ occ u (take k l)
occ-take-le l i k u h = omega (arith, occ-split ℕ_discrete u i (take k l), ap (occ u) (take-take i k l h))

-- a member of the first n
pub occ-early : (l : List ℕ) (n i : ℕ) → i < n → n ≤ length l → 0 < occ (get_or l i 0) (take n l)
occ-early l n i h m = rw (get_or-take n l i 0 h) at (at-occ ℕ_discrete 0 (take n l) i (omega (arith, length-take-le n l m)))

-- lists with the same first n members have the same first i
pub take_same : (k l : List ℕ) (i n : ℕ) → i ≤ n → take n k ≡ take n l → take i k ≡ take i l
take_same k l i n h e = sym (take-take i n k h) ∙ ap (take i) e ∙ take-take i n l h

-- equal members over the first i of a list, and one more
pub fill_more : {A : Type 0} (a : A) (i : ℕ) (l : List A) → i < length l → set (replicate i a ++ drop i l) i a ≡ replicate (suc i) a ++ drop (suc i) l
fill_more a i [] h = absurd (omega arith)
fill_more a zero (x ∷ l) h = refl
fill_more {A = A} a (suc i) (x ∷ l) h = ap (λ (t : List A). a ∷ t) (fill_more a i l (omega arith))

-- what stands in a list of equal members, and behind its end
pub get_d-equals : {A : Type 0} (n u : ℕ) (a : A) → get_or (replicate n a) u a ≡ a
get_d-equals zero u a = refl
get_d-equals (suc n) zero a = refl
get_d-equals (suc n) (suc u) a = get_d-equals n u a

pub zeros : (n u : ℕ) → ◌≡◌ {A = ℕ} (get_or (replicate n 0) u 0) 0
zeros n u = get_d-equals n u 0

-- a list whose words are all 0, and one whose words from place n on are
all-zeros : (l : List ℕ) → ((x : ℕ) → ◌≡◌ {A = ℕ} (get_or l x 0) 0) → l ≡ replicate (length l) 0
all-zeros [] h = refl
all-zeros (a ∷ l) h = ap (λ (b : ℕ). b ∷ l) (h 0) ∙ ap (λ (k : List ℕ). 0 ∷ k) (all-zeros l (λ x. h (suc x)))

repeated : {k n : ℕ} → k ≡ n → replicate {A = ℕ} k 0 ≡ replicate n 0
repeated e = ap (λ (k : ℕ). replicate k 0) e

pub zeros-behind : (n : ℕ) (l : List ℕ) → ((x : ℕ) → n ≤ x → ◌≡◌ {A = ℕ} (get_or l x 0) 0) → drop n l ≡ replicate (length l - n) 0
zeros-behind zero l h = all-zeros l (λ x. h x (omega arith)) ∙ repeated {k = length l} {n = length l - 0} (omega arith)
zeros-behind (suc n) [] h = repeated {k = 0} {n = 0 - suc n} (omega arith)
zeros-behind (suc n) (a ∷ l) h =
    zeros-behind n l (λ x z. h (suc x) (omega (arith, z))) ∙ repeated {k = length l - n} {n = suc (length l) - suc n} (omega arith)

-- a place where something other than 0 is read lies inside
pub inside : (l : List ℕ) (u : ℕ) → 0 < get_or l u 0 → u < length l
inside l u h = stable (dec_lt u (length l)) (λ m. omega (arith, get_or-eq_default l 0 {n = u} (omega arith)))
