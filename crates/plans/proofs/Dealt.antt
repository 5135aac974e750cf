-- Laws of a list dealt out to p workers.
use Prim.Native.Nat.{ℕ, zero, suc, ◌+◌, ◌-◌, ◌*◌, ◌%◌, ◌≤◌, ◌<◌}
use mathlib.Core.Path.{◌≡◌, refl, sym, ap, ◌∙◌}
use mathlib.Core.Bool.{Bool, true, false, cond}
use mathlib.Core.Logic.{◌⊎◌, inl, inr}
use mathlib.Core.List.{List, [], ◌∷◌, ◌++◌}
use native.Mathlib.Omega.{arith}
use native.Mathlib.Decide.{ℕ_discrete, dec_lt}
use native.Mathlib.Nat.{add-zero, mod-lt, mod-eq_of_lt, mod-add-mod, add-mod_right, mul_comm, lt_of_mul-lt-mul_right, suc-mul}
use lib.Dec.{eqb}
use lib.ListN.{length}
use borrow.Author.Tests.{eq-eqb, ne_eqb}
use Rattle.lists.specs.Decided.{tally}
use Rattle.lists.specs.Lists.{occ}
use Rattle.lists.specs.Sums.{sum_to}
use Rattle.lists.proofs.Occurrences.{occ-nil, occ-cons}
use Rattle.lists.proofs.Sums.{sum-zero, sum-at}
use Rattle.lists.proofs.Told.{Told, same-told, told-true, told-false}
use Rattle.lists.proofs.Places.{place_same}
use Rattle.lists.proofs.Circles.{mod-far}
use Rattle.ring.specs.Ring.{capacity}
use Rattle.ring.proofs.Ends.{capacity-is}
use Rattle.plans.specs.Memory.{ring_number}
use Rattle.plans.specs.Laying.{dealt, to_ring}

module _ (p : ℕ) (positive : 0 < p) where
  -- ring (i, i) gets what is dealt to i, another ring nothing
  pub to-own : (i n : ℕ) (ts : List ℕ) → i < p → to_ring p (ring_number p i i) n ts ≡ dealt p i n ts
  unfolding to_ring dealt
  to-own i n [] h = refl
  to-own i n (t ∷ ts) h = rw (test (ℕ_discrete (n % p) i), to-own i (n + 1) ts h)
    where
      test : Dec (n % p ≡ i) → eqb (ring_number p (n % p) (n % p)) (ring_number p i i) ≡ eqb (n % p) i
      test (yes e) = eq-eqb _ _ (ap (λ (x : ℕ). ring_number p x x) e) ∙ sym (eq-eqb (n % p) i e)
      test (no m) = ne_eqb _ _ (λ e. m (place_same p (n % p) (n % p) i i (mod-lt n positive) h e).0) ∙ sym (ne_eqb (n % p) i m)

  pub to-other : (i j n : ℕ) (ts : List ℕ) → j < p → ¬ (i ≡ j) → to_ring p (ring_number p i j) n ts ≡ []
  unfolding to_ring
  to-other i j n [] h m = refl
  to-other i j n (t ∷ ts) h m = rw (test, to-other i j (n + 1) ts h m)
    where
      test : eqb (ring_number p (n % p) (n % p)) (ring_number p i j) ≡ false
      test = ne_eqb _ _ (λ e. let s = place_same p (n % p) (n % p) i j (mod-lt n positive) h e in m (omega (arith, s.0, s.1)))

  pub to-any : (i j n : ℕ) (ts : List ℕ) → i < p → j < p → to_ring p (ring_number p i j) n ts ≡ cond (eqb i j) (dealt p i n ts) []
  to-any i j n ts hi hj = go (same-told i j)
    where
      go : Told (eqb i j) (i ≡ j) (¬ (i ≡ j)) → to_ring p (ring_number p i j) n ts ≡ cond (eqb i j) (dealt p i n ts) []
      go (told-true e s) = rw (e, sym s) (to-own i n ts hi)
      go (told-false e m) = rw e (to-other i j n ts hj m)

  -- each member of a list is dealt to one of the p workers
  pub occ-dealt : (t n : ℕ) (ts : List ℕ) → sum_to p (λ i. occ t (dealt p i n ts)) ≡ occ t ts
  unfolding dealt
  occ-dealt t n [] = rw (occ-nil ℕ_discrete t) (sum-zero p (λ i. 0) (λ i h. refl))
  occ-dealt t n (x ∷ ts) =
      omega (
        arith,
        occ-dealt t (n + 1) ts,
        occ-cons ℕ_discrete t x ts,
        sum-at p (λ i. occ t (dealt p i (n + 1) ts)) (λ i. occ t (dealt p i n (x ∷ ts))) (n % p) (mod-lt n positive)
            (λ i m. rw (ne_eqb (n % p) i (λ e. m (sym e)))),
        own,
      )
    where
      own : occ t (dealt p (n % p) n (x ∷ ts)) ≡ tally (ℕ_discrete t x) + occ t (dealt p (n % p) (n + 1) ts)
      own = rw (eq-eqb (n % p) (n % p) refl) (occ-cons ℕ_discrete t x (dealt p (n % p) (n + 1) ts))

  -- d numbers on from n, fewer than p, is another number modulo p
  mod-apart : (n d : ℕ) → suc d < p → ¬ ((n + suc d) % p ≡ n % p)
  mod-apart n d h e = go (dec_lt (n % p + suc d) p)
    where
      go : Dec (n % p + suc d < p) → ⊥
      go (yes l) = omega (arith, e, mod-add-mod n p (suc d), mod-eq_of_lt {n = n % p + suc d} l)
      go (no m) = omega (arith, e, h, mod-add-mod n p (suc d), mod-far p (n % p) (suc d) (mod-lt n positive) h (omega (arith, m)))

  -- what is dealt to i: the first one stands d places on from the list's first member, and then each p-th
  length-dealt : (i n d : ℕ) (ts : List ℕ) → d < p → (n + d) % p ≡ i → length (dealt p i n ts) * p + d < length ts + p
  unfolding dealt
  length-dealt i n d [] h e = omega (arith, h)
  length-dealt i n zero (t ∷ ts) h e =
      rw (eq-eqb (n % p) i hit)
      (omega (arith, h, suc-mul (length (dealt p i (n + 1) ts)) p, length-dealt i (n + 1) (p - 1) ts (omega (arith, h)) (around ∙ hit)))
    where
      hit : n % p ≡ i
      hit = ap (λ (x : ℕ). x % p) (omega arith) ∙ e

      around : (n + 1 + (p - 1)) % p ≡ n % p
      around = ap (λ (x : ℕ). x % p) (omega (arith, h)) ∙ add-mod_right n p
  length-dealt i n (suc d) (t ∷ ts) h e =
      rw (ne_eqb (n % p) i (λ s. mod-apart n d h (omega (arith, e, s))))
      (omega (arith, length-dealt i (n + 1) d ts (omega (arith, h)) (ap (λ (x : ℕ). x % p) (omega arith) ∙ e)))

  -- a ring has room for each worker's share of p times its capacity
  dealt-fits : (k i : ℕ) (ts : List ℕ) → i < p → length ts ≤ p * capacity k → length (dealt p i 0 ts) ≤ k
  dealt-fits k i ts h few = omega (arith, below)
    where
      below : length (dealt p i 0 ts) < suc k
      below =
          lt_of_mul-lt-mul_right p
          (omega (
            arith,
            few,
            length-dealt i 0 i ts h (ap (λ (x : ℕ). x % p) (omega arith) ∙ mod-eq_of_lt h),
            ap (λ (x : ℕ). p * x) (capacity-is k),
            mul_comm p k,
            suc-mul k p,
          ))

  -- one member more: it goes to its own ring
  pub to-snoc : (q n : ℕ) (ts : List ℕ) (t : ℕ)
      → length (to_ring p q n (ts ++ (t ∷ [])))
      ≡ length (to_ring p q n ts) + cond (eqb (ring_number p ((n + length ts) % p) ((n + length ts) % p)) q) 1 0
  unfolding to_ring
  to-snoc q n [] t = rw (add-zero n) (go (eqb (ring_number p (n % p) (n % p)) q))
    where
      go : (b : Bool) → length (cond b (t ∷ []) []) ≡ 0 + cond b 1 0
      go true = refl
      go false = refl
  to-snoc q n (x ∷ ts) t = go (eqb (ring_number p (n % p) (n % p)) q) (to-snoc q (n + 1) ts t ∙ ap added (omega arith))
    where
      added : ℕ → ℕ
      added m = length (to_ring p q (n + 1) ts) + cond (eqb (ring_number p (m % p) (m % p)) q) 1 0

      here : ℕ
      here = cond (eqb (ring_number p ((n + suc (length ts)) % p) ((n + suc (length ts)) % p)) q) 1 0

      go : (b : Bool) → length (to_ring p q (n + 1) (ts ++ (t ∷ []))) ≡ added (n + suc (length ts))
          → length (cond b (x ∷ to_ring p q (n + 1) (ts ++ (t ∷ []))) (to_ring p q (n + 1) (ts ++ (t ∷ []))))
          ≡ length (cond b (x ∷ to_ring p q (n + 1) ts) (to_ring p q (n + 1) ts)) + here
      go true rest = ap suc rest ∙ omega arith
      go false rest = rest

  -- nothing goes to a ring whose owner doesn't fill it
  to-own-alone : (q n : ℕ) (ts : List ℕ) → (to_ring p q n ts ≡ []) ⊎ ((i : ℕ) × (i < p) × (q ≡ ring_number p i i))
  unfolding to_ring
  to-own-alone q n [] = inl refl
  to-own-alone q n (t ∷ ts) = go (same-told o q) (to-own-alone q (n + 1) ts)
    where
      o : ℕ
      o = ring_number p (n % p) (n % p)

      go : Told (eqb o q) (o ≡ q) (¬ (o ≡ q)) → (to_ring p q (n + 1) ts ≡ []) ⊎ ((i : ℕ) × (i < p) × (q ≡ ring_number p i i))
          → (to_ring p q n (t ∷ ts) ≡ []) ⊎ ((i : ℕ) × (i < p) × (q ≡ ring_number p i i))
      go (told-true e s) r = inr (n % p, mod-lt n positive, sym s)
      go (told-false e m) (inl r) = inl (rw (e, r))
      go (told-false e m) (inr r) = inr r

  pub to-fits : (k q : ℕ) (ts : List ℕ) → length ts ≤ p * capacity k → length (to_ring p q 0 ts) ≤ k
  to-fits k q ts few = go (to-own-alone q 0 ts)
    where
      go : (to_ring p q 0 ts ≡ []) ⊎ ((i : ℕ) × (i < p) × (q ≡ ring_number p i i)) → length (to_ring p q 0 ts) ≤ k
      go (inl e) = rw e (omega arith)
      go (inr (i, h, e)) = rw (e, to-own i 0 ts h) (dealt-fits k i ts h few)
