-- The spread: of the sums two, one that none exceeds and one that exceeds none.
use Prim.Native.Nat.{ℕ, zero, suc, ◌≤◌, ◌<◌, min, max}
use mathlib.Core.Path.{◌≡◌, refl, sym}
use mathlib.Core.List.{List, [], ◌∷◌}
use native.Mathlib.Omega.{arith}
use native.Mathlib.Decide.{dec_le}
use native.Mathlib.Nat.{min-eq_left, min-eq_right, max-eq_left, max-eq_right}
use lib.ListN.{length, get_or}
use Rattle.loads.specs.Windows.{largest_of, smallest_of, spread_of, Spread}

-- a place whose number is v, and all others are as `Below` says beside it
record Extreme (Below : ℕ → ℕ → Type 0) (l : List ℕ) (v : ℕ) : Type 0 where
  place : ℕ
  inside : place < length l
  there : get_or l place 0 ≡ v
  extreme : (i : ℕ) → i < length l → Below (get_or l i 0) v

module _ (Below : ℕ → ℕ → Type 0) (self : (x : ℕ) → Below x x) where
  alone : (x : ℕ) → Extreme Below (x ∷ []) x
  alone x = record { place = 0; inside = omega arith; there = refl; extreme = λ i h. only i h }
    where
      only : (i : ℕ) → i < 1 → Below (get_or (x ∷ []) i 0) x
      only zero h = self x
      only (suc i) h = absurd (omega arith)

  -- of two numbers the one that the other is below stands for both
  first_of : (x y : ℕ) (l : List ℕ) (v : ℕ) → ((z : ℕ) → Below x z → Below y z) → Extreme Below (x ∷ l) v → Extreme Below (x ∷ y ∷ l) v
  first_of x y l v pass e = record { place = at e.place; inside = in-it e.place e.inside; there = told e.place e.there; extreme = all }
    where
      at : ℕ → ℕ
      at zero = 0
      at (suc i) = suc (suc i)

      in-it : (i : ℕ) → i < suc (length l) → at i < suc (suc (length l))
      in-it zero h = omega arith
      in-it (suc i) h = omega (arith, h)

      told : (i : ℕ) → get_or (x ∷ l) i 0 ≡ v → get_or (x ∷ y ∷ l) (at i) 0 ≡ v
      told zero h = h
      told (suc i) h = h

      all : (i : ℕ) → i < suc (suc (length l)) → Below (get_or (x ∷ y ∷ l) i 0) v
      all zero h = e.extreme 0 (omega arith)
      all (suc zero) h = pass v (e.extreme 0 (omega arith))
      all (suc (suc i)) h = e.extreme (suc i) (omega (arith, h))

  second-of : (x y : ℕ) (l : List ℕ) (v : ℕ) → ((z : ℕ) → Below y z → Below x z) → Extreme Below (y ∷ l) v → Extreme Below (x ∷ y ∷ l) v
  second-of x y l v pass e = record { place = suc e.place; inside = omega (arith, e.inside); there = e.there; extreme = all }
    where
      all : (i : ℕ) → i < suc (suc (length l)) → Below (get_or (x ∷ y ∷ l) i 0) v
      all zero h = pass v (e.extreme 0 (omega arith))
      all (suc i) h = e.extreme i (omega (arith, h))

largest-is : (x : ℕ) (l : List ℕ) → Extreme (λ a b. a ≤ b) (x ∷ l) (largest_of x l)
unfolding largest_of
largest-is x [] = alone (λ a b. a ≤ b) (λ a. omega arith) x
largest-is x (y ∷ l) = go (dec_le y x) (largest-is x l) (largest-is y l)
  where
    go : Dec (y ≤ x) → Extreme (λ a b. a ≤ b) (x ∷ l) (largest_of x l) → Extreme (λ a b. a ≤ b) (y ∷ l) (largest_of y l)
        → Extreme (λ a b. a ≤ b) (x ∷ y ∷ l) (largest_of (max x y) l)
    go (yes h) e f = rw (max-eq_left h) (first_of (λ a b. a ≤ b) (λ a. omega arith) x y l _ (λ z b. omega (arith, h, b)) e)
    go (no n) e f =
        let h : x ≤ y = omega (arith, n) in
        rw (max-eq_right h) (second-of (λ a b. a ≤ b) (λ a. omega arith) x y l _ (λ z b. omega (arith, h, b)) f)

smallest-is : (x : ℕ) (l : List ℕ) → Extreme (λ a b. b ≤ a) (x ∷ l) (smallest_of x l)
unfolding smallest_of
smallest-is x [] = alone (λ a b. b ≤ a) (λ a. omega arith) x
smallest-is x (y ∷ l) = go (dec_le x y) (smallest-is x l) (smallest-is y l)
  where
    go : Dec (x ≤ y) → Extreme (λ a b. b ≤ a) (x ∷ l) (smallest_of x l) → Extreme (λ a b. b ≤ a) (y ∷ l) (smallest_of y l)
        → Extreme (λ a b. b ≤ a) (x ∷ y ∷ l) (smallest_of (min x y) l)
    go (yes h) e f = rw (min-eq_left h) (first_of (λ a b. b ≤ a) (λ a. omega arith) x y l _ (λ z b. omega (arith, h, b)) e)
    go (no n) e f =
        let h : y ≤ x = omega (arith, n) in
        rw (min-eq_right h) (second-of (λ a b. b ≤ a) (λ a. omega arith) x y l _ (λ z b. omega (arith, h, b)) f)

spread-is : (sums : List ℕ) → 1 ≤ length sums → Spread (length sums) (λ i. get_or sums i 0) (spread_of sums)
unfolding spread_of
spread-is [] h = absurd (omega arith)
spread-is (x ∷ l) h =
    let high : Extreme (λ a b. a ≤ b) (x ∷ l) (largest_of x l) = largest-is x l in
    let low : Extreme (λ a b. b ≤ a) (x ∷ l) (smallest_of x l) = smallest-is x l in
    record {
      largest = high.place;
      is_largest = (high.inside, λ i m. rw high.there (high.extreme i m));
      smallest = low.place;
      is_smallest = (low.inside, λ i m. rw low.there (low.extreme i m));
      apart = sym (rw (high.there, low.there));
    }

-- of P loads that stand in a list
pub spread-of : (p : ℕ) (sums : List ℕ) (load : ℕ → ℕ) → length sums ≡ p → 1 ≤ p → ((i : ℕ) → i < p → load i ≡ get_or sums i 0)
    → Spread p load (spread_of sums)
spread-of p sums load size some same =
    let s : Spread (length sums) (λ i. get_or sums i 0) (spread_of sums) = spread-is sums (omega (arith, size, some)) in
    let high : s.largest < p = omega (arith, s.is_largest.0, size) in
    let low : s.smallest < p = omega (arith, s.is_smallest.0, size) in
    record {
      largest = s.largest;
      is_largest = (high, λ i h. rw (same i h, same s.largest high) (s.is_largest.1 i (omega (arith, h, size))));
      smallest = s.smallest;
      is_smallest = (low, λ i h. rw (same i h, same s.smallest low) (s.is_smallest.1 i (omega (arith, h, size))));
      apart = rw (same s.largest high, same s.smallest low) s.apart;
    }
