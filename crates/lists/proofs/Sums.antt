-- Laws of sums over places and over members, and what a change in one place does to them.
use Prim.Native.Nat.{ℕ, zero, suc, ◌+◌, ◌*◌, ◌≤◌, ◌<◌}
use mathlib.Core.Path.{◌≡◌, refl, sym, ap, ◌∙◌}
use mathlib.Core.List.{List, [], ◌∷◌, ◌++◌}
use native.Mathlib.Omega.{arith}
use native.Mathlib.Decide.{ℕ_discrete, dec_lt}
use native.Mathlib.Nat.{le_antisymm, zero-mul, one-mul, suc-mul, mul-le-mul_right}
use lib.ListN.{length, length-append}
use Rattle.lists.proofs.Decided.{stable, tally-yes, tally-pos}
use Rattle.lists.proofs.Occurrences.{occ-nil, occ-cons, occ-hit, occ-miss, occ-insert, occ-around}
use Rattle.lists.specs.Decided.{tally}
use Rattle.lists.specs.Lists.{occ_of, occ, joined}
use Rattle.lists.specs.Sums.{sum_to, sum_of}

pub sum_same : (n : ℕ) (f g : ℕ → ℕ) → ((j : ℕ) → j < n → g j ≡ f j) → sum_to n g ≡ sum_to n f
unfolding sum_to
sum_same zero f g h = refl
sum_same (suc n) f g h = omega (arith, sum_same n f g (λ j lt. h j (omega arith)), h n (omega arith))

pub sum-zero : (n : ℕ) (f : ℕ → ℕ) → ((k : ℕ) → k < n → f k ≡ 0) → sum_to n f ≡ 0
unfolding sum_to
sum-zero zero f h = refl
sum-zero (suc n) f h = omega (arith, sum-zero n f (λ k l. h k (omega arith)), h n (omega arith))

-- the same at every place, a number φ being read there
pub sum_kept : {B : Type 0} (φ : B → ℕ) {f g : ℕ → B} (n : ℕ) → ((j : ℕ) → g j ≡ f j) → sum_to n (λ j. φ (g j)) ≡ sum_to n (λ j. φ (f j))
sum_kept φ {f} {g} n h = sum_same n (λ j. φ (f j)) (λ j. φ (g j)) (λ j l. ap φ (h j))

pub sum-suc : (n : ℕ) (f : ℕ → ℕ) → sum_to (suc n) f ≡ sum_to n f + f n
unfolding sum_to
sum-suc n f = refl

-- one place changed
pub sum-at : (n : ℕ) (f g : ℕ → ℕ) (k : ℕ) → k < n → ((j : ℕ) → ¬ (j ≡ k) → g j ≡ f j) → sum_to n g + f k ≡ sum_to n f + g k
unfolding sum_to
sum-at zero f g k lt h = absurd (omega arith)
sum-at (suc n) f g k lt h = go (ℕ_discrete k n) (λ lt'. sum-at n f g k lt' h)
  where
    go : Dec (k ≡ n) → (k < n → sum_to n g + f k ≡ sum_to n f + g k) → sum_to (suc n) g + f k ≡ sum_to (suc n) f + g k
    go (yes e) r = rw e (omega (arith, sum_same n f g (λ j j<n. h j (λ q. omega arith))))
    go (no m) r = omega (arith, r (omega arith), h n (λ q. m (sym q)))

-- a sum to which one place alone adds
pub sum-only : (n : ℕ) (f : ℕ → ℕ) (k : ℕ) → k < n → ((j : ℕ) → ¬ (j ≡ k) → f j ≡ 0) → sum_to n f ≡ f k
sum-only n f k h o = omega (arith, sum-at n (λ j. 0) f k h o, sum-zero n (λ j. 0) (λ j l. refl))

pub sum-le : (n : ℕ) (f g : ℕ → ℕ) → ((k : ℕ) → k < n → f k ≤ g k) → sum_to n f ≤ sum_to n g
unfolding sum_to
sum-le zero f g h = omega arith
sum-le (suc n) f g h = omega (arith, sum-le n f g (λ k l. h k (omega arith)), h n (omega arith))

-- where no place falls, a sum grows at least by what one place does
sum-gap : (n : ℕ) (f g : ℕ → ℕ) → ((k : ℕ) → k < n → f k ≤ g k) → (k : ℕ) → k < n → sum_to n f + g k ≤ sum_to n g + f k
unfolding sum_to
sum-gap zero f g h k l = absurd (omega arith)
sum-gap (suc n) f g h k l = go (ℕ_discrete k n) (λ l'. sum-gap n f g (λ j m. h j (omega arith)) k l')
  where
    go : Dec (k ≡ n) → (k < n → sum_to n f + g k ≤ sum_to n g + f k) → sum_to n f + f n + g k ≤ sum_to n g + g n + f k
    go (yes e) r = rw e (omega (arith, sum-le n f g (λ j m. h j (omega arith))))
    go (no m) r = omega (arith, r (omega arith), h n (omega arith))

pub sum_lt : (n : ℕ) (f g : ℕ → ℕ) → ((k : ℕ) → k < n → f k ≤ g k) → (k : ℕ) → k < n → f k < g k → sum_to n f < sum_to n g
sum_lt n f g h k l d = omega (arith, sum-gap n f g h k l)

-- the sum up to a place, and that place
pub sum-prefix : (n : ℕ) (f : ℕ → ℕ) (k : ℕ) → k < n → sum_to k f + f k ≤ sum_to n f
unfolding sum_to
sum-prefix zero f k h = absurd (omega arith)
sum-prefix (suc n) f k h = go (ℕ_discrete k n) (sum-prefix n f k)
  where
    go : Dec (k ≡ n) → (k < n → sum_to k f + f k ≤ sum_to n f) → sum_to k f + f k ≤ sum_to n f + f n
    go (yes e) r = rw e (omega arith)
    go (no m) r = omega (arith, r (omega arith))

-- two places that add to a sum of at most 1 are one
pub one-adds : (n : ℕ) (f : ℕ → ℕ) → sum_to n f ≤ 1 → (i j : ℕ) → i < n → j < n → 0 < f i → 0 < f j → i ≡ j
one-adds n f h i j li lj wi wj = stable (ℕ_discrete i j) (λ d. go d (dec_lt i j))
  where
    -- both add to the sum up to the later one
    two : (a b : ℕ) → a < b → b < n → 0 < f a → 0 < f b → ⊥
    two a b l m wa wb = omega (arith, h, l, m, wa, wb, sum-prefix n f b m, sum-prefix b f a l)

    go : ¬ (i ≡ j) → Dec (i < j) → ⊥
    go d (yes l) = two i j l lj wi wj
    go d (no m) = two j i (omega (arith, d, m)) li wj wi

-- n places of at most c each
pub sum-most : (n : ℕ) (f : ℕ → ℕ) (c : ℕ) → ((k : ℕ) → k < n → f k ≤ c) → sum_to n f ≤ n * c
unfolding sum_to
sum-most zero f c h = omega arith
sum-most (suc n) f c h = omega (arith, sum-most n f c (λ k l. h k (omega arith)), h n (omega arith), suc-mul n c)

sum_one : (n : ℕ) → sum_to n (λ k. 1) ≡ n
unfolding sum_to
sum_one zero = refl
sum_one (suc n) = omega (arith, sum_one n)

pub sum_twice : (n : ℕ) (f : ℕ → ℕ) → sum_to n (λ k. 2 * f k) ≡ 2 * sum_to n f
unfolding sum_to
sum_twice zero f = refl
sum_twice (suc n) f = omega (arith, sum_twice n f)

-- where a sum is larger, some place is
sum-find-lt : (n : ℕ) (f g : ℕ → ℕ) → sum_to n f < sum_to n g → (k : ℕ) × (k < n) × (f k < g k)
unfolding sum_to
sum-find-lt zero f g h = absurd (omega arith)
sum-find-lt (suc n) f g h = go (dec_lt (f n) (g n)) (sum-find-lt n f g)
  where
    go : Dec (f n < g n) → (sum_to n f < sum_to n g → (k : ℕ) × (k < n) × (f k < g k)) → (k : ℕ) × (k < suc n) × (f k < g k)
    go (yes l) r = (n, omega arith, l)
    go (no m) r = let w : (k : ℕ) × (k < n) × (f k < g k) = r (omega arith) in (w.0, omega arith, w.2)

-- a place that adds to a sum
pub sum-find : (n : ℕ) (f : ℕ → ℕ) → 0 < sum_to n f → (k : ℕ) × (k < n) × (0 < f k)
sum-find n f h = sum-find-lt n (λ k. 0) f (omega (arith, sum-zero n (λ k. 0) (λ k l. refl)))

pub length-joined : {A : Type 0} (n : ℕ) (f : ℕ → List A) → length (joined n f) ≡ sum_to n (λ k. length (f k))
unfolding joined sum_to
length-joined zero f = refl
length-joined (suc n) f = omega (arith, length-append (joined n f) (f n), length-joined n f)

pub sum_of-nil : {A : Type 0} (f : A → ℕ) → sum_of f [] ≡ 0
unfolding sum_of
sum_of-nil f = refl

pub sum_of-single : {A : Type 0} (f : A → ℕ) (x : A) → sum_of f (x ∷ []) ≡ f x
unfolding sum_of
sum_of-single f x = omega arith

pub sum_of-append : {A : Type 0} (f : A → ℕ) (k l : List A) → sum_of f (k ++ l) ≡ sum_of f k + sum_of f l
unfolding sum_of
sum_of-append f [] l = omega arith
sum_of-append f (x ∷ k) l = omega (arith, sum_of-append f k l)

pub sum_of-add : {A : Type 0} (f g : A → ℕ) (l : List A) → sum_of (λ x. f x + g x) l ≡ sum_of f l + sum_of g l
unfolding sum_of
sum_of-add f g [] = refl
sum_of-add f g (x ∷ l) = omega (arith, sum_of-add f g l)

pub sum_of-snoc : {A : Type 0} (f : A → ℕ) (l : List A) (x : A) → sum_of f (l ++ (x ∷ [])) ≡ sum_of f l + f x
sum_of-snoc f l x = omega (arith, sum_of-append f l (x ∷ []), sum_of-single f x)

pub sum_of-joined : {A : Type 0} (f : A → ℕ) (n : ℕ) (g : ℕ → List A) → sum_of f (joined n g) ≡ sum_to n (λ k. sum_of f (g k))
unfolding joined sum_to
sum_of-joined f zero g = sum_of-nil f
sum_of-joined f (suc n) g = omega (arith, sum_of-append f (joined n g) (g n), sum_of-joined f n g)

pub sum_of-one : {A : Type 0} (l : List A) → sum_of (λ t. 1) l ≡ length l
unfolding sum_of
sum_of-one [] = refl
sum_of-one (x ∷ l) = omega (arith, sum_of-one l)

module _ {A : Type 0} (same : Discrete A) where
  pub sum_of-same : (f g : A → ℕ) (l : List A) → ((a : A) → 0 < occ_of same a l → f a ≡ g a) → sum_of f l ≡ sum_of g l
  unfolding sum_of
  sum_of-same f g [] h = refl
  sum_of-same f g (x ∷ l) h =
      omega (arith, h x (omega (arith, occ-hit same x x l refl)), sum_of-same f g l (λ a m. h a (omega (arith, occ-cons same a x l))))

  -- lists within another, by occurrences
  pub sum_of-within : (f : A → ℕ) (l m : List A) → ((a : A) → occ_of same a l ≤ occ_of same a m) → sum_of f l ≤ sum_of f m
  unfolding sum_of
  sum_of-within f [] m h = omega arith
  sum_of-within f (x ∷ l) m h = go (occ-around same x m (omega (arith, h x, occ-hit same x x l refl))) (sum_of-within f l)
    where
      go : (k : List A) × (r : List A) × (m ≡ k ++ (x ∷ r)) → ((m' : List A) → ((a : A) → occ_of same a l ≤ occ_of same a m') → sum_of f l ≤ sum_of f m')
          → f x + sum_of f l ≤ sum_of f m
      go (k, r, e) rest = omega (arith, rest (k ++ r) within, ap (sum_of f) e, sum_of-append f k (x ∷ r), sum_of-append f k r)
        where
          within : (a : A) → occ_of same a l ≤ occ_of same a (k ++ r)
          within a = omega (arith, h a, ap (occ_of same a) e, occ-insert same a x k r, occ-cons same a x l)

  pub sum_of-both : (f : A → ℕ) (l m : List A) → ((a : A) → occ_of same a l ≡ occ_of same a m) → sum_of f l ≡ sum_of f m
  sum_of-both f l m h =
      le_antisymm (sum_of-within f l m (λ a. omega (arith, h a))) (sum_of-within f m l (λ a. omega (arith, h a)))

  length-within : (l m : List A) → ((a : A) → occ_of same a l ≤ occ_of same a m) → length l ≤ length m
  length-within l m h = omega (arith, sum_of-one l, sum_of-one m, sum_of-within (λ a. 1) l m h)

  -- a list within another and as long: neither holds an item more often
  pub occ-full : (l m : List A) → ((a : A) → occ_of same a l ≤ occ_of same a m) → length l ≡ length m → (a : A) → occ_of same a l ≡ occ_of same a m
  occ-full l m h e a =
      stable (ℕ_discrete (occ_of same a l) (occ_of same a m)) (λ n. omega (arith, e, length-within (a ∷ l) m (λ x. within n x (same x a))))
    where
      within : ¬ (occ_of same a l ≡ occ_of same a m) → (x : A) → Dec (x ≡ a) → occ_of same x (a ∷ l) ≤ occ_of same x m
      within n x (yes q) = rw q (omega (arith, n, h a, occ-hit same a a l refl))
      within n x (no q) = omega (arith, h x, occ-miss same x a l q)

-- a sum over the members of a list of numbers below n, by places
sum_of-places : (f : ℕ → ℕ) (n : ℕ) (l : List ℕ) → ((u : ℕ) → 0 < occ u l → u < n) → sum_of f l ≡ sum_to n (λ t. occ t l * f t)
unfolding sum_of
sum_of-places f n [] h = sym (sum-zero n (λ t. occ t [] * f t) (λ k l. rw (occ-nil ℕ_discrete k) (zero-mul (f k))))
sum_of-places f n (x ∷ l) h =
    omega (
      arith,
      sum_of-places f n l (λ u m. h u (omega (arith, occ-cons ℕ_discrete u x l))),
      sum-at n (λ t. occ t l * f t) (λ t. occ t (x ∷ l) * f t) x (h x (omega (arith, occ-hit ℕ_discrete x x l refl))) (λ j m. ap (λ (k : ℕ). k * f j) (occ-miss ℕ_discrete j x l m)),
      ap (λ (k : ℕ). k * f x) (occ-hit ℕ_discrete x x l refl),
      suc-mul (occ x l) (f x),
    )

-- a list that holds each number below n once
pub sum_of-all : (f : ℕ → ℕ) (n : ℕ) (l : List ℕ) → ((t : ℕ) → occ t l ≡ tally (dec_lt t n)) → sum_of f l ≡ sum_to n f
sum_of-all f n l h = sum_of-places f n l below ∙ sum_same n f (λ t. occ t l * f t) (λ t m. rw (h t, tally-yes (dec_lt t n) m) (one-mul (f t)))
  where
    below : (u : ℕ) → 0 < occ u l → u < n
    below u m = tally-pos (dec_lt u n) (omega (arith, h u))

-- a list of numbers below n has as many members as all their occurrences
pub length-occ : (n : ℕ) (l : List ℕ) → ((u : ℕ) → 0 < occ u l → u < n) → length l ≡ sum_to n (λ u. occ u l)
length-occ n l h =
    sym (sum_of-one l) ∙ sum_of-places (λ t. 1) n l h ∙ sum_same n (λ u. occ u l) (λ u. occ u l * 1) (λ j m. omega arith)

-- distinct numbers below n that leave one out are fewer than n
pub short-without : (n : ℕ) (l : List ℕ) → ((u : ℕ) → 0 < occ u l → u < n) → ((u : ℕ) → occ u l ≤ 1) → (t : ℕ) → t < n → occ t l ≡ 0 → length l < n
short-without n l below once t h z =
    omega (arith, length-occ n l below, sum_lt n (λ u. occ u l) (λ u. 1) (λ u m. once u) t h (omega arith), sum_one n)

-- distinct numbers below n, and another one: they sum to no more than all
module _ (f : ℕ → ℕ) (n : ℕ) (l : List ℕ) (below : (u : ℕ) → 0 < occ u l → u < n) where
  pub sum_of-other : ((u : ℕ) → occ u l ≤ 1) → (t : ℕ) → t < n → occ t l ≡ 0 → sum_of f l + f t ≤ sum_to n f
  sum_of-other once t h z =
      omega (arith, sum_of-places f n l below, sum-gap n (λ u. occ u l * f u) f (λ u m. few u (once u)) t h, ap (λ (k : ℕ). k * f t) z, zero-mul (f t))
    where
      few : (u : ℕ) → occ u l ≤ 1 → occ u l * f u ≤ f u
      few u o = omega (arith, mul-le-mul_right (f u) o, one-mul (f u))

  -- where they sum to less than all, one that adds to the sum is missing
  pub sum_of-missing : sum_of f l < sum_to n f → (t : ℕ) × (t < n) × (0 < f t) × (occ t l ≡ 0)
  sum_of-missing h = go (sum-find-lt n (λ u. occ u l * f u) f (omega (arith, sum_of-places f n l below)))
    where
      go : (t : ℕ) × (t < n) × (occ t l * f t < f t) → (t : ℕ) × (t < n) × (0 < f t) × (occ t l ≡ 0)
      go w = (
        w.0,
        w.1,
        omega (arith, w.2),
        stable (ℕ_discrete (occ w.0 l) 0) (λ m. omega (arith, w.2, one-mul (f w.0), mul-le-mul_right {m = 1} {n = occ w.0 l} (f w.0) (omega arith))),
      )
