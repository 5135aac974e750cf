-- Numbers as they are printed: in decimal digits that read back as the number, without a zero in front.
use Prim.Native.Nat.{ℕ, zero, suc, ◌+◌, ◌/◌, ◌%◌, ◌^◌, ◌≤◌, ◌<◌}
use mathlib.Core.Path.{◌≡◌, ap, ◌∙◌}
use mathlib.Core.List.{List, [], ◌∷◌}
use native.Mathlib.Omega.{arith}
use native.Mathlib.Nat.{div-lt_self, div-add-mod', mod-lt, le-div_iff_mul-le, div-lt_iff_lt-mul}
use native.Mathlib.Decide.{dec_lt}
use borrow.Author.Tests.{lt-ltb, le-ltb}
use lib.ListN.{length, get_or}
use Rattle.layout.specs.Marks.{digit0, Digit, Each}
use Rattle.layout.specs.Layout.{decimal, decimal_from}
use Rattle.layout.specs.Digits.{digits_before, digits_of}

-- one digit less
pub tenth-less : (n : ℕ) → 10 ≤ n → n / 10 < n
tenth-less n h = div-lt_self (omega (arith, h)) (omega arith)

-- The last turn and the others.
module _ (most n : ℕ) (rest : List ℕ) where
  pub last_turn : n < 10 → digits_before (suc most) n rest ≡ (digit0 + n) ∷ rest
  unfolding digits_before
  last_turn h = rw (lt-ltb n 10 h)

  pub next-turn : 10 ≤ n → digits_before (suc most) n rest ≡ digits_before most (n / 10) ((digit0 + n % 10) ∷ rest)
  unfolding digits_before
  next-turn h = rw (le-ltb n 10 h)

-- What holds of every n and its digits, where the turns are enough: shown for a last digit and for one digit more.
pub by_digits : (P : ℕ → List ℕ → List ℕ → Type 0)
    → ((n : ℕ) (rest : List ℕ) → n < 10 → P n rest ((digit0 + n) ∷ rest))
    → ((n : ℕ) (rest written : List ℕ) → 10 ≤ n → P (n / 10) ((digit0 + n % 10) ∷ rest) written → P n rest written)
    → (most n : ℕ) (rest : List ℕ) → n < most → P n rest (digits_before most n rest)
by_digits P last more zero n rest h = absurd (omega (arith, h))
by_digits P last more (suc most) n rest h = go (dec_lt n 10) (by_digits P last more most (n / 10) ((digit0 + n % 10) ∷ rest))
  where
    go : Dec (n < 10) → (n / 10 < most → P (n / 10) ((digit0 + n % 10) ∷ rest) (digits_before most (n / 10) ((digit0 + n % 10) ∷ rest)))
        → P n rest (digits_before (suc most) n rest)
    go (yes l) _ = rw (last_turn most n rest l) (last n rest l)
    go (no l) later =
        let h' : 10 ≤ n = omega (arith, l) in
        rw (next-turn most n rest h') (more n rest _ h' (later (omega (arith, h, tenth-less n h'))))

-- what a printed number is
pub record Spelling (n : ℕ) (text : List ℕ) : Type 0 where
  -- read back it is the number
  pub value : decimal text ≡ n
  pub digits : Each Digit text
  pub one : 1 ≤ length text
  -- no zero in front of other digits
  pub short : 1 < length text → ¬ (get_or text 0 0 ≡ digit0)

digit-fits : (d : ℕ) → d < 10 → Digit (digit0 + d)
digit-fits d h = (omega arith, omega (arith, h))

pow-some : (j : ℕ) → 1 ≤ 10 ^ j
pow-some zero = omega arith
pow-some (suc j) = omega (arith, pow-some j)

-- a number above 0 starts with another digit
digits-first : (n : ℕ) → 0 < n → ¬ (get_or (digits_of n) 0 0 ≡ digit0)
unfolding digits_of
digits-first n =
    by_digits (λ m rest text. 0 < m → ¬ (get_or text 0 0 ≡ digit0))
    (λ m rest _ p e. omega (arith, p, e))
    (λ m rest text h e _. e ((le-div_iff_mul-le {k = 10} {x = 1} {y = m} (omega arith)).1 (omega (arith, h))))
    (suc n) n [] (omega arith)

-- a number below 10 ^ k has at most k digits, another more
pub digits-few : (k n : ℕ) → n < 10 ^ suc k → length (digits_of n) ≤ suc k
unfolding digits_of
digits-few k n h =
    let few = by_digits (λ m rest text. (j : ℕ) → m < 10 ^ suc j → length text ≤ suc j + length rest) last more (suc n) n [] (omega arith) k h in
    omega (arith, few)
  where
    last : (m : ℕ) (rest : List ℕ) → m < 10 → (j : ℕ) → m < 10 ^ suc j → length ((digit0 + m) ∷ rest) ≤ suc j + length rest
    last m rest _ j _ = omega arith

    more : (m : ℕ) (rest text : List ℕ) → 10 ≤ m → ((j : ℕ) → m / 10 < 10 ^ suc j → length text ≤ suc j + length ((digit0 + m % 10) ∷ rest))
        → (j : ℕ) → m < 10 ^ suc j → length text ≤ suc j + length rest
    more m rest text l e zero u = absurd (omega (arith, l, u))
    more m rest text l e (suc j) u = omega (arith, e j ((div-lt_iff_lt-mul {k = 10} {x = m} {y = 10 ^ suc j} (omega arith)).1 (omega (arith, u))))

pub digits-many : (k n : ℕ) → 10 ^ k ≤ n → suc k ≤ length (digits_of n)
unfolding digits_of
digits-many k n h =
    let many = by_digits (λ m rest text. (j : ℕ) → 10 ^ j ≤ m → suc j + length rest ≤ length text) last more (suc n) n [] (omega arith) k h in
    omega (arith, many)
  where
    last : (m : ℕ) (rest : List ℕ) → m < 10 → (j : ℕ) → 10 ^ j ≤ m → suc j + length rest ≤ length ((digit0 + m) ∷ rest)
    last m rest _ zero _ = omega arith
    last m rest l (suc j) u = absurd (omega (arith, l, u, pow-some j))

    more : (m : ℕ) (rest text : List ℕ) → 10 ≤ m → ((j : ℕ) → 10 ^ j ≤ m / 10 → suc j + length ((digit0 + m % 10) ∷ rest) ≤ length text)
        → (j : ℕ) → 10 ^ j ≤ m → suc j + length rest ≤ length text
    more m rest text l e zero u = omega (arith, e zero ((le-div_iff_mul-le {k = 10} {x = 1} {y = m} (omega arith)).1 (omega (arith, l))))
    more m rest text l e (suc j) u = omega (arith, e j ((le-div_iff_mul-le {k = 10} {x = 10 ^ j} {y = m} (omega arith)).1 (omega (arith, u))))

-- more digits than one are those of a number above 0
more-digits : {P : Type 0} (n : ℕ) → 1 < length (digits_of n) → (0 < n → P) → P
more-digits n l f = f (above n (digits-few 0 n))
  where
    above : (m : ℕ) → (m < 10 → length (digits_of n) ≤ 1) → 0 < m
    above zero g = absurd (omega (arith, l, g (omega arith)))
    above (suc m) g = omega arith

-- PROMISE: a number is printed so
pub spelled : (n : ℕ) → Spelling n (digits_of n)
unfolding digits_of
spelled n =
    record {
      value =
          by_digits (λ m rest text. decimal text ≡ decimal_from m rest)
          (λ m rest _. ap (λ (v : ℕ). decimal_from v rest) (omega arith))
          (λ m rest text _ e. e ∙ ap (λ (v : ℕ). decimal_from v rest) (omega (arith, div-add-mod' m 10)))
          (suc n) n [] (omega arith);
      digits =
          by_digits (λ m rest text. Each Digit rest → Each Digit text)
          (λ m rest h r. (digit-fits m h, r))
          (λ m rest text _ e r. e (digit-fits (m % 10) (mod-lt m (omega arith)), r))
          (suc n) n [] (omega arith) tt;
      one = by_digits (λ m rest text. 1 ≤ length text) (λ m rest _. omega arith) (λ m rest text _ e. e) (suc n) n [] (omega arith);
      short = λ l. more-digits n l (digits-first n);
    }

-- how many digits a number above 0 has
pub digits-count : (k n : ℕ) → 10 ^ k ≤ n → n < 10 ^ suc k → length (digits_of n) ≡ suc k
digits-count k n l h = omega (arith, digits-many k n l, digits-few k n h)
