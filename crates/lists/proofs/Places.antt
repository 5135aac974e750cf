-- Blocks of n places each, one after the other: place j of block i is number i · n + j.
use Prim.Native.Nat.{ℕ, zero, suc, ◌+◌, ◌*◌, ◌/◌, ◌%◌, ◌≤◌, ◌<◌}
use mathlib.Core.Path.{◌≡◌, ap}
use native.Mathlib.Omega.{arith}
use native.Mathlib.Decide.{dec_lt}
use native.Mathlib.Nat.{mul-le-mul, mul-le-mul_right, suc-mul, mod-lt, div-add-mod', div-lt_iff_lt-mul}

-- block i of m blocks ends within them
pub place_end : (n m i : ℕ) → i < m → i * n + n ≤ m * n
place_end n m i h = omega (arith, mul-le-mul_right {m = suc i} {n = m} n h, suc-mul i n)

pub place-lt : (n m i j : ℕ) → i < m → j < n → i * n + j < m * n
place-lt n m i j h l = omega (arith, l, place_end n m i h)

-- n blocks of n places, n at most b: where block i begins
pub place-small : (b n i : ℕ) → i < n → n ≤ b → i * n ≤ b * b
place-small b n i h l = mul-le-mul {n₁ = i} {m₁ = n} {n₂ = b} {m₂ = b} (omega arith) l

-- every number within m blocks is a block's and a place's in it
pub place-parts : (n m q : ℕ) → q < m * n → (i : ℕ) × (j : ℕ) × (i < m) × (j < n) × (i * n + j ≡ q)
place-parts zero m q h = absurd (omega (arith, h))
place-parts (suc n) m q h =
    (q / suc n, q % suc n, (div-lt_iff_lt-mul {k = suc n} {x = q} {y = m} (omega arith)).1 h, mod-lt q (omega arith), div-add-mod' q (suc n))

-- a place's number tells the block and the place in it
pub place_same : (n i j o h : ℕ) → j < n → h < n → i * n + j ≡ o * n + h → (i ≡ o) × (j ≡ h)
place_same n i j o h lj lh e = go (dec_lt i o) (dec_lt o i)
  where
    go : Dec (i < o) → Dec (o < i) → (i ≡ o) × (j ≡ h)
    go (yes l) d = absurd (omega (arith, e, lj, place_end n o i l))
    go (no m) (yes l) = absurd (omega (arith, e, lh, place_end n i o l))
    go (no m) (no l) = let s : i ≡ o = omega (arith, m, l) in (s, omega (arith, e, ap (λ (x : ℕ). x * n) s))
