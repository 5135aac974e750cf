-- Fewer exchanges won't do: a chain has at least as many exchanges as there are pairs that its two ends order differently. A chain with no
-- more than that exchanges each of these pairs once, and no other pair.
use Prim.Native.Nat.{ℕ, suc, ◌+◌, ◌*◌, ◌≤◌}
use mathlib.Core.Path.{◌≡◌, sym, ap}
use mathlib.Core.List.{List, [], ◌∷◌, ◌++◌}
use native.Mathlib.Omega.{arith}
use native.Mathlib.Decide.{ℕ_discrete, dec_lt}
use native.Mathlib.Nat.{zero-add, zero-mul, mul-zero}
use Rattle.lists.specs.Decided.{tally}
use Rattle.lists.specs.Lists.{occ_of, place_of, all_of}
use Rattle.lists.proofs.Decided.{tally-yes, tally-no, tally-le-one, tally-pos, tally-same}
use Rattle.lists.proofs.Blocks.{occ-all}
use Rattle.lists.proofs.Positions.{Before, earlier, neighbours-before, before_swap}
use Rattle.exchange.specs.Exchange.{Exchanged, Allows, Chain, none, more, times}
use Rattle.exchange.specs.Pairs.{pairs_differing, each_once}
use Rattle.exchange.proofs.Counts.{ahead, differ, crossing, differ_self}
use Rattle.exchange.proofs.Pairs.{differ-pairs}

module _ {A : Type 0} (same : Discrete A) where
  ahead-swap : (z x y : A) (k m c : List A) → ahead same z (k ++ (x ∷ y ∷ m)) c ≡ ahead same z (k ++ (y ∷ x ∷ m)) c
  unfolding ahead
  ahead-swap z x y [] m c = omega arith
  ahead-swap z x y (w ∷ k) m c = omega (arith, ahead-swap z x y k m c)

  -- neighbours that change places count only as a pair: once before if c has y first, once after if it has x first
  differ-swap : (x y : A) (k m c : List A)
      → differ same (k ++ (x ∷ y ∷ m)) c + earlier same x y c ≡ differ same (k ++ (y ∷ x ∷ m)) c + earlier same y x c
  unfolding ahead differ
  differ-swap x y [] m c = omega arith
  differ-swap x y (z ∷ k) m c = omega (arith, ahead-swap z x y k m c, differ-swap x y k m c)

module _ {A : Type 0} (same : Discrete A) {E : A → A → Type 0} where
  differ-exchanged : {a b : List A} (s : Exchanged E a b) (c : List A)
      → differ same a c + earlier same s.x s.y c ≡ differ same b c + earlier same s.y s.x c
  differ-exchanged s c = rw (s.before, s.after) (differ-swap same s.x s.y s.front s.back c)

  module _ {want : A → ℕ} where
    chain_first : {a b : List A} {n : ℕ} → Chain same want E a b n → Allows same want E a
    chain_first (none p) = p
    chain_first (more p s r) = p

    chain-last : {a b : List A} {n : ℕ} → Chain same want E a b n → Allows same want E b
    chain-last (none p) = p
    chain-last (more p s r) = chain-last r

-- an exchange brings the list nearer to the end by one pair at most
pub chain-least : {A : Type 0} (same : Discrete A) (want : A → ℕ) (E : A → A → Type 0) → ((a : A) → want a ≤ 1)
    → {a b : List A} {n : ℕ} → Chain same want E a b n → differ same a b ≤ n
chain-least same want E one {a} (none p) = omega (arith, differ_self same a (λ t. omega (arith, p.once t, one t)))
chain-least same want E one {b = c} (more p s r) =
    omega (
      arith,
      differ-exchanged same s c,
      tally-le-one (dec_lt (place_of same s.y c) (place_of same s.x c)),
      chain-least same want E one r,
    )

-- so it has as many as there are such pairs of items, at least
pub chain-least-pairs : {A : Type 0} (same : Discrete A) (want : A → ℕ) (items : List A) (E : A → A → Type 0) → ((a : A) → want a ≤ 1)
    → ((a : A) → occ_of same a items ≡ want a) → {a b : List A} {n : ℕ} → Chain same want E a b n → pairs_differing same items a b ≤ n
chain-least-pairs same want items E one all {a} {b} r =
    rw (← differ-pairs same want one items a b all (chain_first same r).once (chain-last same r).once) (chain-least same want E one r)

-- the same for the tasks 0 .. n−1
pub chain-least-tasks : (n : ℕ) (E : ℕ → ℕ → Type 0) {a b : List ℕ} {k : ℕ} → Chain ℕ_discrete (each_once n) E a b k
    → pairs_differing ℕ_discrete (all_of n) a b ≤ k
chain-least-tasks n E r = chain-least-pairs ℕ_discrete (each_once n) (all_of n) E (λ t. tally-le-one (dec_lt t n)) (occ-all n) r

module _ {A : Type 0} (same : Discrete A) (want : A → ℕ) (E : A → A → Type 0) (one : (a : A) → want a ≤ 1) where
  -- a chain without detours exchanges only what its end has the other way round, and goes on without detours
  chain-right : {a b c : List A} {n : ℕ} (s : Exchanged E a b) → Chain same want E b c n → suc n ≡ differ same a c
      → Before same s.y s.x c × (n ≡ differ same b c)
  chain-right {a} {b} {c} {n} s r e = (
    tally-pos (dec_lt (place_of same s.y c) (place_of same s.x c)) (omega (arith, e, step, least)),
    omega (arith, e, step, least, tally-le-one (dec_lt (place_of same s.y c) (place_of same s.x c))),
  )
    where
      step : differ same a c + earlier same s.x s.y c ≡ differ same b c + earlier same s.y s.x c
      step = differ-exchanged same s c

      least : differ same b c ≤ n
      least = chain-least same want E one r

  allowed-neighbours : {l : List A} (x y : A) (k m : List A) → l ≡ k ++ (x ∷ y ∷ m) → Allows same want E l → Before same x y l
  allowed-neighbours x y k m e p =
      rw e (neighbours-before same x y k m (λ t. omega (arith, p.once t, one t, ap (occ_of same t) e)))

  module _ (u t : A) where
    abbrev Crossing : List A → List A → ℕ
    Crossing a c = crossing same a c u t

    crossing-none : (a c : List A) → ¬ (Before same t u c) → Crossing a c ≡ 0
    crossing-none a c n = rw (tally-no (dec_lt (place_of same t c) (place_of same u c)) n) (mul-zero (earlier same u t a))

    crossing-self : (a : List A) → Crossing a a ≡ 0
    crossing-self a = go (dec_lt (place_of same t a) (place_of same u a))
      where
        go : Dec (Before same t u a) → Crossing a a ≡ 0
        go (yes h) = rw (tally-no (dec_lt (place_of same u a) (place_of same t a)) (λ g. omega arith)) (zero-mul (earlier same t u a))
        go (no n) = crossing-none a a n

    -- every other pair keeps its order
    earlier-kept : {a b : List A} (s : Exchanged E a b) → ¬ ((u ≡ s.x) × (t ≡ s.y)) → ¬ ((u ≡ s.y) × (t ≡ s.x))
        → earlier same u t a ≡ earlier same u t b
    earlier-kept {a} {b} s n m =
        tally-same (dec_lt (place_of same u a) (place_of same t a)) (dec_lt (place_of same u b) (place_of same t b))
        (λ h. rw s.after (before_swap same u t s.x s.y s.front s.back n (rw s.before at h)))
        (λ h. rw s.before (before_swap same u t s.y s.x s.front s.back m (rw s.after at h)))

    crossing-kept : {a b : List A} (c : List A) (s : Exchanged E a b) → Before same s.y s.x c → ¬ ((u ≡ s.x) × (t ≡ s.y))
        → Crossing a c ≡ Crossing b c
    crossing-kept {a} {b} c s h n = go (dec_lt (place_of same t c) (place_of same u c))
      where
        go : Dec (Before same t u c) → Crossing a c ≡ Crossing b c
        go (yes g) = rw (earlier-kept s n (λ (p, q). omega (arith, h, rw (p, q) at g)))
        go (no m) = rw (crossing-none a c m, crossing-none b c m)

    -- the exchanged pair is no longer ordered differently
    crossing-exchanged : {a b : List A} (c : List A) (s : Exchanged E a b) → Allows same want E a → Allows same want E b
        → Before same s.y s.x c → tally (same u s.x) * tally (same t s.y) + Crossing b c ≡ Crossing a c
    crossing-exchanged {a} {b} c s p q h = go (same u s.x) (same t s.y)
      where
        was : Before same s.x s.y a
        was = allowed-neighbours s.x s.y s.front s.back s.before p

        is : Before same s.y s.x b
        is = allowed-neighbours s.y s.x s.front s.back s.after q

        go : (d : Dec (u ≡ s.x)) (e : Dec (t ≡ s.y)) → tally d * tally e + Crossing b c ≡ Crossing a c
        go (yes d) (yes e) =
            rw (
              tally-yes (dec_lt (place_of same u a) (place_of same t a)) (rw (d, e) was),
              tally-no (dec_lt (place_of same u b) (place_of same t b)) (λ g. omega (arith, rw (d, e) at g, is)),
              tally-yes (dec_lt (place_of same t c) (place_of same u c)) (rw (d, e) h),
            )
        go (yes d) (no n) = rw (zero-add (Crossing b c)) (sym (crossing-kept c s h (λ w. n w.1)))
        go (no n) e = rw (zero-mul (tally e), zero-add (Crossing b c)) (sym (crossing-kept c s h (λ w. n w.0)))

    -- "one exchange for each pair that the two order differently": for u before t in a and t before u in c one, for others none
    pub chain-once : {a c : List A} {n : ℕ} (r : Chain same want E a c n) → n ≡ differ same a c
        → times same u t r ≡ crossing same a c u t
    unfolding times
    chain-once {a} (none p) e = sym (crossing-self a)
    chain-once {c} (more p s r) e =
        let (h, f) = chain-right s r e in
        rw (chain-once r f) (crossing-exchanged c s p (chain_first same r) h)
