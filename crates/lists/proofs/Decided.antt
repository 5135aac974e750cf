-- Laws of decided questions and of the first number that has a property.
use Prim.Native.Nat.{ℕ, zero, suc, ◌+◌, ◌≤◌, ◌<◌}
use mathlib.Core.Path.{◌≡◌, refl}
use mathlib.Core.Bool.{true, false}
use native.Mathlib.Omega.{arith}
use native.Mathlib.Nat.{le_antisymm}
use native.Mathlib.Decide.{ℕ_discrete, dec_le, dec_lt}
use Rattle.lists.specs.Decided.{holds, tally, Smallest, stop, first_below}
use Rattle.lists.proofs.Apart.{unequal}

module _ {A : Type 0} where
  pub stable : Dec A → ¬ (¬ A) → A
  stable (yes a) f = a
  stable (no n) f = absurd (f n)

  pub yes-holds : (d : Dec A) → A → holds d ≡ true
  yes-holds (yes a) b = refl
  yes-holds (no n) b = absurd (n b)

  pub no-holds : (d : Dec A) → ¬ A → holds d ≡ false
  no-holds (yes a) n = absurd (n a)
  no-holds (no m) n = refl

  pub holds-yes : (d : Dec A) → holds d ≡ true → A
  holds-yes (yes a) e = a
  holds-yes (no n) e = unequal cc

  pub holds-no : (d : Dec A) → holds d ≡ false → ¬ A
  holds-no (yes a) e = unequal cc
  holds-no (no n) e = n

  pub tally-yes : (d : Dec A) → A → tally d ≡ 1
  tally-yes (yes a) b = refl
  tally-yes (no n) b = absurd (n b)

  pub tally-no : (d : Dec A) → ¬ A → tally d ≡ 0
  tally-no (yes a) n = absurd (n a)
  tally-no (no m) n = refl

  pub tally-le-one : (d : Dec A) → tally d ≤ 1
  tally-le-one (yes a) = omega arith
  tally-le-one (no n) = omega arith

  pub tally-pos : (d : Dec A) → 0 < tally d → A
  tally-pos (yes a) h = a
  tally-pos (no n) h = absurd (omega arith)

pub tally-le : {A B : Type 0} (a : Dec A) (b : Dec B) → (A → B) → tally a ≤ tally b
tally-le (yes a) b f = omega (arith, tally-yes b (f a))
tally-le (no n) b f = omega arith

pub tally-same : {A B : Type 0} (a : Dec A) (b : Dec B) → (A → B) → (B → A) → tally a ≡ tally b
tally-same a b f g = le_antisymm (tally-le a b f) (tally-le b a g)

-- the numbers up to n are those below it, and n
pub tally-next : (n t : ℕ) → tally (dec_lt t (suc n)) ≡ tally (dec_lt t n) + tally (ℕ_discrete t n)
tally-next n t = go (dec_lt t n) (ℕ_discrete t n)
  where
    go : (a : Dec (t < n)) (b : Dec (t ≡ n)) → tally (dec_lt t (suc n)) ≡ tally a + tally b
    go (yes h) (yes e) = absurd (omega arith)
    go (yes h) (no m) = tally-yes (dec_lt t (suc n)) (omega arith)
    go (no h) (yes e) = tally-yes (dec_lt t (suc n)) (omega arith)
    go (no h) (no m) = tally-no (dec_lt t (suc n)) (λ l. omega arith)

-- two numbers are two others, or not
pub both? : (x y a b : ℕ) → Dec ((x ≡ a) × (y ≡ b))
both? x y a b = go (ℕ_discrete x a) (ℕ_discrete y b)
  where
    go : Dec (x ≡ a) → Dec (y ≡ b) → Dec ((x ≡ a) × (y ≡ b))
    go (yes e) (yes f) = yes (e, f)
    go (yes e) (no n) = no (λ h. n h.1)
    go (no n) _ = no (λ h. n h.0)

smallest-le : {P : ℕ → Type 0} {d e : ℕ} → Smallest P d → Smallest P e → d ≤ e
smallest-le {P} {d} {e} s r = stable (dec_le d e) (λ m. s.least e (omega arith) r.such)

pub smallest-unique : {P : ℕ → Type 0} {d e : ℕ} → Smallest P d → Smallest P e → d ≡ e
smallest-unique s r = le_antisymm (smallest-le s r) (smallest-le r s)

module _ (P : ℕ → Type 0) where
  stops : (a : Dec (P 0)) (r n : ℕ) → r ≤ n → stop a r ≤ suc n
  stops (yes p) r n h = omega arith
  stops (no q) r n h = omega arith

  stops-such : (a : Dec (P 0)) (r n : ℕ) → (r < n → P (suc r)) → stop a r < suc n → P (stop a r)
  stops-such (yes p) r n f h = p
  stops-such (no q) r n f h = f (omega arith)

  stops-least : (a : Dec (P 0)) (r : ℕ) → ((k : ℕ) → k < r → ¬ (P (suc k))) → (k : ℕ) → k < stop a r → ¬ (P k)
  stops-least (yes p) r f k h = absurd (omega arith)
  stops-least (no q) r f zero h = q
  stops-least (no q) r f (suc k) h = f k (omega arith)

first-le : (n : ℕ) {P : ℕ → Type 0} (d : (t : ℕ) → Dec (P t)) → first_below n d ≤ n
unfolding first_below
first-le zero d = omega arith
first-le (suc n) {P} d = stops P (d 0) (first_below n (λ t. d (suc t))) n (first-le n (λ t. d (suc t)))

first-such : (n : ℕ) {P : ℕ → Type 0} (d : (t : ℕ) → Dec (P t)) → first_below n d < n → P (first_below n d)
unfolding first_below
first-such zero d h = absurd (omega arith)
first-such (suc n) {P} d h = stops-such P (d 0) (first_below n (λ t. d (suc t))) n (first-such n (λ t. d (suc t))) h

pub first-least : (n : ℕ) {P : ℕ → Type 0} (d : (t : ℕ) → Dec (P t)) (k : ℕ) → k < first_below n d → ¬ (P k)
unfolding first_below
first-least zero d k h = absurd (omega arith)
first-least (suc n) {P} d k h = stops-least P (d 0) (first_below n (λ t. d (suc t))) (first-least n (λ t. d (suc t))) k h

-- the two ways to find it
module _ (n : ℕ) {P : ℕ → Type 0} (d : (t : ℕ) → Dec (P t)) where
  pub first-is : (t : ℕ) → t < n → P t → ((k : ℕ) → k < t → ¬ (P k)) → t ≡ first_below n d
  first-is t h p f =
      le_antisymm (stable (dec_le t (first_below n d)) (λ m. f (first_below n d) (omega arith) (first-such n d (omega arith))))
      (stable (dec_le (first_below n d) t) (λ m. first-least n d t (omega arith) p))

  pub first-none : ((k : ℕ) → k < n → ¬ (P k)) → n ≡ first_below n d
  first-none f = le_antisymm (stable (dec_le n (first_below n d)) (λ m. f (first_below n d) (omega arith) (first-such n d (omega arith)))) (first-le n d)

  pub first-smallest : first_below n d < n → Smallest (λ t. (t < n) × P t) (first_below n d)
  first-smallest h = record { such = (h, first-such n d h); least = λ k l p. first-least n d k l p.1 }
