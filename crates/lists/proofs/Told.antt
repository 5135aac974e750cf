-- Tests with their reasons: what a test's value says, for one test and for several that must all pass.
use Prim.Native.Nat.{ℕ, ◌≤◌, ◌<◌}
use mathlib.Core.Path.{◌≡◌, refl, subst}
use mathlib.Core.Bool.{Bool, true, false, cond, not, ◌&&◌, ◌||◌}
use mathlib.Core.Logic.{◌⊎◌, inl, inr}
use native.Mathlib.Omega.{arith}
use lib.Dec.{ltb, leb, eqb}
use borrow.Author.Tests.{ltb-true, ltb-false, leb-true, leb-false, eqb-true, eqb-false, not-false}
use Rattle.lists.specs.Decided.{holds}
use Rattle.lists.proofs.Apart.{unequal, true-and-false}
use Rattle.lists.proofs.Decided.{holds-yes, holds-no}

pub neither : {A B : Type 0} → ¬ A → ¬ B → ¬ (A ⊎ B)
neither n m (inl a) = n a
neither n m (inr b) = m b

-- both parts of a pair, as a function of two takes them
pub with_both : {A B C : Type 0} → (A → B → C) → A × B → C
with_both f h = f h.0 h.1

-- what a test decides: with the test's value goes a reason
pub data Told (b : Bool) (Yes No : Type 0) : Type 0 where
  told-true : b ≡ true → Yes → Told b Yes No
  told-false : b ≡ false → No → Told b Yes No

pub told : (b : Bool) {Yes No : Type 0} → (b ≡ true → Yes) → (b ≡ false → No) → Told b Yes No
told true f g = told-true refl (f refl)
told false f g = told-false refl (g refl)

pub le-told : (a b : ℕ) → Told (leb a b) (¬ (b < a)) (b < a)
le-told a b = told (leb a b) (λ e h. omega (arith, leb-true a b e)) (leb-false a b)

pub lt-told : (a b : ℕ) → Told (ltb a b) (¬ (b ≤ a)) (b ≤ a)
lt-told a b = told (ltb a b) (λ e h. omega (arith, ltb-true a b e)) (ltb-false a b)

pub same-told : (a b : ℕ) → Told (eqb a b) (a ≡ b) (¬ (a ≡ b))
same-told a b = told (eqb a b) (eqb-true a b) (eqb-false a b)

pub eq-told : (a b : ℕ) → Told (eqb a b) (¬ (¬ (a ≡ b))) (¬ (a ≡ b))
eq-told a b = told (eqb a b) (λ e n. n (eqb-true a b e)) (λ e q. eqb-false a b e q)

pub dec-told : {A : Type 0} (d : Dec A) → Told (holds d) (¬ (¬ A)) (¬ A)
dec-told d = told (holds d) (λ e n. n (holds-yes d e)) (holds-no d)

-- two tests that must both pass
pub and-told : (a b : Bool) {A B : Type 0} → Told a (¬ A) A → Told b (¬ B) B → Told (a && b) (¬ (A ⊎ B)) (A ⊎ B)
and-told a b (told-true e f) (told-true q g) = told-true (rw (e, q)) (neither f g)
and-told a b (told-true e f) (told-false q y) = told-false (rw (e, q)) (inr y)
and-told a b (told-false e x) t = told-false (rw e) (inl x)

-- the test turned round
pub not-told : (b : Bool) {Yes No : Type 0} → Told b Yes No → Told (not b) No Yes
not-told b (told-true e y) = told-false (rw e) y
not-told b (told-false e n) = told-true (rw e) n

-- both tests passed
pub and-true : (a b : Bool) → (a && b) ≡ true → (a ≡ true) × (b ≡ true)
and-true true b h = (refl, h)
and-true false b h = unequal cc

-- the first of two tests, a bound, where both passed
pub first_holds : (a b : ℕ) (rest : Bool) → not (leb a b && rest) ≡ false → a ≤ b
first_holds a b rest e = leb-true a b (and-true (leb a b) rest (not-false (leb a b && rest) e)).0

-- one of them failed
pub and-false : (a b : Bool) → (a ≡ true → b ≡ false) → (a && b) ≡ false
and-false true b f = f refl
and-false false b f = refl

-- a test that chooses between equals
pub cond_either : {A : Type 0} (b : Bool) (x : A) → cond b x x ≡ x
cond_either true x = refl
cond_either false x = refl

-- two choices by one test, which need agree only where it passes
pub cond_same : {A : Type 0} (b : Bool) (x x' y : A) → (b ≡ true → x ≡ x') → cond b x y ≡ cond b x' y
cond_same true x x' y f = f refl
cond_same false x x' y f = refl

-- two tests of which one must pass
pub or_left : (a b : Bool) → a ≡ true → (a || b) ≡ true
or_left a b e = rw e

pub or_right : (a b : Bool) → b ≡ true → (a || b) ≡ true
or_right true b e = refl
or_right false b e = e

pub or-true : (a b : Bool) → (a || b) ≡ true → (a ≡ true) ⊎ (b ≡ true)
or-true true b e = inl refl
or-true false b e = inr e

pub or-false : (a b : Bool) → (a || b) ≡ false → (a ≡ false) × (b ≡ false)
or-false true b e = unequal cc
or-false false b e = (refl, e)

-- a test that must pass where another one does
pub or-not : (a b : Bool) → (a || not b) ≡ true → b ≡ true → a ≡ true
or-not true b h e = refl
or-not false true h e = h
or-not false false h e = e

pub not-or : (a b : Bool) → (b ≡ true → a ≡ true) → (a || not b) ≡ true
not-or true b f = refl
not-or false true f = f refl
not-or false false f = refl

-- a test on the only one that has the property N, told of whichever has it
pub only-told : (b : Bool) {A : Type 0} {N C : A → Type 0} (x : A) → N x → ((y : A) → N y → y ≡ x) → Told b (¬ (C x)) (C x)
    → Told b (¬ ((y : A) × N y × C y)) ((y : A) × N y × C y)
only-told b {C = C} x n one (told-true e f) = told-true e (λ q. f (subst C (one q.0 q.1) q.2))
only-told b x n one (told-false e c) = told-false e (x, n, c)

-- a test that decides a condition under another one, which holds
pub under-told : (b : Bool) {R C : Type 0} → R → Told b (¬ C) C → Told b (¬ (R × C)) (R × C)
under-told b r (told-true e f) = told-true e (λ c. f c.1)
under-told b r (told-false e c) = told-false e (r, c)

-- the reason for a test's value, and the value from what excludes the other reason
pub told-yes : {b : Bool} {Yes No : Type 0} → Told b Yes No → b ≡ true → Yes
told-yes (told-true e y) h = y
told-yes (told-false e n) h = true-and-false h e

pub told-no : {b : Bool} {Yes No : Type 0} → Told b Yes No → b ≡ false → No
told-no (told-true e y) h = true-and-false e h
told-no (told-false e n) h = n

pub told-pass : {b : Bool} {Yes No : Type 0} → Told b Yes No → ¬ No → b ≡ true
told-pass (told-true e y) f = e
told-pass (told-false e n) f = absurd (f n)

pub told-fail : {b : Bool} {Yes No : Type 0} → Told b Yes No → ¬ Yes → b ≡ false
told-fail (told-true e y) f = absurd (f y)
told-fail (told-false e n) f = e
