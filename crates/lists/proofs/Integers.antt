-- Laws of sums and of the order on integers that the kit doesn't have.
use Prim.Native.Nat.{ℕ, zero, suc, ◌-◌, ◌≤◌}
use mathlib.Core.Path.{◌≡◌, sym, ap, ◌∙◌}
use mathlib.Core.Bool.{false}
use native.Mathlib.Nat.{le_of_lt}
use native.Mathlib.Omega.{arith}
use lib.Dec.{T, ltb, ltb→lt, le→leb, leb→le}
use lib.IntN.{ℤ, pos, negsuc, neg_ℤ, nat_abs, sub_ℕ, ◌+ℤ◌, ◌-ℤ◌, +ℤ_assoc, +ℤ_comm, +ℤ_idl, +ℤ-neg_ℤ_cancel, -ℤ-+ℤ_cancel}
use lib.Signed.{lt_z, le_z, non_neg, ◌≤ℤ◌, ◌<ℤ◌, le_z_yes, lt_z_yes, lt_z_no, <ℤ-≤ℤ_trans, clash_ℤ, pos-nat_abs}
use Rattle.lists.proofs.Told.{Told, told-true, told-false, told, lt-told}

-- the same three integers in another order
pub +ℤ-swap : (a b c : ℤ) → (a +ℤ b) +ℤ c ≡ (a +ℤ c) +ℤ b
+ℤ-swap a b c = +ℤ_assoc a b c ∙ ap (λ (x : ℤ). a +ℤ x) (+ℤ_comm b c) ∙ sym (+ℤ_assoc a c b)

pub +ℤ-cancel : (a b c : ℤ) → a +ℤ c ≡ b +ℤ c → a ≡ b
+ℤ-cancel a b c e = sym (+ℤ-neg_ℤ_cancel a c) ∙ ap (λ (x : ℤ). x -ℤ c) e ∙ +ℤ-neg_ℤ_cancel b c

-- of two integers the first is less, or the second is at most the first
pub lt_z-told : (a b : ℤ) → Told (lt_z a b) (a <ℤ b) (b ≤ℤ a)
lt_z-told a b = told (lt_z a b) (λ e. lt_z_yes (rw e tt)) (λ e. lt_z_no (rw e tt))

lt-le : (a b : ℤ) → T (lt_z a b) → T (le_z a b)
lt-le (pos a) (pos b) t = le→leb a b (le_of_lt (ltb→lt a b t))
lt-le (pos a) (negsuc b) t = t
lt-le (negsuc a) (pos b) t = tt
lt-le (negsuc a) (negsuc b) t = le→leb b a (le_of_lt (ltb→lt b a t))

pub ≤ℤ-of-<ℤ : {a b : ℤ} → a <ℤ b → a ≤ℤ b
≤ℤ-of-<ℤ {a} {b} h = le_z_yes (lt-le a b h.lt)

pub ≤ℤ-trans : {a b c : ℤ} → a ≤ℤ b → b ≤ℤ c → a ≤ℤ c
≤ℤ-trans {a} {b} {c} h k = go (lt_z-told c a)
  where
    go : Told (lt_z c a) (c <ℤ a) (a ≤ℤ c) → a ≤ℤ c
    go (told-true e l) = clash_ℤ (<ℤ-≤ℤ_trans l h) k
    go (told-false e l) = l

pub ≤ℤ-<ℤ-trans : {a b c : ℤ} → a ≤ℤ b → b <ℤ c → a <ℤ c
≤ℤ-<ℤ-trans {a} {b} {c} h k = go (lt_z-told a c)
  where
    go : Told (lt_z a c) (a <ℤ c) (c ≤ℤ a) → a <ℤ c
    go (told-true e l) = l
    go (told-false e l) = clash_ℤ k (≤ℤ-trans l h)

-- of two integers the first is at most the second, or the second is less
pub le_z-told : (a b : ℤ) → Told (le_z a b) (¬ (b <ℤ a)) (b <ℤ a)
le_z-told a b = told (le_z a b) (λ e l. clash_ℤ l (le_z_yes (rw e tt))) (λ e. go e (lt_z-told b a))
  where
    go : le_z a b ≡ false → Told (lt_z b a) (b <ℤ a) (a ≤ℤ b) → b <ℤ a
    go e (told-true q l) = l
    go e (told-false q l) = absurd (rw e at l.le)

pub ≤ℤ-pos : {m n : ℕ} → m ≤ n → pos m ≤ℤ pos n
≤ℤ-pos {m} {n} h = le_z_yes (le→leb m n h)

pub ≤ℤ-add : (a : ℤ) (n : ℕ) → a ≤ℤ (a +ℤ pos n)
≤ℤ-add (pos a) n = ≤ℤ-pos (omega arith)
≤ℤ-add (negsuc a) n = go (lt-told n (suc a))
  where
    go : Told (ltb n (suc a)) (¬ (suc a ≤ n)) (suc a ≤ n) → negsuc a ≤ℤ sub_ℕ n (suc a)
    go (told-true e l) = rw e (le_z_yes (le→leb (suc a - suc n) a (omega arith)))
    go (told-false e l) = rw e (le_z_yes tt)

-- an integer and a greater one differ by a natural number
≤ℤ-gap : {a b : ℤ} → a ≤ℤ b → (n : ℕ) × (a +ℤ pos n ≡ b)
≤ℤ-gap {a} {b} h = (nat_abs (b -ℤ a), ap (λ (x : ℤ). a +ℤ x) (pos-nat_abs (b -ℤ a) (rises a b h.le)) ∙ +ℤ_comm a (b -ℤ a) ∙ -ℤ-+ℤ_cancel b a)
  where
    sub-rises : (x y : ℕ) → y ≤ x → T (non_neg (sub_ℕ x y))
    sub-rises x y h = go (lt-told x y)
      where
        go : Told (ltb x y) (¬ (y ≤ x)) (y ≤ x) → T (non_neg (sub_ℕ x y))
        go (told-true e l) = absurd (l h)
        go (told-false e l) = rw e tt

    rises : (a b : ℤ) → T (le_z a b) → T (non_neg (b -ℤ a))
    rises (pos zero) (pos b) t = tt
    rises (pos (suc a)) (pos b) t = sub-rises b (suc a) (leb→le (suc a) b t)
    rises (pos a) (negsuc b) t = absurd t
    rises (negsuc a) (pos b) t = tt
    rises (negsuc a) (negsuc b) t = sub-rises (suc a) (suc b) (omega (arith, leb→le b a t))

-- the same integer added to both sides
pub ≤ℤ-both : {a b : ℤ} → a ≤ℤ b → (c : ℤ) → (a +ℤ c) ≤ℤ (b +ℤ c)
≤ℤ-both {a} {b} h c = let (n, e) = ≤ℤ-gap h in rw (sym e, +ℤ-swap a (pos n) c) (≤ℤ-add (a +ℤ c) n)

pub ≤ℤ-grows : (a : ℤ) {m n : ℕ} → m ≤ n → (a +ℤ pos m) ≤ℤ (a +ℤ pos n)
≤ℤ-grows a {m} {n} h = rw (+ℤ_comm a (pos m), +ℤ_comm a (pos n)) (≤ℤ-both (≤ℤ-pos h) a)

-- a natural number taken to the other side
pub ≤ℤ-minus : (n : ℕ) (a : ℤ) → pos 0 ≤ℤ (a +ℤ pos n) → neg_ℤ (pos n) ≤ℤ a
≤ℤ-minus n a h = rw (+ℤ_idl (neg_ℤ (pos n)), +ℤ-neg_ℤ_cancel a (pos n)) at (≤ℤ-both h (neg_ℤ (pos n)))
