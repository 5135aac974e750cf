-- Lists whose items all have a property.
use Prim.Native.Nat.{ℕ, zero, suc, ◌<◌}
use mathlib.Core.List.{List, [], ◌∷◌, ◌++◌}
use native.Mathlib.Omega.{arith}
use lib.ListN.{length, get_or, take}
use Rattle.layout.specs.Marks.{Each}

module _ {A : Type 0} (P : A → Type 0) where
  pub each_append : (k l : List A) → Each P k → Each P l → Each P (k ++ l)
  each_append [] l h m = m
  each_append (x ∷ k) l (h, hs) m = (h, each_append k l hs m)

  pub each_take : (n : ℕ) (l : List A) → Each P l → Each P (take n l)
  each_take zero l h = tt
  each_take (suc n) [] h = tt
  each_take (suc n) (x ∷ l) (h, hs) = (h, each_take n l hs)

  -- what holds at each place
  pub each_at : (d : A) (l : List A) → ((i : ℕ) → i < length l → P (get_or l i d)) → Each P l
  each_at d [] f = tt
  each_at d (x ∷ l) f = (f 0 (omega arith), each_at d l (λ i h. f (suc i) (omega (arith, h))))

  pub at_each : (d : A) (l : List A) → Each P l → (i : ℕ) → i < length l → P (get_or l i d)
  at_each d [] h i l = absurd (omega (arith, l))
  at_each d (x ∷ l) (h, hs) zero k = h
  at_each d (x ∷ l) (h, hs) (suc i) k = at_each d l hs i (omega (arith, k))

  -- what holds of an item inside
  pub each-inside : (k : List A) (x : A) (l : List A) → Each P (k ++ (x ∷ l)) → P x
  each-inside [] x l (h, hs) = h
  each-inside (y ∷ k) x l (h, hs) = each-inside k x l hs

pub each_map : {A : Type 0} {P Q : A → Type 0} → ((x : A) → P x → Q x) → (l : List A) → Each P l → Each Q l
each_map f [] h = tt
each_map f (x ∷ l) (h, hs) = (f x h, each_map f l hs)
