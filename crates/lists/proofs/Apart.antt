-- Equations that can't be.
use Prim.Native.Nat.{ℕ}
use mathlib.Core.Path.{◌≡◌}
use mathlib.Core.Bool.{Bool, true, false}
use mathlib.Core.List.{List, [], ◌∷◌}
use native.Mathlib.Omega.{arith}

-- whatever is wanted, where different constructors would be equal: `unequal cc`
pub unequal : {A : Type 0} → ◌≡◌ {A = ℕ} 0 1 → A
unequal e = absurd (omega arith)

pub cons-not-nil : {A : Type 0} (b : A) (c : List A) → ¬ (b ∷ c ≡ [])
cons-not-nil b c e = unequal cc

pub true-and-false : {A : Type 0} {b : Bool} → b ≡ true → b ≡ false → A
true-and-false e f = unequal cc
