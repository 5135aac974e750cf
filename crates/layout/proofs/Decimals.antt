-- Fields with the same number differ only in the zeros in front.
use Prim.Native.Nat.{ℕ, zero, suc, ◌+◌, ◌*◌, ◌-◌, ◌≤◌}
use mathlib.Core.Path.{◌≡◌, refl, sym, ◌∙◌}
use mathlib.Core.List.{List, [], ◌∷◌, ◌++◌}
use native.Mathlib.Omega.{arith}
use native.Mathlib.Decide.{dec_le}
use lib.ListN.{length, replicate}
use Rattle.lists.proofs.Appends.{some-members}
use Rattle.layout.specs.Marks.{digit0, Digit, Each}
use Rattle.layout.specs.Layout.{decimal_from, decimal, Decimal}
use Rattle.layout.specs.Alike.{Padded, SameNumber}

-- as many digits with the same value are the same, and follow the same number
digits-unique : (f g : List ℕ) (v w : ℕ) → Each Digit f → Each Digit g → length f ≡ length g → decimal_from v f ≡ decimal_from w g
    → (v ≡ w) × (f ≡ g)
digits-unique [] [] v w h k l e = (e, refl)
digits-unique [] (b ∷ g) v w h k l e = absurd (omega (arith, l))
digits-unique (a ∷ f) [] v w h k l e = absurd (omega (arith, l))
digits-unique (a ∷ f) (b ∷ g) v w (h, hs) (k, ks) l e =
    let (sums, later) = digits-unique f g (v * 10 + (a - digit0)) (w * 10 + (b - digit0)) hs ks (omega (arith, l)) e in
    let first : a ≡ b = omega (arith, h, k, sums) in
    (omega (arith, h, k, sums), cc)

-- z digits more with the same value are zeros, and no number stands before them
pub zeros-before : (f : List ℕ) → Each Digit f → (z : ℕ) (g : List ℕ) (v : ℕ) → Each Digit g → length g ≡ z + length f → decimal_from v g ≡ decimal f
    → (v ≡ 0) × (g ≡ replicate z digit0 ++ f)
zeros-before f h zero g v k l e = digits-unique g f v 0 k h (omega (arith, l)) e
zeros-before f h (suc z) [] v k l e = absurd (omega (arith, l))
zeros-before f h (suc z) (b ∷ g) v (k, ks) l e =
    let (none, later) = zeros-before f h z g (v * 10 + (b - digit0)) ks (omega (arith, l)) e in
    let first : b ≡ digit0 = omega (arith, k, none) in
    (omega (arith, none), cc)

-- the shorter field of the two has the digits of both
pub same_number : (f g : List ℕ) (v : ℕ) → Decimal f v → Decimal g v → SameNumber f g
same_number f g v x y = go (dec_le (length f) (length g))
  where
    alone : (h : List ℕ) → Decimal h v → Padded h h
    alone h d = record { zeros = 0; whole = refl; five = d.five }

    longer : (h k : List ℕ) → Decimal h v → Decimal k v → length h ≤ length k → Padded k h
    longer h k d e l = record {
      zeros = length k - length h;
      whole = (zeros-before h d.digits (length k - length h) k 0 e.digits (omega (arith, l)) (sym e.value ∙ d.value)).1;
      five = e.five;
    }

    go : Dec (length f ≤ length g) → SameNumber f g
    go (yes l) = record { digits = f; each = x.digits; some = some-members f x.one; left = alone f x; right = longer f g x y l }
    go (no n) = record { digits = g; each = y.digits; some = some-members g y.one; left = longer g f y x (omega (arith, n)); right = alone g y }
