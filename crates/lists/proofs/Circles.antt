-- Laws of numbers modulo n.
use Prim.Native.Nat.{ℕ, suc, ◌+◌, ◌-◌, ◌%◌, ◌≤◌, ◌<◌}
use mathlib.Core.Path.{◌≡◌, ap, ◌∙◌}
use native.Mathlib.Omega.{arith}
use native.Mathlib.Nat.{mod-lt, mod_self, mod-eq_of_lt, mod-eq-sub-mod, mod-add-mod}
use native.Mathlib.Decide.{dec_le}
use lib.ListN.{length, get_or}
use Rattle.lists.specs.Circles.{after, around}
use Rattle.lists.proofs.Blocks.{length-tabulate, get_d_tabulate}

-- a sum that goes past n once
pub mod-far : (n x d : ℕ) → x < n → d < n → n ≤ x + d → (x + d) % n ≡ x + d - n
mod-far n x d hx hd h = mod-eq-sub-mod h ∙ mod-eq_of_lt (omega arith)

pub after-lt : (n x : ℕ) → 0 < n → after n x < n
unfolding after
after-lt n x h = mod-lt (x + 1) h

pub after-up : (n x : ℕ) → x + 1 < n → after n x ≡ x + 1
unfolding after
after-up n x h = mod-eq_of_lt h

pub after-wrap : (n x : ℕ) → x + 1 ≡ n → after n x ≡ 0
unfolding after
after-wrap n x e = rw e (mod_self n)

-- d on from the number after x is one more than d on from x
pub mod-after : (n x d : ℕ) → (after n x + d) % n ≡ (x + suc d) % n
unfolding after
mod-after n x d = mod-add-mod (x + 1) n d ∙ ap (λ (m : ℕ). m % n) (omega arith)

pub length-around : (n x : ℕ) → length (around n x) ≡ n
unfolding around
length-around n x = length-tabulate n (λ d. (x + d) % n)

pub around-at : (n x d e : ℕ) → d < n → get_or (around n x) d e ≡ (x + d) % n
unfolding around
around-at n x d e h = get_d_tabulate n (λ d. (x + d) % n) e d h

-- every number below n is some way on from x, modulo n
pub mod-reached : (n x o : ℕ) → x < n → o < n → (d : ℕ) × (d < n) × ((x + d) % n ≡ o)
mod-reached n x o hx ho = go (dec_le x o)
  where
    go : Dec (x ≤ o) → (d : ℕ) × (d < n) × ((x + d) % n ≡ o)
    go (yes h) = (o - x, omega arith, mod-eq_of_lt {n = x + (o - x)} (omega arith) ∙ omega arith)
    go (no h) = (o + n - x, omega arith, mod-far n x (o + n - x) hx (omega arith) (omega arith) ∙ omega arith)
