-- Candidates that aren't all workers: 1 and 3 of four, of which 1 has the property of the least.
use Prim.Native.Nat.{ℕ, zero, suc, ◌<◌}
use mathlib.Core.Path.{◌≡◌}
use mathlib.Core.Logic.{◌⊎◌, inl, inr}
use mathlib.Core.List.{[], ◌∷◌}
use native.Mathlib.Omega.{arith}
use native.Mathlib.Decide.{ℕ_discrete}
use Rattle.lists.specs.Lists.{occ, Rising}
use Rattle.lists.proofs.Occurrences.{occ-nil, occ-cons, occ-hit, occ-miss}
use Rattle.choice.specs.Least.{Least, Listed, least_from, least}
use Rattle.choice.proofs.Examples.{four}
use Rattle.choice.proofs.Least.{least-is}

abbrev pub OneOrThree : ℕ → Type 0
OneOrThree h = (◌≡◌ {A = ℕ} h 1) ⊎ (◌≡◌ {A = ℕ} h 3)

two-rise : Rising (1 ∷ 3 ∷ [])
two-rise a zero l m = absurd (omega arith)
two-rise zero (suc zero) l m = omega arith
two-rise (suc a) (suc zero) l m = absurd (omega arith)
two-rise a (suc (suc b)) l m = absurd (omega arith)

two-listed : Listed OneOrThree (1 ∷ 3 ∷ [])
two-listed = record { rising = two-rise; members = λ h. (λ c. one_of h c (ℕ_discrete h 1) (ℕ_discrete h 3), member h) }
  where
    one_of : (h : ℕ) → 0 < occ h (1 ∷ 3 ∷ []) → Dec (h ≡ 1) → Dec (h ≡ 3) → OneOrThree h
    one_of h c (yes e) d = inl e
    one_of h c (no n) (yes e) = inr e
    one_of h c (no n) (no k) = absurd (omega (arith, occ-miss ℕ_discrete h 1 (3 ∷ []) n, occ-miss ℕ_discrete h 3 [] k, occ-nil ℕ_discrete h))

    member : (h : ℕ) → OneOrThree h → 0 < occ h (1 ∷ 3 ∷ [])
    member h (inl e) = omega (arith, occ-hit ℕ_discrete h 1 (3 ∷ []) e)
    member h (inr e) = omega (arith, occ-cons ℕ_discrete h 1 (3 ∷ []), occ-hit ℕ_discrete h 3 [] e)

pub two-least : Least OneOrThree four 1
unfolding least_from least
two-least = (least-is four (1 ∷ 3 ∷ []) two-listed (omega arith)).0
