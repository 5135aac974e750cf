-- "A call with another P or K than begin's meets 2 or 1.": the lengths of the lists tell the numbers.
use Prim.Native.Nat.{ℕ, ◌*◌, ◌≤◌}
use mathlib.Core.Path.{◌≡◌, refl, sym, ap, ◌∙◌}
use mathlib.Core.Bool.{Bool}
use mathlib.Core.Logic.{◌⊎◌, inl, inr}
use mathlib.Core.List.{List, ◌∷◌}
use native.Mathlib.Omega.{arith}
use native.Mathlib.Decide.{dec_le}
use native.Mathlib.Nat.{eq_of_mul-eq-mul_left, mul-le-mul}
use Rattle.lists.proofs.Decided.{stable}
use Rattle.lists.proofs.Told.{Told, told-true, told-false}
use Rattle.task.specs.Refusals.{Said, refused, beyond_limit, wrong_length}
use Rattle.task.specs.Rows.{Refusal, row, only, Follows}
use Rattle.task.specs.declared.Limits.{Limits}
use Rattle.memory.specs.Family.{Family}
use Rattle.memory.specs.Field as list
use Rattle.memory.specs.Memory.{Mem}
use Rattle.plans.specs.Sizes.{Lengths}
use Rattle.plans.specs.Tables.{BeyondPK}

-- the lists' lengths tell the numbers
same_numbers : {F : Family} (p k p' k' : ℕ) (m : Mem F) → Lengths p k m → Lengths p' k' m → 1 ≤ p' → (p' ≡ p) × (k' ≡ k)
same_numbers p k p' k' m l l' h = (e, eq_of_mul-eq-mul_left (p * p) (omega (arith, mul-le-mul one one)) k' k q)
  where
    e : p' ≡ p
    e = sym (l'.list list.rows) ∙ l.list list.rows

    one : 1 ≤ p
    one = omega (arith, e)

    q : p * p * k' ≡ p * p * k
    q = sym (ap (λ (x : ℕ). x * x * k') e) ∙ sym (l'.list list.rings) ∙ l.list list.rings

-- so other numbers within their limits don't fit the lists
pub other-lengths : {F : Family} (limits : Limits) (p k p' k' : ℕ) (m : Mem F) → Lengths p k m → ¬ ((p' ≡ p) × (k' ≡ k)) → ¬ (BeyondPK limits p' k') → ¬ (Lengths p' k' m)
other-lengths limits p k p' k' m l n f l' = n (same_numbers p k p' k' m l l' (stable (dec_le 1 p') (λ h. f (inl (inl (omega arith))))))

abbrev pub TwoOrOne : Said → Type 0
TwoOrOne said = (said ≡ refused beyond_limit 0) ⊎ (said ≡ refused wrong_length 0)

-- a call whose rows begin with 2 and 1, the lengths not being the stated ones
pub two-or-one : (b : Bool) {F L : Type 0} (rest : List Refusal) (said : Said) → Told b (¬ F) F → (¬ F → ¬ L)
    → Follows (row beyond_limit (only 0 F) ∷ row wrong_length (only 0 (¬ L)) ∷ rest) said → TwoOrOne said
two-or-one b rest said (told-true e f) n follows = inr ((follows.refuses wrong_length 0).1 (inr (λ d c. f c.1, inl (refl, (refl, n f)))))
two-or-one b rest said (told-false e f) n follows = inl ((follows.refuses beyond_limit 0).1 (inl (refl, (refl, f))))
