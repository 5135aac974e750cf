-- The least of the workers' sums at any width, and whether the counters looked at so far are in their range.
use Prim.Native.Nat.{ℕ, suc, ◌+◌, ◌*◌, ◌≤◌, ◌<◌}
use mathlib.Core.Path.{◌≡◌, refl, ap, ◌∙◌}
use mathlib.Core.Bool.{true, false}
use mathlib.Core.List.{List, ◌∷◌}
use native.Mathlib.Omega.{arith}
use native.Mathlib.Numerals.{add-one}
use native.Mathlib.Nat.{mul-le-mul_right, suc-mul, zero-mul}
use lib.IntN.{ℤ}
use lib.Signed.{lt_z}
use lib.ListN.{length, drop, drop_of_length-le}
use lib.Seq.{drop-cons}
use mir.Syntax.{Width}
use mir.Val.{SFits, of_z, to_z}
use mir.ValLaws.{to_z-of_z}
use Rattle.lists.specs.Lists.{all_of}
use Rattle.lists.proofs.Blocks.{length-all, all-at}
use Rattle.rules.specs.Words.{counters_fit}
use Rattle.counters.specs.Choice.{Loads}
use Rattle.choice.specs.Least.{load, least_from, least}
use Rattle.choice.proofs.Least.{least-replaces, least-keeps}

-- The best of the workers before j and its sum: from it and the later ones comes the target.
pub record Best (p : ℕ) (counters : List ℤ) (j best : ℕ) (sum : ℤ) : Type 0 where
  pub worker : best < p
  pub sum_is : sum ≡ load p counters best
  pub rest : least (all_of p) (load p counters) ≡ least_from best (drop j (all_of p)) (load p counters)

module _ (w : Width) (p : ℕ) (counters : List ℤ) where
  -- the workers from j on
  from : (j : ℕ) → j < p → drop j (all_of p) ≡ j ∷ drop (suc j) (all_of p)
  from j h = drop-cons (all_of p) j 0 (omega (arith, length-all p)) ∙ ap (λ (x : ℕ). x ∷ drop (suc j) (all_of p)) (all-at p j h)

  pub best-first : (s : ℤ) → SFits w s → s ≡ load p counters 0 → 0 < p → Best p counters 1 0 (to_z w (of_z w s))
  unfolding least
  best-first s k e h = record { worker = h; sum_is = to_z-of_z w s k ∙ e; rest = ap (λ (js : List ℕ). least js (load p counters)) (from 0 h) }

  module _ (j best : ℕ) (sum : ℤ) (b : Best p counters j best sum) where
    -- worker j and its sum, just computed
    module _ (inside : j < p) (s : ℤ) (is_sum : SFits w s) (e : s ≡ load p counters j) where
      abbrev later : List ℕ
      later = drop (j + 1) (all_of p)

      new-sum : to_z w (of_z w s) ≡ load p counters j
      new-sum = to_z-of_z w s is_sum ∙ e

      compared : lt_z (load p counters j) (load p counters best) ≡ lt_z (to_z w (of_z w s)) sum
      compared = rw (new-sum, b.sum_is)

      looked : least (all_of p) (load p counters) ≡ least_from best (j ∷ later) (load p counters)
      looked = rw add-one (b.rest ∙ ap (λ (js : List ℕ). least_from best js (load p counters)) (from j inside))

      pub best-replaced : lt_z (to_z w (of_z w s)) sum ≡ true → Best p counters (j + 1) j (to_z w (of_z w s))
      best-replaced t =
          record {
            worker = inside;
            sum_is = new-sum;
            rest = looked ∙ least-replaces (load p counters) best j later (compared ∙ t);
          }

      pub best-kept : lt_z (to_z w (of_z w s)) sum ≡ false → Best p counters (j + 1) best sum
      best-kept t =
          record {
            worker = b.worker;
            sum_is = b.sum_is;
            rest = looked ∙ least-keeps (load p counters) best j later (compared ∙ t);
          }

    pub best-whole : p ≤ j → best ≡ least (all_of p) (load p counters)
    unfolding least_from
    best-whole h = rw (b.rest, drop_of_length-le (all_of p) {i = j} (omega (arith, length-all p)))

-- All counters of the workers before j are in their range.
abbrev pub FitTo : ℕ → List ℤ → ℕ → Type 0
FitTo p counters j = counters_fit counters ≡ counters_fit (drop (j * p) counters)

module _ (p : ℕ) (counters : List ℤ) where
  pub fit_none : FitTo p counters 0
  fit_none = rw (zero-mul p) refl

  -- and worker j's own
  pub fit_on : (j : ℕ) (s : ℤ) → Loads p counters j s true → FitTo p counters j → FitTo p counters (j + 1)
  fit_on j s e before = before ∙ e.1 ∙ rw (add-one j, suc-mul j p) refl

  pub fit-whole : (j : ℕ) → FitTo p counters j → p ≤ j → length counters ≡ p * p → counters_fit counters ≡ true
  unfolding counters_fit
  fit-whole j e h l = rw (e, drop_of_length-le counters {i = j * p} (omega (arith, l, mul-le-mul_right p h)))
