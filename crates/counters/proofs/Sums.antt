-- The sum of a worker's counters at any width, and whether they are in their range or even small.
use Prim.Native.Nat.{ℕ, suc, ◌+◌, ◌-◌, ◌*◌, ◌≤◌, ◌<◌}
use mathlib.Core.Path.{◌≡◌, refl, ap, ◌∙◌}
use mathlib.Core.Bool.{Bool, true, false, ◌&&◌}
use mathlib.Core.List.{List, [], ◌∷◌}
use native.Mathlib.Omega.{arith}
use native.Mathlib.Numerals.{add-one}
use native.Mathlib.Nat.{mul-suc, add-zero, add-suc}
use lib.IntN.{ℤ, pos, negsuc, ◌+ℤ◌}
use lib.Signed.{mag}
use lib.ListN.{length, get_or, take, drop}
use lib.Seq.{drop-cons, get_or-take, get_or-drop}
use mir.Syntax.{Width, w32}
use mir.Val.{SFits, of_z, to_z}
use mir.ValLaws.{to_z-of_z}
use borrow.Author.Tests.{le-leb}
use Rattle.lists.specs.Sums.{sum_to_z}
use Rattle.rules.specs.Words.{counter_fits, counters_fit}
use Rattle.counters.specs.Choice.{Small}
use Rattle.choice.specs.Least.{load}
use Rattle.counters.proofs.Laws.{mag-plus, test_read}

-- A counter of a worker's part of the list.
pub in_part : (counters : List ℤ) (first p f : ℕ) → f < p → get_or (take (first + p - first) (drop first counters)) f (pos 0) ≡ get_or counters (first + f) (pos 0)
in_part counters first p f h = get_or-take (first + p - first) (drop first counters) f (pos 0) (omega arith) ∙ get_or-drop first counters f (pos 0)

-- The sum of f counters from place `first` on, each of a magnitude below `each`.
pub record Summed (each : ℕ) (counters : List ℤ) (first f : ℕ) (sum : ℤ) : Type 0 where
  pub total : sum ≡ sum_to_z f (λ i. get_or counters (first + i) (pos 0))
  pub small : mag sum ≤ each * f

module _ (each : ℕ) (counters : List ℤ) (first : ℕ) where
  pub sum-none : Summed each counters first 0 (pos 0)
  unfolding sum_to_z
  sum-none = record { total = refl; small = omega arith }

  -- the next counter, as it is read, joins; a local that was written with an integer holds its bits
  pub sum-on : (w : Width) (f : ℕ) (sum : ℤ) → Summed each counters first f sum → SFits w32 (get_or counters (first + f) (pos 0))
      → (r : ℤ) → SFits w r → r ≡ sum +ℤ to_z w32 (of_z w32 (get_or counters (first + f) (pos 0)))
      → mag (get_or counters (first + f) (pos 0)) < each → Summed each counters first (f + 1) (to_z w (of_z w r))
  unfolding sum_to_z
  sum-on w f sum s is_IsWord r k e m =
      let q = rw (to_z-of_z w32 _ is_IsWord) at e in
      record {
        total = rw (to_z-of_z w r k, q, s.total, add-one);
        small = rw (to_z-of_z w r k, q, add-one, mul-suc) (omega (arith, s.small, m, mag-plus sum (get_or counters (first + f) (pos 0))));
      }

  pub sum-whole : (p j f : ℕ) (sum : ℤ) → Summed each counters first f sum → first ≡ j * p → f ≡ p → sum ≡ load p counters j
  unfolding load
  sum-whole p j f sum s e q = rw (e, q) at s.total

-- f counters from place `first` on are in their range or not, which leaves those after them.
pub record Ranged (counters : List ℤ) (first f : ℕ) (fits : Bool) : Type 0 where
  pub rest : counters_fit (drop first counters) ≡ (fits && counters_fit (drop (first + f) counters))

and_assoc : (a b c : Bool) → (a && (b && c)) ≡ ((a && b) && c)
and_assoc true b c = refl
and_assoc false b c = refl

module _ (counters : List ℤ) (first : ℕ) where
  pub ranged-none : Ranged counters first 0 true
  ranged-none = record { rest = rw (add-zero first) refl }

  pub ranged-on : (f : ℕ) (fits : Bool) → Ranged counters first f fits → first + f < length counters → SFits w32 (get_or counters (first + f) (pos 0))
      → (b : Bool) → b ≡ counter_fits (to_z w32 (of_z w32 (get_or counters (first + f) (pos 0)))) → Ranged counters first (f + 1) (fits && b)
  unfolding counters_fit
  ranged-on f fits e inside is_IsWord b h =
      record {
        rest =
            e.rest
            ∙ ap (λ (l : List ℤ). fits && counters_fit l) (drop-cons counters (first + f) (pos 0) inside)
            ∙ rw (test_read _ is_IsWord counter_fits b h, add-one f, add-suc first f) (and_assoc fits (counter_fits (get_or counters (first + f) (pos 0))) (counters_fit (drop (suc (first + f)) counters)));
      }

  pub ranged-whole : (p f : ℕ) (fits : Bool) → Ranged counters first f fits → f ≡ p
      → counters_fit (drop first counters) ≡ (fits && counters_fit (drop (first + p) counters))
  ranged-whole p f fits e q = rw q at e.rest

-- Small counters are in their range.
small-fits : (c : ℤ) → mag c ≤ 67108864 → counter_fits c ≡ true
small-fits (pos a) h = le-leb a 1073741824 (omega arith)
small-fits (negsuc a) h = rw (le-leb a 1073741823 (omega arith))

pub small-fit : (counters : List ℤ) → Small counters → counters_fit counters ≡ true
unfolding counters_fit
small-fit [] h = refl
small-fit (c ∷ counters) h = rw (small-fits c (h 0 (omega arith)), small-fit counters (λ q l. h (suc q) (omega (arith, l))))

-- P as a constant.
pub squared : {n p q : ℕ} → p ≡ q → n ≡ p * p → n ≡ q * q
squared e h = h ∙ ap (λ x. x * x) e

-- At 32 bits, 16 small counters.
module _ (counters : List ℤ) (first f : ℕ) (sum : ℤ) (s : Summed 67108865 counters first f sum) (few : f < 16) where
  module _ (is_IsWord : SFits w32 (get_or counters (first + f) (pos 0))) (small : mag (get_or counters (first + f) (pos 0)) ≤ 67108864) where
    abbrev narrow : ℤ
    narrow = sum +ℤ to_z w32 (of_z w32 (get_or counters (first + f) (pos 0)))

    pub narrow-fits : SFits w32 narrow
    narrow-fits =
        rw (to_z-of_z w32 _ is_IsWord)
        (record { sfits = omega (arith, s.small, small, mag-plus sum (get_or counters (first + f) (pos 0))) })

    pub narrow-on : Summed 67108865 counters first (f + 1) (to_z w32 (of_z w32 narrow))
    narrow-on = sum-on 67108865 counters first w32 f sum s is_IsWord narrow narrow-fits refl (omega (arith, small))
