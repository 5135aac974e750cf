-- Laws of one counter: a weight that joins or leaves it, a sum that it joins.
use Prim.Native.Nat.{ℕ, zero, suc, ◌+◌, ◌-◌, ◌≤◌}
use mathlib.Core.Path.{◌≡◌, ap, ◌∙◌}
use mathlib.Core.Bool.{Bool, true, false, cond, ◌&&◌}
use mathlib.Core.List.{List}
use native.Mathlib.Omega.{arith}
use lib.Dec.{ltb}
use lib.IntN.{ℤ, pos, negsuc, neg_ℤ, sub_ℕ, ◌+ℤ◌, ◌-ℤ◌}
use lib.Signed.{mag, le_z}
use lib.ListN.{get_or, set}
use mir.Syntax.{w32, w64}
use mir.Val.{SFits, of_z, to_z}
use mir.ValLaws.{to_z-of_z, to_z_pos}
use borrow.Author.Tests.{leb-true}
use Rattle.lists.proofs.Told.{and-true}
use Rattle.task.proofs.Counters.{wide}
use Rattle.rules.specs.Words.{counter_fits}

-- Magnitudes: n for n and for -(n+1).
mag-cond : (t : Bool) (x y : ℕ) → mag (cond t (negsuc x) (pos y)) ≤ x + y
mag-cond true x y = omega arith
mag-cond false x y = omega arith

mag-subℕ : (a b : ℕ) → mag (sub_ℕ a b) ≤ a + b
mag-subℕ a b = omega (arith, mag-cond (ltb a b) (b - suc a) (a - b))

pub mag-plus : (a b : ℤ) → mag (a +ℤ b) ≤ mag a + mag b + 1
mag-plus (pos a) (pos b) = omega arith
mag-plus (pos a) (negsuc b) = omega (arith, mag-subℕ a (suc b))
mag-plus (negsuc a) (pos b) = omega (arith, mag-subℕ b (suc a))
mag-plus (negsuc a) (negsuc b) = omega arith

mag-neg : (n : ℕ) → mag (neg_ℤ (pos n)) ≤ n
mag-neg zero = omega arith
mag-neg (suc n) = omega arith

-- an integer within ±(n + 1)
pub mag-within : (n : ℕ) (c : ℤ) → (le_z (negsuc n) c && le_z c (pos (suc n))) ≡ true → mag c ≤ suc n
mag-within n (pos a) h = leb-true a (suc n) h
mag-within n (negsuc a) h = omega (arith, leb-true a n (and-true _ _ h).0)

mag-counter : (c : ℤ) → counter_fits c ≡ true → mag c ≤ 1073741824
mag-counter c h = mag-within 1073741823 c h

-- The counter at place q, a word of 32 bits.
module _ (counters : List ℤ) (q : ℕ) (is_IsWord : SFits w32 (get_or counters q (pos 0))) where
  abbrev pub here : ℤ
  here = get_or counters q (pos 0)

  here-is : to_z w32 (of_z w32 here) ≡ here
  here-is = to_z-of_z w32 here is_IsWord

  -- In its range, a weight can join or leave it.
  module _ (weight : ℕ) (fits : counter_fits here ≡ true) (light : weight ≤ 65535) where
    weight_is : to_z w32 weight ≡ pos weight
    weight_is = to_z_pos w32 weight (omega arith)

    raised : SFits w32 (here +ℤ pos weight)
    raised = record { sfits = omega (arith, mag-counter here fits, mag-plus here (pos weight)) }

    lowered : SFits w32 (here -ℤ pos weight)
    lowered = record { sfits = omega (arith, mag-counter here fits, mag-plus here (neg_ℤ (pos weight)), mag-neg weight) }

    pub raise-fits : SFits w32 (to_z w32 (of_z w32 here) +ℤ to_z w32 weight)
    raise-fits = rw (here-is, weight_is) raised

    pub lower-fits : SFits w32 (to_z w32 (of_z w32 here) -ℤ to_z w32 weight)
    lower-fits = rw (here-is, weight_is) lowered

    pub raise-made : set counters q (to_z w32 (of_z w32 (to_z w32 (of_z w32 here) +ℤ to_z w32 weight))) ≡ set counters q (here +ℤ pos weight)
    raise-made = rw (here-is, weight_is, to_z-of_z w32 (here +ℤ pos weight) raised)

    pub lower-made : set counters q (to_z w32 (of_z w32 (to_z w32 (of_z w32 here) -ℤ to_z w32 weight))) ≡ set counters q (here -ℤ pos weight)
    lower-made = rw (here-is, weight_is, to_z-of_z w32 (here -ℤ pos weight) lowered)

-- A counter that is read joins a sum.
module _ (counter : ℤ) (is_IsWord : SFits w32 counter) where
  pub test_read : (test : ℤ → Bool) (b : Bool) → b ≡ test (to_z w32 (of_z w32 counter)) → b ≡ test counter
  test_read test b h = h ∙ ap test (to_z-of_z w32 counter is_IsWord)

  module _ (sum : ℤ) (is_sum : SFits w64 sum) (small : mag sum ≤ 1099511627776) where
    more : SFits w64 (sum +ℤ counter)
    more = record { sfits = omega (arith, is_IsWord.sfits, mag-plus sum counter) }

    abbrev pub added : ℤ
    added = to_z w64 (of_z w64 sum) +ℤ to_z w64 (of_z w64 (to_z w32 (of_z w32 counter)))

    pub add-fits : SFits w64 added
    add-fits = rw (to_z-of_z w64 sum is_sum, to_z-of_z w32 counter is_IsWord, to_z-of_z w64 counter (wide counter is_IsWord)) more

    pub add-made : to_z w64 (of_z w64 added) ≡ sum +ℤ counter
    add-made = rw (to_z-of_z w64 sum is_sum, to_z-of_z w32 counter is_IsWord, to_z-of_z w64 counter (wide counter is_IsWord), to_z-of_z w64 (sum +ℤ counter) more)
