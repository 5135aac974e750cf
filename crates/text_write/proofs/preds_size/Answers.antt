use Prim.Native.Nat.{ℕ, ◌+◌}
use mathlib.Core.Path.{◌≡◌}
use mathlib.Core.List.{List, [], ◌∷◌}
use native.Mathlib.Omega.{arith}
use lib.ListN.{length}
use Rattle.std.proofs.Common.{rules}
use Rattle.std.specs.List.{fold, sum_by}
use Rattle.lists.specs.Sums.{sum_of}
use Rattle.layout.specs.Digits.{digits_of}
use Rattle.layout.specs.Plain.{pred_size}
use Rattle.text_write.proofs.preds_size.Goals as goal

-- added up from the left, from a on
sums : (a : ℕ) (l : List ℕ) → fold (λ s v. s + (length (digits_of v) + 1)) a l ≡ a + sum_of pred_size l
unfolding sum_of pred_size
sums a [] = omega arith
sums a (v ∷ l) = omega (arith, sums (a + (length (digits_of v) + 1)) l)

pub returns : goal.returns
returns c =
    let e : c.sum.result ≡ sum_by (λ v. length (digits_of v) + 1) c.args.preds.now = search rules in
    omega (arith, e, sums 0 c.args.preds.now)
