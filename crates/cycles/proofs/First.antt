-- Laws of the search for the smallest task on a cycle.
use Prim.Native.Nat.{ℕ, ◌≤◌, ◌<◌}
use mathlib.Core.Path.{◌≡◌, sym, ◌∙◌}
use mathlib.Core.Bool.{Bool, true}
use mathlib.Core.List.{List}
use native.Mathlib.Omega.{arith}
use lib.ListN.{length, take}
use lib.Seq.{length-take-le}
use Rattle.lists.specs.Decided.{holds}
use Rattle.lists.proofs.Decided.{holds-yes, first-is, first-none}
use Rattle.graph.specs.Graph.{Graph}
use Rattle.graph.specs.Decide.{on_cycle?}
use Rattle.graph.specs.Stripping.{Stripped}
use Rattle.graph.specs.Check.{first_on_cycle}
use Rattle.graph.proofs.Stripping.{all-stripped}
use Rattle.cycles.specs.Ranks.{NoneBelow}

module _ {g : Graph} (t : ℕ) where
  pub found_first : {r : Bool} → r ≡ holds (on_cycle? g t) → r ≡ true → t < g.tasks → NoneBelow g t → t ≡ first_on_cycle g
  unfolding first_on_cycle
  found_first e f h n = first-is g.tasks (on_cycle? g) t h (holds-yes (on_cycle? g t) (sym e ∙ f)) n

  pub none_first : g.tasks ≤ t → NoneBelow g t → g.tasks ≡ first_on_cycle g
  unfolding first_on_cycle
  none_first h n = first-none g.tasks (on_cycle? g) (λ k l. n k (omega arith))

-- where all tasks are stripped, none is on a cycle
pub all-gone : {g : Graph} (order : List ℕ) (r : ℕ) → r ≤ length order → r ≡ g.tasks → Stripped g (take r order) → g.tasks ≡ first_on_cycle g
all-gone {g} order r l e s = none_first g.tasks (omega arith) (λ k h. all-stripped s.strips s.whole (length-take-le r order l ∙ e) k)
