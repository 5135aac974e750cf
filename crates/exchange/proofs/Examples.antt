-- The pairs that two orders put differently, computed.
use Prim.Native.Nat.{ℕ}
use mathlib.Core.Path.{◌≡◌, refl}
use mathlib.Core.List.{[], ◌∷◌}
use native.Mathlib.Decide.{ℕ_discrete}
use Rattle.lists.specs.Lists.{place_of, tabulate, all_of}
use Rattle.lists.specs.Sums.{sum_of}
use Rattle.exchange.specs.Pairs.{differently, pairs_differing}

-- the diamond's two orders, 0 1 2 3 and 0 2 1 3: tasks 1 and 2
pub diamond-pairs : ◌≡◌ {A = ℕ} (pairs_differing ℕ_discrete (all_of 4) (0 ∷ 1 ∷ 2 ∷ 3 ∷ []) (0 ∷ 2 ∷ 1 ∷ 3 ∷ [])) 1
unfolding ℕ_discrete place_of tabulate all_of sum_of differently pairs_differing
diamond-pairs = refl

-- three tasks that nothing orders, one way and the other: every pair
pub reversed-pairs : ◌≡◌ {A = ℕ} (pairs_differing ℕ_discrete (all_of 3) (0 ∷ 1 ∷ 2 ∷ []) (2 ∷ 1 ∷ 0 ∷ [])) 3
unfolding ℕ_discrete place_of tabulate all_of sum_of differently pairs_differing
reversed-pairs = refl
