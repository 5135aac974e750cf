-- Targets of two and of three workers, and of two candidates among four, computed.
use Prim.Native.Nat.{ℕ}
use mathlib.Core.Path.{◌≡◌, refl}
use mathlib.Core.List.{[], ◌∷◌}
use lib.ListN.{get_or}
use lib.IntN.{ℤ, pos, negsuc}
use Rattle.lists.specs.Lists.{tabulate, all_of}
use Rattle.lists.specs.Sums.{sum_to_z}
use Rattle.choice.specs.Least.{load, least_from, least}

-- sums 3 and 3: the lowest number
pub equal-sums : ◌≡◌ {A = ℕ} (least (all_of 2) (load 2 (pos 4 ∷ negsuc 0 ∷ pos 2 ∷ pos 1 ∷ []))) 0
unfolding tabulate all_of sum_to_z load least_from least
equal-sums = refl

-- sums 6 and 4, though over the columns they would be 3 and 7
pub least-row : ◌≡◌ {A = ℕ} (least (all_of 2) (load 2 (pos 1 ∷ pos 5 ∷ pos 2 ∷ pos 2 ∷ []))) 1
unfolding tabulate all_of sum_to_z load least_from least
least-row = refl

-- sums 9, 1 and 2
pub second-row : ◌≡◌ {A = ℕ} (least (all_of 3) (load 3 (pos 0 ∷ pos 0 ∷ pos 9 ∷ pos 1 ∷ pos 0 ∷ pos 0 ∷ pos 2 ∷ pos 0 ∷ pos 0 ∷ []))) 1
unfolding tabulate all_of sum_to_z load least_from least
second-row = refl

-- sums of workers 0 to 3: the least is worker 0's
abbrev pub four : ℕ → ℤ
four j = get_or (negsuc 6 ∷ pos 5 ∷ pos 2 ∷ pos 5 ∷ []) j (pos 0)

pub of-all : ◌≡◌ {A = ℕ} (least (all_of 4) four) 0
unfolding tabulate all_of least_from least
of-all = refl

-- candidates 1 and 3 alone, whose sums are equal: the lowest number of these
pub of_two : ◌≡◌ {A = ℕ} (least (1 ∷ 3 ∷ []) four) 1
unfolding least_from least
of_two = refl
