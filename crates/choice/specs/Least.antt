-- "target j is the worker with the least sum of its P counters, the lowest number on equal sums": the least of any candidates, by any sums. The
-- plain rule's candidates are all P workers, its sums those of the counters.
use Rattle.std.specs.Prelude.{ℕ, ◌+◌, ◌*◌, ◌<◌, cond, ◌↔◌, List, [], ◌∷◌, get_or, ℤ, pos, ◌≤ℤ◌, ◌<ℤ◌}
use Rattle.std.specs.Int.Signed.{lt_z}
use Rattle.lists.specs.Lists.{occ, Rising}
use Rattle.lists.specs.Sums.{sum_to_z}

-- "the sum of its P counters": worker j's are p, from place j·p on
unfoldable pub load : ℕ → List ℤ → ℕ → ℤ
load p counters j = sum_to_z p (λ f. get_or counters (j * p + f) (pos 0))

pub record Least (Candidate : ℕ → Type 0) (sum : ℕ → ℤ) (j : ℕ) : Type 0 where
  pub candidate : Candidate j
  -- "the least sum"
  pub at_most : (h : ℕ) → Candidate h → sum j ≤ℤ sum h
  -- "the lowest number on equal sums"
  pub lowest : (h : ℕ) → Candidate h → h < j → sum j <ℤ sum h

-- Computed, from the list of the candidates.

-- the list has them all and nothing else, rising
pub record Listed (Candidate : ℕ → Type 0) (owners : List ℕ) : Type 0 where
  pub rising : Rising owners
  pub members : (h : ℕ) → (0 < occ h owners) ↔ Candidate h

-- of the best so far and the further candidates the one with the least sum, the first on equal sums
unfoldable pub least_from : ℕ → List ℕ → (ℕ → ℤ) → ℕ
least_from best [] sum = best
least_from best (j ∷ js) sum = least_from (cond (lt_z (sum j) (sum best)) j best) js sum

unfoldable pub least : List ℕ → (ℕ → ℤ) → ℕ
least [] sum = 0
least (j ∷ js) sum = least_from j js sum
