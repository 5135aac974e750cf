-- The numbers within their limits, and the lengths of the lent lists.
use Rattle.std.specs.Prelude.{ℕ, ◌≤◌, Bool, ◌&&◌, ◌∷◌, leb}
use Rattle.task.specs.Types.{capped}
use Rattle.task.specs.declared.Limits.{Limits}
use Rattle.memory.specs.Family.{Family}
use Rattle.memory.specs.Field as list
use Rattle.memory.specs.Memory.{Mem}
use Rattle.memory.specs.Shape.{Shaped, sizes_in, all_fit, others}
use Rattle.plans.specs.Memory.{tasks, edges}

-- P, K, N and E keep the limits; a limit above the engine's counts as the engine's
pub record KeepsLimits (limits : Limits) (p k n e : ℕ) : Type 0 where
  pub one_worker : 1 ≤ p
  pub few_workers : p ≤ (capped limits).workers
  pub two_slots : 2 ≤ k
  pub few_slots : k ≤ (capped limits).slots
  pub few_tasks : n ≤ (capped limits).tasks
  pub few_edges : e ≤ (capped limits).edges

-- "P from 1 to 16. Each ring has K slots, K from 2 to 64.": 16 and 64 at the engine's limits, and a limit above those counts as those
unfoldable pub numbers_fit : Limits → ℕ → ℕ → Bool
numbers_fit limits p k = (leb 1 p && leb p (capped limits).workers) && (leb 2 k && leb k (capped limits).slots)

module _ {F : Family} where
  -- "Each length is exact.", for P workers and K slots; the figures are `length_of`'s
  abbrev pub Lengths : ℕ → ℕ → Mem F → Type 0
  Lengths p k m = Shaped F p k (sizes_in m)

  -- the lists behind the tables that begin is lent filled have their lengths, which begin tests with the graph's check
  unfoldable pub others_fit : ℕ → ℕ → Mem F → Bool
  others_fit p k m = all_fit F p k (sizes_in m) (others F)

  unfoldable pub lengths_fit : ℕ → ℕ → Mem F → Bool
  lengths_fit p k m = all_fit F p k (sizes_in m) (list.pred_starts ∷ others F)

-- numbers within their limits and lists of their lengths: what 2 and 1 leave to a step
pub record Fits {F : Family} (own : Limits) (p k : ℕ) (m : Mem F) : Type 0 where
  pub limits : KeepsLimits own p k (tasks m) (edges m)
  pub lengths : Lengths p k m
