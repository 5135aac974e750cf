-- "A worker's counters add up to the weight of the tasks fixed to it and not complete." "A counter always lies within ±67,107,840 in an honest run."
use Rattle.std.specs.Prelude.{ℕ, ◌+◌, ◌*◌, ◌<◌, ◌≡◌, cond, not, ◌&&◌, List, [], ◌∷◌, eqb, get_or, pos}
use Rattle.lists.specs.Lists.{joined}
use Rattle.lists.specs.Sums.{sum_to_z, sum_of}
use Rattle.ring.specs.Ring.{Sound}
use Rattle.weak_rules.specs.Memory.{Mem, tasks, ring_number, ends_in, weight_in, degree_in, fixed_in}
pub use Rattle.views.specs.Range.{Within}
use Rattle.weak_runs.specs.Calls.{Call, View}

-- the tasks fixed to worker i and not complete: a task is complete with its last copy, whose Complete brings its degree to 0 (`Fixed.degrees` tells the
-- degree from the record)
unfoldable pub open_of : Mem → ℕ → List ℕ
open_of m i = joined (tasks m) (λ t. cond (eqb (fixed_in m t) i && not (eqb (degree_in m t) 0)) (t ∷ []) [])

-- PROMISE, of what every run shows (`counters-add-up`): after every list of its calls
pub record CountersAddUp (v : View Mem Call) : Type 0 where
  -- no ring's list is read from damaged ends, as an empty one
  pub ends : (i j : ℕ) → i < v.workers → j < v.workers → Sound v.slots (ends_in v.memory (ring_number v.workers i j))
  -- in the lent words: the counters at places i·P .. i·P + P−1, and begin's weights
  pub words : (i : ℕ) → i < v.workers
      → sum_to_z v.workers (λ j. get_or v.memory.counters (i * v.workers + j) (pos 0)) ≡ pos (sum_of (weight_in v.lent) (open_of v.memory i))
  pub within : (i j : ℕ) → i < v.workers → j < v.workers → Within (get_or v.memory.counters (i * v.workers + j) (pos 0))
