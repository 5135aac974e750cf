-- "A worker's counters then add up to the weight waiting for it plus that in its hand" (document 02, No. 3), "After each step, in memory begun and
-- written by the engine alone". "A counter always lies within ±67,107,840 in an honest run."
use Rattle.std.specs.Prelude.{ℕ, ◌+◌, ◌*◌, ◌<◌, ◌≡◌, cond, List, [], ◌∷◌, ◌++◌, eqb, get_or, pos}
use Rattle.lists.specs.Lists.{joined}
use Rattle.lists.specs.Sums.{sum_to_z, sum_of}
use Rattle.task.specs.Types.{nil}
use Rattle.ring.specs.Ring.{Sound}
use Rattle.rules.specs.Memory.{Mem, ring_number, ends_in, weight_in, row_in, held}
use Rattle.algorithm1.specs.State.{State, weight_of}
use Rattle.algorithm1.specs.Reading.{queue_in, state_of}
pub use Rattle.views.specs.Range.{Within}
use Rattle.runs.specs.Calls.{Call, View}
use Rattle.runs.specs.Items as items

-- each worker's counters add up to the weight of its tasks at the charged stages; a task weighs what the state says
abbrev pub AddsUp : ℕ → State → Type 0
AddsUp p s = items.AddsUp nil.0 (weight_of s) p s

-- the task in worker i's hand, if any: phases 1 and 2 have one (in a run there is no other phase, and it is a task: `Undamaged`)
unfoldable pub in_hand_of : Mem → ℕ → List ℕ
in_hand_of m i = cond (eqb (row_in m i).phase 0) [] (held m i ∷ [])

-- PROMISE, of what every run shows (`counters-add-up`): after every list of its calls
pub record CountersAddUp (v : View Mem Call) : Type 0 where
  -- no ring's list is read from damaged ends, as an empty one
  pub ends : (i j : ℕ) → i < v.workers → j < v.workers → Sound v.slots (ends_in v.memory (ring_number v.workers i j))
  pub adds_up : AddsUp v.workers (state_of v.workers v.slots v.memory)
  -- the same in the lent words: the counters at places i·P .. i·P + P−1, and begin's weights of the tasks in the rings of owner i and of the one in its
  -- hand
  pub words : (i : ℕ) → i < v.workers
      → sum_to_z v.workers (λ j. get_or v.memory.counters (i * v.workers + j) (pos 0))
      ≡ pos (sum_of (weight_in v.lent) (joined v.workers (queue_in v.workers v.slots v.memory i) ++ in_hand_of v.memory i))
  pub within : (i j : ℕ) → i < v.workers → j < v.workers → Within (get_or v.memory.counters (i * v.workers + j) (pos 0))
