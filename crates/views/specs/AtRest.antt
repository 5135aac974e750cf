-- What a finished run leaves: nothing to do.
use Rattle.std.specs.Prelude.{ℕ, ◌<◌, ◌≡◌, []}
use Rattle.machine.specs.Runs.{View}
use Rattle.ring.specs.Ring.{Sound, Empty}
use Rattle.memory.specs.Family.{Family}
use Rattle.memory.specs.Memory.{Mem}
use Rattle.plans.specs.Memory.{ring_number, ends_in, degree_in, phase_in, places_in}
use Rattle.split_lists.specs.Reading.{queue_in}

-- nothing is left to do
pub record AtRest {F : Family} {C : Type 0} (v : View (Mem F) C) : Type 0 where
  -- each ring's list is empty, and it isn't so because its ends are damaged: the count is 0
  pub queues : (i j : ℕ) → i < v.workers → j < v.workers → queue_in v.workers v.slots v.memory i j ≡ []
  pub rings : (i j : ℕ) → i < v.workers → j < v.workers
      → Sound v.slots (ends_in v.memory (ring_number v.workers i j)) × Empty (ends_in v.memory (ring_number v.workers i j))
  pub phases : (i : ℕ) → i < v.workers → ◌≡◌ {A = ℕ} (phase_in v.memory i) 0
  pub buffers : (i : ℕ) → i < v.workers → (places_in v.memory i).read ≡ (places_in v.memory i).write
  pub degrees : (t : ℕ) → ◌≡◌ {A = ℕ} (degree_in v.memory t) 0
