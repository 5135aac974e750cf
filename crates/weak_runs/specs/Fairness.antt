-- "A task with p tasks ahead of it in its ring is therefore taken within (p+1)·P accepted fetches of its owner.", of copies. Here P is `workers`, and the p
-- copies ahead are a list.
use Rattle.std.specs.Prelude.{ℕ, ◌+◌, ◌*◌, ◌≤◌, ◌<◌, ◌≡◌, List, ◌∷◌, ◌++◌, length}
use Rattle.machine.specs.Fetches as jobs
use Rattle.ring.specs.Ring.{queue}
use Rattle.weak_task.specs.Types.{Copy, copy}
use Rattle.weak_task.specs.Says.{copy_fetched}
use Rattle.weak_rules.specs.Memory.{Mem, ring_number, rings_in}
use Rattle.weak_runs.specs.Calls.{Call, weak, Run, memory_of}

-- the copies in the ring of owner o filled by worker j
abbrev pub queue_in : ℕ → ℕ → Mem → ℕ → ℕ → List Copy
queue_in p k m o j = queue (copy 0 0) k (rings_in m) (ring_number p o j)

-- how many of the calls are accepted Fetches by worker i, as long as the run lasts: an accepted begin ends it
abbrev pub fetches : ℕ → List Call → Mem → ℕ
fetches = jobs.fetches weak

-- Of the calls cs from memory m on, one of the first `bound` accepted Fetches by the owner answers c and takes it from the owner's ring that the filler
-- fills. It is the c that has `behind` behind it (no copy stands twice in a run's rings).
abbrev pub TakenWithin : (workers slots owner filler : ℕ) (c : Copy) (behind : List Copy) (bound : ℕ) → List Call → Mem → Type 0
TakenWithin = jobs.TakenWithin weak queue_in copy_fetched

-- PROMISE: of every run, owner and filler, whatever stands in the ring, and every further list of calls
pub record FairFetching : Type 0 where
  pub soon : (r : Run) (owner filler : ℕ) → owner < r.workers → filler < r.workers
      → (ahead : List Copy) (c : Copy) (behind : List Copy) → queue_in r.workers r.slots (memory_of r) owner filler ≡ ahead ++ (c ∷ behind)
      → (further : List Call) → (length ahead + 1) * r.workers ≤ fetches owner further (memory_of r)
      → TakenWithin r.workers r.slots owner filler c behind ((length ahead + 1) * r.workers) further (memory_of r)
