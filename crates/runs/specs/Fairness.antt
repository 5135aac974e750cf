-- "A task with p tasks ahead of it in its ring is therefore taken within (p+1)·P accepted fetches of its owner." Here P is `workers`, and the p tasks ahead are a
-- list.
use Rattle.std.specs.Prelude.{ℕ, ◌+◌, ◌*◌, ◌≤◌, ◌<◌, ◌≡◌, List, ◌∷◌, ◌++◌, length}
use Rattle.task.specs.Refusals.{task_fetched}
use Rattle.machine.specs.Fetches as jobs
use Rattle.rules.specs.Memory.{Mem}
use Rattle.algorithm1.specs.Reading.{queue_in}
use Rattle.runs.specs.Calls.{Call, plain, Run, memory_of}

-- how many of the calls are accepted Fetches by worker i, as long as the run lasts: an accepted begin ends it
abbrev pub fetches : ℕ → List Call → Mem → ℕ
fetches = jobs.fetches plain

-- Of the calls cs from memory m on, one of the first `bound` accepted Fetches by the owner answers t and takes it from the owner's ring that the filler fills. It is the t
-- that has `behind` behind it (no task stands twice in a run's rings).
abbrev pub TakenWithin : (workers slots owner filler t : ℕ) (behind : List ℕ) (bound : ℕ) → List Call → Mem → Type 0
TakenWithin = jobs.TakenWithin plain queue_in task_fetched

-- PROMISE: of every run, owner and filler, whatever stands in the ring, and every further list of calls
pub record FairFetching : Type 0 where
  pub soon : (r : Run) (owner filler : ℕ) → owner < r.workers → filler < r.workers
      → (ahead : List ℕ) (t : ℕ) (behind : List ℕ) → queue_in r.workers r.slots (memory_of r) owner filler ≡ ahead ++ (t ∷ behind)
      → (further : List Call) → (length ahead + 1) * r.workers ≤ fetches owner further (memory_of r)
      → TakenWithin r.workers r.slots owner filler t behind ((length ahead + 1) * r.workers) further (memory_of r)
