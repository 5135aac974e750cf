-- In a run, whose memory only the engine writes, no call is refused with 8 or 12: no step ever finds "a damaged word", nor does Complete ever
-- find "N entries recorded".
use Rattle.std.specs.Prelude.{ℕ, ◌≤◌, ◌<◌, ◌≡◌}
use Rattle.task.specs.Refusals.{step_says}
use Rattle.task.specs.declared.Limits.{Limits}
use Rattle.task.specs.declared.Step.{Step}
use Rattle.rules.specs.Memory.{Mem, tasks, row_in, held, entries_in}
use Rattle.rules.specs.Steps.{step}
pub use Rattle.views.specs.Damage.{NoDamage, NoDamageIn}
use Rattle.runs.specs.Calls.{Call, View}

-- PROMISE, of what every run shows (`undamaged`): after every list of its calls
pub record Undamaged (v : View Mem Call) : Type 0 where
  -- any step that may come next, with any limits, P, K and worker number
  pub next : (limits : Limits) (p k i : ℕ) (s : Step) → NoDamage (step_says (step limits p k i s v.memory).answer)
  -- the answers so far, those of begins and lookups too
  pub events : NoDamageIn v.events
  -- "buffer places .. read ≤ write ≤ N", and no more than N entries
  pub places : (i : ℕ) → i < v.workers
      → ((row_in v.memory i).read ≤ (row_in v.memory i).write) × ((row_in v.memory i).write ≤ tasks v.lent)
  pub entries : entries_in v.memory ≤ tasks v.lent
  -- "phase over 2", "held .. word ≥ N": a worker that isn't idle holds a task
  pub phases : (i : ℕ) → i < v.workers → (row_in v.memory i).phase ≤ 2
  pub hands : (i : ℕ) → i < v.workers → ¬ (◌≡◌ {A = ℕ} (row_in v.memory i).phase 0) → held v.memory i < tasks v.lent
