-- In a weak run, whose memory only the engine writes, no call is refused with 8 or 12: no step ever finds "a damaged word", nor does Complete ever find
-- E + R entries recorded.
use Rattle.std.specs.Prelude.{ℕ, ◌≤◌, ◌<◌, ◌≡◌}
use Rattle.task.specs.declared.Limits.{Limits}
use Rattle.task.specs.declared.Step.{Step}
use Rattle.copies.specs.Copies.{is_copy}
use Rattle.weak_task.specs.Says.{step_says}
use Rattle.weak_rules.specs.Memory.{Mem, tasks, row_in, held, entries_in}
use Rattle.weak_rules.specs.Steps.{step}
pub use Rattle.views.specs.Damage.{NoDamage, NoDamageIn}
use Rattle.weak_runs.specs.Calls.{Call, View, graph_of, copies_in}

-- PROMISE, of what every run shows (`undamaged`): after every list of its calls
pub record Undamaged (v : View Mem Call) : Type 0 where
  -- any step that may come next, with any limits, P, K and worker number
  pub next : (limits : Limits) (p k i : ℕ) (s : Step) → NoDamage (step_says (step limits p k i s v.memory).answer)
  -- the answers so far, those of begins and lookups too
  pub events : NoDamageIn v.events
  -- "buffer places .. read ≤ write ≤ N", and no more than E + R entries
  pub places : (i : ℕ) → i < v.workers
      → ((row_in v.memory i).read ≤ (row_in v.memory i).write) × ((row_in v.memory i).write ≤ tasks v.lent)
  pub entries : entries_in v.memory ≤ copies_in v
  -- a worker that isn't idle holds a copy of the graph
  pub phases : (i : ℕ) → i < v.workers → (row_in v.memory i).phase ≤ 2
  pub hands : (i : ℕ) → i < v.workers → ¬ (◌≡◌ {A = ℕ} (row_in v.memory i).phase 0) → 0 < is_copy (graph_of v) (held v.memory i)
