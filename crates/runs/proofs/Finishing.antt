-- PROMISE: every run can be finished, with any limits that it keeps. While it isn't, some step is accepted next, and each adds 1 to the accepted word,
-- which never passes 3N + E.
use Prim.Native.Nat.{ℕ, ◌+◌, ◌*◌, ◌≤◌, ◌<◌}
use native.Mathlib.Omega.{arith}
use native.Mathlib.Decide.{dec_le}
use Rattle.task.specs.Rows.{Acceptance}
use Rattle.task.specs.declared.Limits.{Limits}
use Rattle.task.specs.declared.Step.{Step}
use Rattle.rules.specs.Memory.{plain_shape, Mem, tasks, edges}
use Rattle.rules.proofs.Moves.{accepted-step}
use Rattle.views.proofs.Finishing as finishing
use Rattle.runs.specs.Calls.{Call, plain_calls, View, KeptBy, Run, memory_of, events_of, view_of, longer}
use Rattle.runs.specs.Demand.{accepted_completes, accepted_steps, Finished, next_says, CanFinish}
use Rattle.runs.proofs.Calls.{tasks-reached, edges-reached, begun-within}
use Rattle.runs.proofs.Events.{accepted-word}
use Rattle.runs.proofs.Demand.{demand-3}

finished? : (v : View Mem Call) → Dec (Finished v)
finished? v = go (dec_le (tasks v.lent) (accepted_completes v.events))
  where
    go : Dec (tasks v.lent ≤ accepted_completes v.events) → Dec (Finished v)
    go (yes h) = yes (record { completes = h })
    go (no n) = no (λ f. n f.completes)

-- "3N + E"
abbrev all_steps : Mem → ℕ
all_steps m = 3 * tasks m + edges m

below_all : (limits : Limits) (r : Run) (i : ℕ) (s : Step) → Acceptance (next_says limits (view_of r) i s) → accepted_steps (events_of r) < all_steps r.lent
below_all limits r i s a =
    omega (
      arith,
      (accepted-step limits r.workers r.slots i s (memory_of r) a).allowed.low,
      edges-reached r,
      tasks-reached r,
      accepted-word r,
    )

pub can-finish : (r : Run) (limits : Limits) → KeptBy limits (view_of r) → CanFinish limits r
can-finish r limits = finishing.can-finish plain_calls Finished finished? all_steps (λ r. (demand-3.one r).next_by) below_all limits r

-- PROMISE: no run has more accepted steps than the family's figure for N and E (`steps`, `crates/memory/specs/Family.antt`), which every finished run has
pub most-steps : (r : Run) → accepted_steps (events_of r) ≤ plain_shape.steps (tasks r.lent) (edges r.lent)
most-steps r =
    let end = can-finish r r.limits (begun-within r) in
    omega (arith, end.taken, (demand-3.one (longer r end.further)).steps end.finishes)
