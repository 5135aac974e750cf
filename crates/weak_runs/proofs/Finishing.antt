-- PROMISE: every weak run can be finished, with any limits that it keeps. While it isn't, some step is accepted next, and each adds 1 to the accepted
-- word, which never passes 4E + 3R.
use Prim.Native.Nat.{ℕ, ◌+◌, ◌*◌, ◌≤◌, ◌<◌}
use native.Mathlib.Omega.{arith}
use native.Mathlib.Decide.{dec_le}
use lib.ListN.{length}
use Rattle.task.specs.Rows.{Acceptance}
use Rattle.task.specs.declared.Limits.{Limits}
use Rattle.task.specs.declared.Step.{Step}
use Rattle.graph.specs.Successors.{roots}
use Rattle.weak_rules.specs.Memory.{weak_shape, Mem, tasks, edges, graph_in}
use Rattle.weak_rules.proofs.Moves.{accepted-step}
use Rattle.views.proofs.Finishing as finishing
use Rattle.weak_runs.specs.Calls.{Call, weak_calls, accepted_steps, accepted_completes, View, KeptBy, Run, memory_of, events_of, view_of, longer, copies_in}
use Rattle.weak_runs.specs.Demand.{Finished, next_says, CanFinish}
use Rattle.weak_runs.proofs.Calls.{tasks-reached, edges-reached, begun-within}
use Rattle.weak_runs.proofs.Events.{accepted-word, roots-word}
use Rattle.weak_runs.proofs.Honest.{honest-run}
use Rattle.weak_runs.proofs.Live.{few-roots}
use Rattle.weak_runs.proofs.Demand.{demand-3}

finished? : (v : View Mem Call) → Dec (Finished v)
finished? v = go (dec_le (copies_in v) (accepted_completes v.events))
  where
    go : Dec (copies_in v ≤ accepted_completes v.events) → Dec (Finished v)
    go (yes h) = yes (record { completes = h })
    go (no n) = no (λ f. n f.completes)

-- "4E + 3R"
abbrev all_steps : Mem → ℕ
all_steps m = 4 * edges m + 3 * length (roots (graph_in m))

below_all : (limits : Limits) (r : Run) (i : ℕ) (s : Step) → Acceptance (next_says limits (view_of r) i s) → accepted_steps (events_of r) < all_steps r.lent
below_all limits r i s a =
    omega (
      arith,
      (accepted-step limits r.workers r.slots i s (memory_of r) a).allowed.low,
      edges-reached r,
      roots-word r,
      accepted-word r,
    )

pub can-finish : (limits : Limits) (r : Run) → KeptBy limits (view_of r) → CanFinish limits r
can-finish = finishing.can-finish weak_calls Finished finished? all_steps (λ r. (demand-3.one r).next_by) below_all

-- PROMISE: no run has more accepted steps than the family's figure for N and E (`steps`, `crates/memory/specs/Family.antt`): with R roots a finished one
-- has 4E + 3R, and R is at most N
pub most-steps : (r : Run) → accepted_steps (events_of r) ≤ weak_shape.steps (tasks r.lent) (edges r.lent)
most-steps r =
    let end = can-finish r.limits r (begun-within r) in
    omega (
      arith,
      end.taken,
      (demand-3.one (longer r end.further)).steps end.finishes,
      few-roots (honest-run r),
      roots-word r,
      tasks-reached r,
    )
