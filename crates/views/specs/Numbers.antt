-- Calls with other numbers than begin's, and calls beyond their limits, at any time of a run.
use Rattle.std.specs.Prelude.{ℕ, ◌≡◌}
use Rattle.task.specs.Refusals.{refused}
use Rattle.task.specs.Rows.{Acceptance}
use Rattle.task.specs.declared.Limits.{Limits}
use Rattle.task.specs.declared.Step.{Step}
use Rattle.machine.specs.Runs.{View}
use Rattle.machine.specs.Jobs.{Call, Engine}
use Rattle.memory.specs.Family.{Family}
use Rattle.memory.specs.Memory.{Mem}
use Rattle.plans.specs.Memory.{tasks, edges}
use Rattle.plans.specs.Sizes.{KeepsLimits}
use Rattle.plans.proofs.Numbers.{TwoOrOne}
use Rattle.views.specs.Graphs.{KeptBy}

module _ {F : Family} (on : Engine (Mem F)) where
  -- "A call with another P or K than begin's meets 2 or 1.", a step or a begin, whatever its limits
  abbrev pub OtherNumbers : View (Mem F) Call → Type 0
  OtherNumbers v =
      (limits : Limits) (p k : ℕ) → ¬ ((p ≡ v.workers) × (k ≡ v.slots))
      → ((i : ℕ) (s : Step) → TwoOrOne (on.step_says limits p k i s v.memory)) × TwoOrOne (on.begin_says limits p k v.memory)

  -- a call beyond its limits is refused with 2 and leaves all words, a step or a begin
  abbrev pub BeyondLimits : View (Mem F) Call → Type 0
  BeyondLimits v =
      (limits : Limits) (p k : ℕ) → ¬ (KeepsLimits limits p k (tasks v.lent) (edges v.lent))
      → ((i : ℕ) (s : Step) → (on.step_says limits p k i s v.memory ≡ refused 2 0) × (on.step_leaves limits p k i s v.memory ≡ v.memory))
      × ((on.begin_says limits p k v.memory ≡ refused 2 0) × (on.begin_leaves limits p k v.memory ≡ v.memory))

  -- so the run keeps the limits of every step and begin that is accepted, whatever its P and K
  abbrev pub AcceptedKept : View (Mem F) Call → Type 0
  AcceptedKept v =
      (limits : Limits) (p k : ℕ)
      → ((i : ℕ) (s : Step) → Acceptance (on.step_says limits p k i s v.memory) → KeptBy limits v)
      × (Acceptance (on.begin_says limits p k v.memory) → KeptBy limits v)
