-- What follows of what a run shows at any time: no task is recorded, held or waits before its predecessors are recorded, no two workers hold one task, what
-- a step or a begin may meet; and of a finished one.
use Rattle.std.specs.Prelude.{ℕ, ◌<◌, ◌≡◌, List, ◌++◌, pos}
use Rattle.lists.specs.Lists.{occ, joined}
use Rattle.lists.specs.Sums.{sum_of}
use Rattle.task.specs.Refusals.{step_says, refused, record_full}
use Rattle.task.specs.Rows.{Acceptance}
use Rattle.task.specs.declared.Limits.{Limits}
use Rattle.task.specs.declared.Step.{Step}
use Rattle.task.specs.declared.Step.TheVariants.{Fetch, Start, Complete, Release}
use Rattle.task.specs.declared.StepOutcome.{StepOutcome}
use Rattle.graph.specs.Graph.{Edge}
use Rattle.choice.specs.Least.{Least}
use Rattle.plans.specs.Forms.{own}
use Rattle.rules.specs.Memory.{Mem, tasks, graph_in, weight_in, row_in, held, entries_in}
use Rattle.rules.specs.Updates.{Update}
use Rattle.rules.specs.Steps.{step}
use Rattle.rules.specs.Moves.{ReleasesPlaced}
use Rattle.algorithm1.specs.Reading.{queue_in}
use Rattle.views.specs.Numbers as numbers
use Rattle.runs.specs.Calls.{Call, plain_calls, View, KeptBy}
use Rattle.runs.specs.Counters.{in_hand_of}
use Rattle.runs.specs.Demand.{accepted_completes, task_word, next_says}

-- no two workers hold one task
abbrev pub OneHolder : View Mem Call → Type 0
OneHolder v =
    (i j : ℕ) → i < v.workers → j < v.workers → ¬ (◌≡◌ {A = ℕ} (row_in v.memory i).phase 0)
    → ¬ (◌≡◌ {A = ℕ} (row_in v.memory j).phase 0) → held v.memory i ≡ held v.memory j → i ≡ j

-- the task is recorded
abbrev pub Recorded : View Mem Call → ℕ → Type 0
Recorded v u = (y : ℕ) × (y < accepted_completes v.events) × (task_word v.memory y ≡ u)

-- a task waits, and a worker holds it, only behind all its predecessors
abbrev pub WaitingBehind : View Mem Call → Type 0
WaitingBehind v =
    (i j t u : ℕ) → i < v.workers → j < v.workers → 0 < occ t (queue_in v.workers v.slots v.memory i j) → Edge (graph_in v.lent) u t
    → Recorded v u

abbrev pub HeldBehind : View Mem Call → Type 0
HeldBehind v =
    (i u : ℕ) → i < v.workers → ¬ (◌≡◌ {A = ℕ} (row_in v.memory i).phase 0) → Edge (graph_in v.lent) u (held v.memory i) → Recorded v u

-- in an unfinished run too, the record has every task after all its predecessors
abbrev pub NeverEarly : View Mem Call → Type 0
NeverEarly v =
    (x u : ℕ) → x < accepted_completes v.events → Edge (graph_in v.lent) u (task_word v.memory x)
    → (y : ℕ) × (y < x) × (task_word v.memory y ≡ u)

-- while a worker holds a task, an entry is free for it
abbrev pub HoldingOpen : View Mem Call → Type 0
HoldingOpen v = (i : ℕ) → i < v.workers → ¬ (◌≡◌ {A = ℕ} (row_in v.memory i).phase 0) → entries_in v.memory < tasks v.memory

-- in memory begun and stepped by the engine Complete never meets 12, whatever the limits, P, K and worker
abbrev pub NeverFull : View Mem Call → Type 0
NeverFull v = (limits : Limits) (p k i d : ℕ) → ¬ (step_says (step limits p k i Complete v.memory).answer ≡ refused record_full d)

-- "target j is the worker with the least sum of its P counters": in a run that is the least weight waiting and in hand, so a lane with a long tile isn't
-- taken for an empty one. Of every Release that places its successor.
abbrev pub Lightest : View Mem Call → Type 0
Lightest v =
    (i : ℕ) (o : StepOutcome) (us : List Update) (f : ReleasesPlaced (own v.workers v.memory) v.workers v.slots i v.memory o us)
    → Least (λ h. h < v.workers)
    (λ h. pos (sum_of (weight_in v.lent) (joined v.workers (queue_in v.workers v.slots v.memory h) ++ in_hand_of v.memory h)))
    f.target

-- "A call with another P or K than begin's meets 2 or 1."; a call beyond its limits is refused with 2; so the run keeps the limits of what is accepted
abbrev pub OtherNumbers : View Mem Call → Type 0
OtherNumbers = numbers.OtherNumbers plain_calls

abbrev pub BeyondLimits : View Mem Call → Type 0
BeyondLimits = numbers.BeyondLimits plain_calls

abbrev pub AcceptedKept : View Mem Call → Type 0
AcceptedKept = numbers.AcceptedKept plain_calls

-- no further step is accepted, whatever the limits, P, K and worker
abbrev pub NoMore : View Mem Call → Type 0
NoMore v = (limits : Limits) (p k i : ℕ) (s : Step) → ¬ (Acceptance (step_says (step limits p k i s v.memory).answer))

-- what a finished run answers to each worker's steps, with all limits that it keeps
abbrev pub FinishedSays : View Mem Call → Type 0
FinishedSays v =
    (i : ℕ) → i < v.workers → (limits : Limits) → KeptBy limits v
    → (next_says limits v i Fetch ≡ refused 10 0) × (next_says limits v i Start ≡ refused 9 0)
    × (next_says limits v i Complete ≡ refused 9 0) × (next_says limits v i Release ≡ refused 10 0)
