-- What follows of what a weak run shows at any time: no copy is recorded, held or waits before the copies of its predecessor are recorded, no two workers
-- hold copies of one task, what a step or a begin may meet; and of a finished one.
use Rattle.std.specs.Prelude.{ℕ, ◌<◌, ◌≡◌, List, pos}
use Rattle.lists.specs.Lists.{occ_of}
use Rattle.lists.specs.Sums.{sum_of}
use Rattle.task.specs.Refusals.{refused, record_full}
use Rattle.task.specs.Rows.{Acceptance}
use Rattle.task.specs.declared.Limits.{Limits}
use Rattle.task.specs.declared.Step.{Step}
use Rattle.task.specs.declared.Step.TheVariants.{Fetch, Start, Complete, Release}
use Rattle.weak_task.specs.Says.{step_says}
use Rattle.weak_task.specs.declared.WeakOutcome.{WeakOutcome}
use Rattle.choice.specs.Least.{Least}
use Rattle.copies.specs.Copies.{Copy, same_copy, Before}
use Rattle.plans.specs.Forms.{own}
use Rattle.weak_rules.specs.Memory.{Mem, weight_in, row_in, held, entries_in}
use Rattle.weak_rules.specs.Updates.{Update}
use Rattle.weak_rules.specs.Steps.{step}
use Rattle.weak_rules.specs.Moves.{ReleasesFirst}
use Rattle.views.specs.Numbers as numbers
use Rattle.weak_runs.specs.Calls.{Call, accepted_completes, weak_calls, View, KeptBy, graph_of, copies_in}
use Rattle.weak_runs.specs.Counters.{open_of}
use Rattle.weak_runs.specs.Demand.{copy_words, next_says}
use Rattle.weak_runs.specs.Fairness.{queue_in}

-- no two workers hold copies of one task: they are all its worker's
abbrev pub OneHolder : View Mem Call → Type 0
OneHolder v =
    (i j : ℕ) → i < v.workers → j < v.workers → ¬ (◌≡◌ {A = ℕ} (row_in v.memory i).phase 0)
    → ¬ (◌≡◌ {A = ℕ} (row_in v.memory j).phase 0) → (held v.memory i).task ≡ (held v.memory j).task → i ≡ j

-- the copy is recorded
abbrev pub Recorded : View Mem Call → Copy → Type 0
Recorded v b = (y : ℕ) × (y < accepted_completes v.events) × (copy_words v.memory y ≡ b)

-- "A seam can be corrected with each finished neighbour alone": a copy waits, and a worker holds it, only behind all copies of its predecessor
abbrev pub WaitingBehind : View Mem Call → Type 0
WaitingBehind v =
    (i j : ℕ) (c b : Copy) → i < v.workers → j < v.workers → 0 < occ_of same_copy c (queue_in v.workers v.slots v.memory i j)
    → Before (graph_of v) b c → Recorded v b

abbrev pub HeldBehind : View Mem Call → Type 0
HeldBehind v =
    (i : ℕ) (b : Copy) → i < v.workers → ¬ (◌≡◌ {A = ℕ} (row_in v.memory i).phase 0) → Before (graph_of v) b (held v.memory i) → Recorded v b

-- in an unfinished run too, the record has every copy behind all copies of its predecessor
abbrev pub NeverEarly : View Mem Call → Type 0
NeverEarly v =
    (x : ℕ) (b : Copy) → x < accepted_completes v.events → Before (graph_of v) b (copy_words v.memory x)
    → (y : ℕ) × (y < x) × (copy_words v.memory y ≡ b)

-- while a worker holds a copy, an entry is free for it
abbrev pub HoldingOpen : View Mem Call → Type 0
HoldingOpen v = (i : ℕ) → i < v.workers → ¬ (◌≡◌ {A = ℕ} (row_in v.memory i).phase 0) → entries_in v.memory < copies_in v

-- in memory begun and stepped by the engine Complete never meets 12, whatever the limits, P, K and worker
abbrev pub NeverFull : View Mem Call → Type 0
NeverFull v = (limits : Limits) (p k i d : ℕ) → ¬ (step_says (step limits p k i Complete v.memory).answer ≡ refused record_full d)

-- "target j is the worker with the least sum of its P counters": in a run that is the least weight of the tasks fixed to it and not complete. Of
-- every Release that makes a task's first copy.
abbrev pub Lightest : View Mem Call → Type 0
Lightest v =
    (i : ℕ) (o : WeakOutcome) (us : List Update) (f : ReleasesFirst (own v.workers v.memory) v.workers v.slots i v.memory o us)
    → Least (λ h. h < v.workers) (λ h. pos (sum_of (weight_in v.lent) (open_of v.memory h))) f.target

-- "A call with another P or K than begin's meets 2 or 1."; a call beyond its limits is refused with 2; so the run keeps the limits of what is accepted
abbrev pub OtherNumbers : View Mem Call → Type 0
OtherNumbers = numbers.OtherNumbers weak_calls

abbrev pub BeyondLimits : View Mem Call → Type 0
BeyondLimits = numbers.BeyondLimits weak_calls

abbrev pub AcceptedKept : View Mem Call → Type 0
AcceptedKept = numbers.AcceptedKept weak_calls

-- no further step is accepted, whatever the limits, P, K and worker
abbrev pub NoMore : View Mem Call → Type 0
NoMore v = (limits : Limits) (p k i : ℕ) (s : Step) → ¬ (Acceptance (step_says (step limits p k i s v.memory).answer))

-- what a finished run answers to each worker's steps, with all limits that it keeps
abbrev pub FinishedSays : View Mem Call → Type 0
FinishedSays v =
    (i : ℕ) → i < v.workers → (limits : Limits) → KeptBy limits v
    → (next_says limits v i Fetch ≡ refused 10 0) × (next_says limits v i Start ≡ refused 9 0)
    × (next_says limits v i Complete ≡ refused 9 0) × (next_says limits v i Release ≡ refused 10 0)
