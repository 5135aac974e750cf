-- What Complete of a weak job is to do, by the words that it reads.
use Rattle.std.specs.Prelude.{ℕ, ◌+◌, ◌*◌, ◌≤◌, ◌<◌, ◌≡◌, true, List, ◌∷◌, length, get_or, ℤ, pos, Result, Ok, Err}
use Rattle.task.specs.declared.refusal.Refusal.{Refusal}
use Rattle.task.specs.declared.Step.TheVariants.{Complete}
use Rattle.weak_task.specs.declared.WeakRow.{WeakRow}
use Rattle.weak_task.specs.declared.WeakOutcome.TheVariants.{Moved}
use Rattle.weak_rules.specs.Memory.{Mem, edges, ring_number, buffer_at, row_in, held}
use Rattle.weak_rules.specs.Words.{counter_fits}
use Rattle.weak_rules.specs.Updates.{Update, put_buffer, put_places}
use Rattle.weak_rules.specs.Plans.{Plan, refuse, accept, with_count}
use Rattle.weak_rules.specs.Steps.{let_go, leave, lower, record_entry, complete_copy, complete_last, complete_rule}
use Rattle.weak_admission.specs.Admission.{entered}
use Rattle.weak_complete.specs.declared.CompletePlan as plan
use Rattle.weak_complete.specs.declared.CompletePlan.TheVariants as plans

-- what Complete is to do, or why it is refused
abbrev pub CompletePlan : Type 0
CompletePlan = Result plan.CompletePlan Refusal

pattern abbrev pub Copy : (entries accepted degree : ℕ) → CompletePlan
Copy entries accepted degree = Ok (plans.Copy entries accepted degree)

pattern abbrev pub Sink : (entries accepted weight : ℕ) → CompletePlan
Sink entries accepted weight = Ok (plans.Sink entries accepted weight)

pattern abbrev pub Inner : (entries accepted weight : ℕ) → CompletePlan
Inner entries accepted weight = Ok (plans.Inner entries accepted weight)

-- what each accepted plan writes, besides that the step is counted: a copy that isn't its task's last; the last one of a sink; of another task
abbrev pub copy_updates : ℕ → Mem → List Update
copy_updates i m = lower i m ∷ let_go i ∷ record_entry i m

abbrev pub sink_updates : ℕ → ℕ → Mem → List Update
sink_updates p i m = lower i m ∷ leave p i m ∷ let_go i ∷ record_entry i m

abbrev pub inner_updates : ℕ → ℕ → Mem → List Update
inner_updates p i m =
    put_buffer (buffer_at m i (row_in m i).write) (held m i).task
    ∷ lower i m
    ∷ leave p i m
    ∷ let_go i
    ∷ put_places i (record { read = (row_in m i).read; write = (row_in m i).write + 1; cursor = (row_in m i).cursor })
    ∷ record_entry i m

-- a plan as the rules have it, for worker i
abbrev pub plan_of : ℕ → ℕ → Mem → CompletePlan → Plan
plan_of p i m (Err why) = refuse why
plan_of p i m (Copy entries accepted degree) = accept Moved (with_count m (copy_updates i m))
plan_of p i m (Sink entries accepted weight) = accept Moved (with_count m (sink_updates p i m))
plan_of p i m (Inner entries accepted weight) = accept Moved (with_count m (inner_updates p i m))

-- the plan is the rule's, in every memory with the words that are read, for a row in the phase that Complete leads to; the worker's own
-- counter (i, i) has this number
abbrev pub Plans : ℕ → ℕ → WeakRow → List ℕ → List ℕ → List ℕ → List ℤ → List ℕ → CompletePlan → Type 0
Plans e own row weights succ_starts degrees counters run r =
    (p i : ℕ) (m : Mem) → edges m ≡ e → own ≡ ring_number p i i → row ≡ entered Complete (row_in m i)
    → m.weights ≡ weights → m.succ_starts ≡ succ_starts → m.degrees ≡ degrees → m.counters ≡ counters → m.run ≡ run
    → complete_rule p i m ≡ plan_of p i m r

-- the same of what the rule comes to for a task's last copy, and for another one
abbrev pub PlansLast : ℕ → ℕ → WeakRow → List ℕ → List ℕ → List ℤ → List ℕ → CompletePlan → Type 0
PlansLast e own row weights succ_starts counters run r =
    (p i : ℕ) (m : Mem) → edges m ≡ e → own ≡ ring_number p i i → row ≡ entered Complete (row_in m i)
    → m.weights ≡ weights → m.succ_starts ≡ succ_starts → m.counters ≡ counters → m.run ≡ run
    → complete_last p i m ≡ plan_of p i m r

abbrev pub PlansCopy : ℕ → ℕ → List ℕ → CompletePlan → Type 0
PlansCopy n e run r = (p i : ℕ) (m : Mem) → length m.weights ≡ n → edges m ≡ e → m.run ≡ run → complete_copy i m ≡ plan_of p i m r

-- the record has room for the entry of a copy of this task, R being in its range, and the task's degree can be lowered
pub record Opens (n e : ℕ) (run : List ℕ) (entries roots task degree : ℕ) : Type 0 where
  pub entries_word : entries ≡ get_or run 0 0
  pub roots_are : roots ≡ get_or run 2 0
  pub few_roots : roots ≤ n
  pub entry : entries < e + roots
  pub task_fits : task < n
  pub lowers : 1 ≤ degree

-- and the run has room for a step; these are the run words
pub record Room (n e : ℕ) (run : List ℕ) (entries accepted task degree : ℕ) : Type 0 where
  pub entries_word : entries ≡ get_or run 0 0
  pub accepted_word : accepted ≡ get_or run 1 0
  pub entry : entries < e + n
  pub step : accepted < 4 * e + 3 * n
  pub task_fits : task < n
  pub lowers : 1 ≤ degree

-- this is the task's weight, and it can leave its counter
pub record Leaves (own task : ℕ) (weights : List ℕ) (counters : List ℤ) (weight : ℕ) : Type 0 where
  pub weighs : weight ≡ get_or weights task 0
  pub light : weight ≤ 65535
  pub counter : counter_fits (get_or counters own (pos 0)) ≡ true

-- what lets an accepted plan be written, the degree of the copy's task being this
abbrev pub Writable : ℕ → ℕ → WeakRow → List ℕ → List ℤ → List ℕ → ℕ → CompletePlan → Type 0
Writable e own row weights counters run degree (Err why) = Unit {0}
Writable e own row weights counters run degree (Copy entries accepted d) =
    Room (length weights) e run entries accepted row.held.task.0 degree × (d ≡ degree)
Writable e own row weights counters run degree (Sink entries accepted weight) =
    Room (length weights) e run entries accepted row.held.task.0 degree
    × ((degree ≡ 1) × Leaves own row.held.task.0 weights counters weight)
Writable e own row weights counters run degree (Inner entries accepted weight) =
    Room (length weights) e run entries accepted row.held.task.0 degree
    × ((degree ≡ 1) × (Leaves own row.held.task.0 weights counters weight × (row.write < length weights)))

-- a plan that is the rule's and can be written
abbrev pub Decides : ℕ → ℕ → WeakRow → List ℕ → List ℕ → List ℕ → List ℤ → List ℕ → CompletePlan → Type 0
Decides e own row weights succ_starts degrees counters run r =
    Plans e own row weights succ_starts degrees counters run r
    × Writable e own row weights counters run (get_or degrees row.held.task.0 0) r

abbrev pub DecidesLast : ℕ → ℕ → WeakRow → List ℕ → List ℕ → List ℤ → List ℕ → CompletePlan → Type 0
DecidesLast e own row weights succ_starts counters run r =
    PlansLast e own row weights succ_starts counters run r × Writable e own row weights counters run 1 r

-- what another copy than the last comes to, whatever the lists beside the run words hold
abbrev pub DecidesCopy : ℕ → ℕ → List ℕ → ℕ → ℕ → CompletePlan → Type 0
DecidesCopy n e run task degree r =
    PlansCopy n e run r
    × ((own : ℕ) (row : WeakRow) (weights : List ℕ) (counters : List ℤ) → row.held.task.0 ≡ task → length weights ≡ n
    → Writable e own row weights counters run degree r)
