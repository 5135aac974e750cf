-- What Complete is to do, by the words that it reads.
use Rattle.std.specs.Prelude.{ℕ, ◌+◌, ◌*◌, ◌≤◌, ◌<◌, ◌≡◌, true, List, ◌∷◌, length, get_or, set, ℤ, pos, ◌-ℤ◌, Result, Ok, Err}
use Rattle.task.specs.Types.{nil, engine}
use Rattle.task.specs.declared.refusal.Refusal.{Refusal}
use Rattle.task.specs.declared.Row.{Row}
use Rattle.task.specs.declared.Step.TheVariants.{Complete}
use Rattle.task.specs.declared.StepOutcome.TheVariants.{Moved}
use Rattle.rules.specs.Memory.{Mem, edges, ring_number, buffer_at, row_in, held, with_hand, with_places}
use Rattle.rules.specs.Words.{counter_fits}
use Rattle.rules.specs.Updates.{put_buffer, put_places}
use Rattle.rules.specs.Plans.{Plan, refuse, accept, with_count}
use Rattle.rules.specs.Steps.{let_go, leave, record_entry, complete_rule}
use Rattle.admission.specs.Admission.{entered, Stepped}
use Rattle.complete.specs.declared.CompletePlan as plan
use Rattle.complete.specs.declared.CompletePlan.TheVariants as plans

-- what Complete is to do, or why it is refused
abbrev pub CompletePlan : Type 0
CompletePlan = Result plan.CompletePlan Refusal

pattern abbrev pub Sink : (entries accepted weight : ℕ) → CompletePlan
Sink entries accepted weight = Ok (plans.Sink entries accepted weight)

pattern abbrev pub Inner : (entries accepted weight : ℕ) → CompletePlan
Inner entries accepted weight = Ok (plans.Inner entries accepted weight)

-- a plan as the rules have it, for worker i
abbrev pub plan_of : ℕ → ℕ → Mem → CompletePlan → Plan
plan_of p i m (Err why) = refuse why
plan_of p i m (Sink entries accepted weight) = accept Moved (with_count m (leave p i m ∷ let_go i ∷ record_entry i m))
plan_of p i m (Inner entries accepted weight) =
    accept Moved
    (with_count m
    (put_buffer (buffer_at m i (row_in m i).write) (held m i)
    ∷ leave p i m
    ∷ let_go i
    ∷ put_places i (record { read = (row_in m i).read; write = (row_in m i).write + 1; cursor = (row_in m i).cursor })
    ∷ record_entry i m))

-- the plan is the rule's, in every memory with the words that are read, for a row in the phase that Complete leads to; the worker's own
-- counter (i, i) has this number
abbrev pub Plans : ℕ → ℕ → Row → List ℕ → List ℕ → List ℤ → List ℕ → CompletePlan → Type 0
Plans e own row weights succ_starts counters run plan =
    (p i : ℕ) (m : Mem) → edges m ≡ e → own ≡ ring_number p i i → row ≡ entered Complete (row_in m i)
    → m.weights ≡ weights → m.succ_starts ≡ succ_starts → m.counters ≡ counters → m.run ≡ run → complete_rule p i m ≡ plan_of p i m plan

-- these are the run words and the task's weight; the record has room for an entry, the run for a step, and the weight can leave its counter
pub record Room (e own task : ℕ) (weights : List ℕ) (counters : List ℤ) (run : List ℕ) (entries accepted weight : ℕ) : Type 0 where
  pub entries_word : entries ≡ get_or run 0 0
  pub accepted_word : accepted ≡ get_or run 1 0
  pub weighs : weight ≡ get_or weights task 0
  pub entry : entries < length weights
  pub step : accepted < 3 * length weights + e
  pub light : weight ≤ 65535
  pub counter : counter_fits (get_or counters own (pos 0)) ≡ true

-- what lets an accepted plan be written
abbrev pub Writable : ℕ → ℕ → Row → List ℕ → List ℤ → List ℕ → CompletePlan → Type 0
Writable e own row weights counters run (Err why) = Unit {0}
Writable e own row weights counters run (Sink entries accepted weight) = Room e own row.held.0 weights counters run entries accepted weight
Writable e own row weights counters run (Inner entries accepted weight) =
    Room e own row.held.0 weights counters run entries accepted weight × (row.write < length weights)

-- a plan that is the rule's and can be written
abbrev pub Decides : ℕ → ℕ → Row → List ℕ → List ℕ → List ℤ → List ℕ → CompletePlan → Type 0
Decides e own row weights succ_starts counters run plan =
    Plans e own row weights succ_starts counters run plan × Writable e own row weights counters run plan

-- what lets an entry be written, of the lengths and the run words
abbrev pub Recordable : ℕ → ℕ → ℕ → ℕ → Type 0
Recordable places words entries accepted =
    (words ≡ 2) × ((2 * entries + 1 < places) × ((entries < engine.tasks) × (accepted < 3 * engine.tasks + engine.edges)))

-- an entry is written and counted, and the step is counted
abbrev pub Records : ℕ → ℕ → ℕ → ℕ → List ℕ → List ℕ → List ℕ → List ℕ → Type 0
Records entries accepted task worker executed executed' run run' =
    (executed' ≡ set (set executed (2 * entries) task) (2 * entries + 1) worker) × (run' ≡ set (set run 1 (accepted + 1)) 0 (entries + 1))

-- the row of an accepted Complete: "held becomes NIL", and the write place is as given
abbrev pub left_row : ℕ → Row → Row
left_row write row = with_hand row.phase nil (with_places row.read write row.cursor row)

-- the end of an accepted Complete
abbrev pub let_go_of : ℕ → Row → Stepped
let_go_of write row = Ok (Moved, left_row write row)

-- what lets the weight leave the counter with this number
abbrev pub Leavable : ℕ → ℕ → List ℤ → Type 0
Leavable own weight counters = (own < length counters) × ((counter_fits (get_or counters own (pos 0)) ≡ true) × (weight ≤ 65535))

-- what lets the task join worker i's part of the buffers, each of n places, at the write place
abbrev pub Joinable : ℕ → ℕ → ℕ → ℕ → Type 0
Joinable n i write places = (i * n + write < places) × ((places ≤ engine.workers * engine.tasks) × (write < engine.tasks))

-- the held task's weight has left the counter, it stands in the record, and the row has this write place
abbrev pub Leaves : (own i entries accepted weight : ℕ) → Row → ℕ → List ℤ → List ℤ → (executed executed' run run' : List ℕ) → Stepped → Type 0
Leaves own i entries accepted weight row write counters counters' executed executed' run run' r =
    (counters' ≡ set counters own (get_or counters own (pos 0) -ℤ pos weight))
    × (Records entries accepted row.held.0 i executed executed' run run' × (r ≡ let_go_of write row))
