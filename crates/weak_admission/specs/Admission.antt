-- What is known once a weak step is admitted, and what a refusal before its rule means.
use Rattle.std.specs.Prelude.{ℕ, ◌≤◌, ◌<◌, ◌≡◌, true, ◌&&◌, List, length, set, Result, Err, Ok}
use Rattle.task.specs.Refusals.{Answer}
use Rattle.task.specs.declared.refusal.Refusal.{Refusal}
use Rattle.task.specs.Types.{engine}
use Rattle.task.specs.Phases.{suits, leads_to, next_phase}
use Rattle.task.specs.declared.Limits.{Limits}
use Rattle.task.specs.declared.Step.{Step}
use Rattle.weak_task.specs.Rows.{with_hand}
use Rattle.weak_task.specs.declared.WeakRow.{WeakRow}
use Rattle.weak_task.specs.Says.{WeakAnswer}
use Rattle.weak_task.specs.declared.WeakOutcome.{WeakOutcome}
use Rattle.graph.specs.Check.{sizes_fit}
use Rattle.memory.specs.Field.{Field}
use Rattle.memory.specs.Field as list
use Rattle.memory.specs.Shape.{Shaped}
use Rattle.plans.specs.Sizes.{Fits, numbers_fit, lengths_fit}
use Rattle.weak_rules.specs.Memory.{weak, Mem, tasks, edges, row_in}
use Rattle.weak_rules.specs.Words.{phase_fits}
use Rattle.weak_rules.specs.Plans.{Plan, refuse, checked, suited}
use Rattle.weak_rules.specs.Steps.{rule_of, step_plan}
use Rattle.weak_admission.specs.declared.WeakSizes.{WeakSizes}

-- the lengths of a memory's lists
abbrev pub sizes_of : Mem → WeakSizes
sizes_of m =
    record {
      weights = length m.weights;
      pred_starts = length m.pred_starts;
      preds = length m.preds;
      succ_starts = length m.succ_starts;
      succs = length m.succs;
      degrees = length m.degrees;
      fixed = length m.fixed;
      rings = length m.rings;
      ends = length m.ends;
      counters = length m.counters;
      buffers = length m.buffers;
      executed = length m.executed;
      run = length m.run;
      rows = length m.rows;
    }

abbrev pub size_at : WeakSizes → Field → ℕ
size_at z list.weights = z.weights
size_at z list.pred_starts = z.pred_starts
size_at z list.preds = z.preds
size_at z list.succ_starts = z.succ_starts
size_at z list.succs = z.succs
size_at z list.degrees = z.degrees
size_at z list.fixed = z.fixed
size_at z list.rings = z.rings
size_at z list.ends = z.ends
size_at z list.counters = z.counters
size_at z list.buffers = z.buffers
size_at z list.executed = z.executed
size_at z list.run = z.run
size_at z list.rows = z.rows

-- 2, 1 and 7: every step on lists of these lengths is refused, or numbers, lengths and worker pass
abbrev pub Judges : Limits → ℕ → ℕ → ℕ → WeakSizes → Answer → Type 0
Judges limits p k i sizes (Err why) = (s : Step) (m : Mem) → sizes_of m ≡ sizes → step_plan limits p k i s m ≡ refuse why
Judges limits p k i sizes (Ok u) =
    ((m : Mem) → sizes_of m ≡ sizes → (numbers_fit limits p k && sizes_fit limits (tasks m) (edges m) ≡ true) × (lengths_fit p k m ≡ true)) × (i < p)

-- what is then known of the numbers and of the lent lengths, whatever the lists hold
pub record Measured (p k i : ℕ) (sizes : WeakSizes) : Type 0 where
  pub few_tasks : sizes.weights ≤ engine.tasks
  pub few_edges : sizes.preds ≤ engine.edges
  pub few_workers : p ≤ engine.workers
  pub two_slots : 2 ≤ k
  pub few_slots : k ≤ engine.slots
  pub worker : i < p
  pub lengths : Shaped weak p k (size_at sizes)

-- so a step is told: a refusal that some limits give, or that all fits
abbrev pub Knows : ℕ → ℕ → ℕ → WeakSizes → Answer → Type 0
Knows p k i sizes (Err why) = (limits : Limits) × Judges limits p k i sizes (Err why)
Knows p k i sizes (Ok u) = Measured p k i sizes

-- a row in the phase that a step leads to
abbrev pub entered : Step → WeakRow → WeakRow
entered s row = with_hand (leads_to s) row.held row

-- the worker's row in the phase that a step leads to, or refused
abbrev pub WeakAdmitted : Type 0
WeakAdmitted = Result WeakRow Refusal

-- whether a step may be taken by the worker with this row: every plan that starts with these two tests is refused, or goes on
abbrev pub Allows : WeakRow → Step → WeakAdmitted → Type 0
Allows row s (Err why) =
    (rest : Plan) → checked (phase_fits row.phase) (suited (next_phase row.phase s) row.phase rest) ≡ refuse why
Allows row s (Ok row') =
    ((rest : Plan) → checked (phase_fits row.phase) (suited (next_phase row.phase s) row.phase rest) ≡ rest)
    × ((row.phase ≡ suits s) × (row' ≡ entered s row))

-- the same after what was judged
abbrev pub Admits : WeakRow → Step → Answer → WeakAdmitted → Type 0
Admits row s (Err why) r = r ≡ Err why
Admits row s (Ok u) r = Allows row s r

-- an admitted step by worker i: its plan is that of its rule, the memory fits, and `row` is the worker's in the phase that the step leads to
pub record Enters (limits : Limits) (p k i : ℕ) (s : Step) (m : Mem) (row : WeakRow) : Type 0 where
  pub follows : step_plan limits p k i s m ≡ rule_of s p k i m
  pub fits : Fits limits p k m
  pub worker : i < p
  pub phase : (row_in m i).phase ≡ suits s
  pub leads : row ≡ entered s (row_in m i)

-- a step's end: its outcome and the worker's row after it, or refused
abbrev pub WeakStepped : Type 0
WeakStepped = Result (WeakOutcome × WeakRow) Refusal

-- as the rules have it: its answer, the worker's row, and all rows
abbrev pub answer_of : WeakStepped → WeakAnswer
answer_of (Err why) = Err why
answer_of (Ok (o, row)) = Ok o

abbrev pub row_after : WeakRow → WeakStepped → WeakRow
row_after row (Err why) = row
row_after row (Ok (o, row')) = row'

abbrev pub rows_after : List WeakRow → ℕ → WeakStepped → List WeakRow
rows_after rows i (Err why) = rows
rows_after rows i (Ok (o, row)) = set rows i row
