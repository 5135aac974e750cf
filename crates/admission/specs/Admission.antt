-- What is known once a step is admitted, and what a refusal before its rule means.
use Rattle.task.specs.declared.refusal.Refusal.{Refusal}
use Rattle.task.specs.declared.StepOutcome.{StepOutcome}
use Rattle.task.specs.Refusals.{Answer, StepAnswer}
use Rattle.std.specs.Prelude.{ℕ, ◌≤◌, ◌<◌, ◌≡◌, true, ◌&&◌, List, length, set, Result, Err, Ok}
use Rattle.task.specs.Types.{engine}
use Rattle.task.specs.Phases.{suits, leads_to, next_phase}
use Rattle.task.specs.declared.Limits.{Limits}
use Rattle.task.specs.declared.Row.{Row}
use Rattle.task.specs.declared.Step.{Step}
use Rattle.graph.specs.Check.{sizes_fit}
use Rattle.memory.specs.Field.{Field}
use Rattle.memory.specs.Field as list
use Rattle.memory.specs.Shape.{Shaped}
use Rattle.rules.specs.Memory.{plain, Mem, tasks, edges, row_in, with_hand}
use Rattle.rules.specs.Sizes.{Fits, numbers_fit, lengths_fit}
use Rattle.rules.specs.Words.{phase_fits}
use Rattle.rules.specs.Plans.{Plan, refuse, checked, suited}
use Rattle.rules.specs.Steps.{rule_of, step_plan}
use Rattle.admission.specs.declared.Sizes.{Sizes}

-- the lengths of a memory's lists
abbrev pub sizes_of : Mem → Sizes
sizes_of m =
    record {
      weights = length m.weights;
      pred_starts = length m.pred_starts;
      preds = length m.preds;
      succ_starts = length m.succ_starts;
      succs = length m.succs;
      degrees = length m.degrees;
      rings = length m.rings;
      ends = length m.ends;
      counters = length m.counters;
      buffers = length m.buffers;
      executed = length m.executed;
      run = length m.run;
      rows = length m.rows;
    }

abbrev pub size_at : Sizes → Field → ℕ
size_at z list.weights = z.weights
size_at z list.pred_starts = z.pred_starts
size_at z list.preds = z.preds
size_at z list.succ_starts = z.succ_starts
size_at z list.succs = z.succs
size_at z list.degrees = z.degrees
-- a plain job isn't lent this list
size_at z list.fixed = 0
size_at z list.rings = z.rings
size_at z list.ends = z.ends
size_at z list.counters = z.counters
size_at z list.buffers = z.buffers
size_at z list.executed = z.executed
size_at z list.run = z.run
size_at z list.rows = z.rows

-- 2, 1 and 7: every step on lists of these lengths is refused, or numbers, lengths and worker pass
abbrev pub Judges : Limits → ℕ → ℕ → ℕ → Sizes → Answer → Type 0
Judges limits p k i sizes (Err why) = (s : Step) (m : Mem) → sizes_of m ≡ sizes → step_plan limits p k i s m ≡ refuse why
Judges limits p k i sizes (Ok u) =
    ((m : Mem) → sizes_of m ≡ sizes → (numbers_fit limits p k && sizes_fit limits (tasks m) (edges m) ≡ true) × (lengths_fit p k m ≡ true)) × (i < p)

-- what is then known of the numbers and of the lent lengths, whatever the lists hold
pub record Measured (p k i : ℕ) (sizes : Sizes) : Type 0 where
  pub few_tasks : sizes.weights ≤ engine.tasks
  pub few_edges : sizes.preds ≤ engine.edges
  pub few_workers : p ≤ engine.workers
  pub two_slots : 2 ≤ k
  pub few_slots : k ≤ engine.slots
  pub worker : i < p
  pub lengths : Shaped plain p k (size_at sizes)

-- so a step is told: a refusal that some limits give, or that all fits
abbrev pub Knows : ℕ → ℕ → ℕ → Sizes → Answer → Type 0
Knows p k i sizes (Err why) = (limits : Limits) × Judges limits p k i sizes (Err why)
Knows p k i sizes (Ok u) = Measured p k i sizes

-- a row in the phase that a step leads to
abbrev pub entered : Step → Row → Row
entered s row = with_hand (leads_to s) row.held row

-- the worker's row in the phase that a step leads to, or refused
abbrev pub Admitted : Type 0
Admitted = Result Row Refusal

-- whether a step may be taken by the worker with this row: every plan that starts with these two tests is refused, or goes on
abbrev pub Allows : Row → Step → Admitted → Type 0
Allows row s (Err why) =
    (rest : Plan) → checked (phase_fits row.phase) (suited (next_phase row.phase s) row.phase rest) ≡ refuse why
Allows row s (Ok row') =
    ((rest : Plan) → checked (phase_fits row.phase) (suited (next_phase row.phase s) row.phase rest) ≡ rest)
    × ((row.phase ≡ suits s) × (row' ≡ entered s row))

-- the same after what was judged
abbrev pub Admits : Row → Step → Answer → Admitted → Type 0
Admits row s (Err why) r = r ≡ Err why
Admits row s (Ok u) r = Allows row s r

-- an admitted step by worker i: its plan is that of its rule, the memory fits, and `row` is the worker's in the phase that the step leads to
pub record Enters (limits : Limits) (p k i : ℕ) (s : Step) (m : Mem) (row : Row) : Type 0 where
  pub follows : step_plan limits p k i s m ≡ rule_of s p k i m
  pub fits : Fits limits p k m
  pub worker : i < p
  pub phase : (row_in m i).phase ≡ suits s
  pub leads : row ≡ entered s (row_in m i)

-- a step's end: its outcome and the worker's row after it, or refused
abbrev pub Stepped : Type 0
Stepped = Result (StepOutcome × Row) Refusal

-- as the rules have it: its answer, the worker's row, and all rows
abbrev pub answer_of : Stepped → StepAnswer
answer_of (Err why) = Err why
answer_of (Ok (o, row)) = Ok o

abbrev pub row_after : Row → Stepped → Row
row_after row (Err why) = row
row_after row (Ok (o, row')) = row'

abbrev pub rows_after : List Row → ℕ → Stepped → List Row
rows_after rows i (Err why) = rows
rows_after rows i (Ok (o, row)) = set rows i row
