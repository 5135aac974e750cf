-- Begin, the four steps and the lookup of a family of jobs, as calls: "A run starts at an accepted begin .. A list of calls follows: Fetch,
-- Start, Complete and Release with any worker, P and K, accepted or refused, and refused begins. Each finds the words that the last one left; a
-- lookup in between writes nothing." Each call has limits of its own, as the engine's or the preview's.
use Rattle.std.specs.Prelude.{ℕ, Bool, true, false, cond, List, eqb}
use Rattle.task.specs.Refusals.{Said}
use Rattle.task.specs.declared.Limits.{Limits}
use Rattle.task.specs.declared.Side.{Side}
use Rattle.task.specs.declared.Step.{Step}
use Rattle.task.specs.declared.Step.TheVariants.{Fetch, Start, Complete, Release}
use Rattle.machine.specs.Machine.{Kind, beginning, forward, lookup, Machine, Event, accepted_of}
use Rattle.machine.specs.Runs as runs
use Rattle.machine.specs.Runs.{View}

pub data Call : Type 0 where
  step_call : Limits → (p k worker : ℕ) → Step → Call
  begin_call : Limits → (p k : ℕ) → Call
  lookup_call : Side → (task : ℕ) → Call

-- one of the four steps; a lookup or a begin is none
abbrev pub is_step : Call → Bool
is_step (step_call limits p k i s) = true
is_step (begin_call limits p k) = false
is_step (lookup_call side t) = false

abbrev pub is_fetch : Step → Bool
is_fetch Fetch = true
is_fetch Start = false
is_fetch Complete = false
is_fetch Release = false

-- a Fetch by worker i
abbrev pub fetch_by : ℕ → Call → Bool
fetch_by i (step_call limits p k w s) = cond (is_fetch s) (eqb w i) false
fetch_by i (begin_call limits p k) = false
fetch_by i (lookup_call side t) = false

abbrev pub is_completion : Step → Bool
is_completion Fetch = false
is_completion Start = false
is_completion Complete = true
is_completion Release = false

abbrev pub is_complete : Call → Bool
is_complete (step_call limits p k i s) = is_completion s
is_complete (begin_call limits p k) = false
is_complete (lookup_call side t) = false

-- the worker that takes a step; 0 for the other calls
abbrev pub worker_of : Call → ℕ
worker_of (step_call limits p k i s) = i
worker_of (begin_call limits p k) = 0
worker_of (lookup_call side t) = 0

abbrev pub kind_of : Call → Kind
kind_of (step_call limits p k i s) = forward
kind_of (begin_call limits p k) = beginning
kind_of (lookup_call side t) = lookup

-- how many of the events are accepted calls of the kind; a lookup or a begin is of neither kind
abbrev pub accepted_steps : List (Event Call) → ℕ
accepted_steps = accepted_of is_step

abbrev pub accepted_completes : List (Event Call) → ℕ
accepted_completes = accepted_of is_complete

-- what begin and the steps of a family answer and leave; of a lookup its judging call
pub record Engine (M : Type 0) : Type 0 where
  pub step_says : Limits → (p k worker : ℕ) → Step → M → Said
  pub step_leaves : Limits → (p k worker : ℕ) → Step → M → M
  pub begin_says : Limits → (p k : ℕ) → M → Said
  pub begin_leaves : Limits → (p k : ℕ) → M → M
  pub lookup_says : Side → ℕ → M → Said

module _ {M : Type 0} (on : Engine M) where
  abbrev pub says : Call → M → Said
  says (step_call limits p k i s) m = on.step_says limits p k i s m
  says (begin_call limits p k) m = on.begin_says limits p k m
  says (lookup_call side t) m = on.lookup_says side t m

  abbrev pub leaves : Call → M → M
  leaves (step_call limits p k i s) m = on.step_leaves limits p k i s m
  leaves (begin_call limits p k) m = on.begin_leaves limits p k m
  leaves (lookup_call side t) m = m

  -- the machine of these calls: no step is taken back
  abbrev pub machine_of : Machine M Call
  machine_of = record { says = says; leaves = leaves; kind = kind_of }

  -- its runs (`Runs.antt`)
  abbrev pub Run : Type 0
  Run = runs.Run machine_of begin_call

  abbrev pub begun_of : Run → M
  begun_of = runs.begun_of machine_of begin_call

  abbrev pub memory_of : Run → M
  memory_of = runs.memory_of machine_of begin_call

  abbrev pub events_of : Run → List (Event Call)
  events_of = runs.events_of machine_of begin_call

  abbrev pub view_of : Run → View M Call
  view_of = runs.view_of machine_of begin_call

  abbrev pub longer : Run → List Call → Run
  longer = runs.longer machine_of begin_call
