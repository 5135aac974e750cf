-- "Which step suits which phase is a fixed table of phase against step: Release 0→0, Fetch 0→1, Start 1→2, Complete 2→0;
-- the other eight pairs are refused."
use Rattle.std.specs.Prelude.{ℕ, cond, eqb, Option, Some, None}
use Rattle.task.specs.declared.Step.{Step}
use Rattle.task.specs.declared.Step.TheVariants.{Fetch, Start, Complete, Release}

-- the phase that a step suits
abbrev pub suits : Step → ℕ
suits Release = 0
suits Fetch = 0
suits Start = 1
suits Complete = 2

-- the phase that it leads to
abbrev pub leads_to : Step → ℕ
leads_to Release = 0
leads_to Fetch = 1
leads_to Start = 2
leads_to Complete = 0

-- the phase after a step, or none where the step is refused
unfoldable pub next_phase : ℕ → Step → Option ℕ
next_phase phase step = cond (eqb phase (suits step)) (Some (leads_to step)) None

-- the steps' columns in the table
abbrev pub step_number : Step → ℕ
step_number Fetch = 0
step_number Start = 1
step_number Complete = 2
step_number Release = 3
