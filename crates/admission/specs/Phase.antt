-- "phase word (8), 9": what looks at a worker's phase alone, for steps of every family.
use Rattle.task.specs.declared.refusal.Refusal.TheVariants.{Damaged, WrongPhase}
use Rattle.std.specs.Prelude.{ℕ, cond, Option, Some, None, Result, Ok, Err}
use Rattle.task.specs.Phases.{next_phase}
use Rattle.task.specs.declared.refusal.Refusal.{Refusal}
use Rattle.task.specs.declared.Step.{Step}
use Rattle.plans.specs.Words.{phase_fits}

-- the phase that a step leads to, or refused
abbrev pub Phased : Type 0
Phased = Result ℕ Refusal

-- 9: "step doesn't suit the phase", "phase"
abbrev pub phased_to : Option ℕ → ℕ → Phased
phased_to None phase = Err (WrongPhase phase)
phased_to (Some q) phase = Ok q

-- 8: "phase over 2"
unfoldable pub phase_after : ℕ → Step → Phased
phase_after phase s = cond (phase_fits phase) (phased_to (next_phase phase s) phase) (Err Damaged)
