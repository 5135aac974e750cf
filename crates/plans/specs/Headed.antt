-- "In a step: 2, 1, 7, phase word (8), 9; then the step's rule is followed from its first sentence".
use Rattle.task.specs.declared.refusal.Refusal.TheVariants.{BeyondLimit, NoSuchWorker, WrongLength}
use Rattle.std.specs.Prelude.{ℕ, ◌&&◌, ltb}
use Rattle.task.specs.Phases.{next_phase}
use Rattle.task.specs.declared.Limits.{Limits}
use Rattle.task.specs.declared.Step.{Step}
use Rattle.graph.specs.Check.{sizes_fit}
use Rattle.memory.specs.Family.{Family}
use Rattle.memory.specs.Memory.{Mem}
use Rattle.plans.specs.Memory.{tasks, edges, phase_in}
use Rattle.plans.specs.Sizes.{numbers_fit, lengths_fit}
use Rattle.plans.specs.Words.{phase_fits}
use Rattle.plans.specs.Plans.{Plan, require, checked, suited}

abbrev pub headed : {F : Family} {O U : Type 0} → Limits → ℕ → ℕ → ℕ → Step → Mem F → Plan O U → Plan O U
headed limits p k i step m rule =
    require (numbers_fit limits p k && sizes_fit limits (tasks m) (edges m)) BeyondLimit
    (require (lengths_fit p k m) WrongLength
    (require (ltb i p) (NoSuchWorker i)
    (checked (phase_fits (phase_in m i))
    (suited (next_phase (phase_in m i) step) (phase_in m i)
    rule))))
