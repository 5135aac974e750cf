-- Wrong previews: each differs from the rule on a memory of the preview's table.
use Prim.Native.Nat.{ℕ}
use mathlib.Core.Path.{◌≡◌, sym, ap, ◌∙◌}
use Rattle.lists.proofs.Apart.{unequal}
use Rattle.task.specs.Types.{engine, preview}
use Rattle.task.specs.Refusals.{Said, refused, accepted, answer_says, step_says, Answer, StepAnswer}
use Rattle.task.specs.declared.Step.TheVariants.{Fetch}
use Rattle.rules.specs.Memory.{Mem}
use Rattle.rules.specs.Plans.{Result}
use Rattle.rules.specs.Steps.{step}
use Rattle.rules.specs.Begin.{begin}
use Rattle.rules.proofs.Examples.{short}
use Rattle.rules.proofs.PreviewExamples.{loose, bare, begun_root, preview-examples}

abbrev by_preview : Said × Said → Said
by_preview s = s.0

abbrev by_engine : Said × Said → Said
by_engine s = s.1

abbrev begun : Result Answer → Said
begun r = answer_says r.answer

abbrev stepped : Result StepAnswer → Said
stepped r = step_says r.answer

-- K 9 taken
pub no-ninth-slot : (b : ℕ → ℕ → Mem → Result Answer) → begun (b 1 9 (bare 1 9)) ≡ accepted → ¬ (b 1 9 (bare 1 9) ≡ begin preview 1 9 (bare 1 9))
no-ninth-slot b a e = unequal (cc (sym a ∙ ap begun e ∙ ap by_preview preview-examples.slots.1))

-- lengths before the preview's 2
pub no-length-first : (b : ℕ → ℕ → Mem → Result Answer) → begun (b 4 8 (short (loose 129))) ≡ refused 1 0
    → ¬ (b 4 8 (short (loose 129)) ≡ begin preview 4 8 (short (loose 129)))
no-length-first b a e = unequal (cc (sym a ∙ ap begun e ∙ ap by_preview preview-examples.wrong_length))

-- steps with the engine's limits: accepted where the preview says 2
pub no-engine-step : ¬ (step engine 5 2 0 Fetch (begun_root 5 2) ≡ step preview 5 2 0 Fetch (begun_root 5 2))
no-engine-step e = unequal (cc (sym (ap by_engine preview-examples.workers_step.1) ∙ ap stepped e ∙ ap by_preview preview-examples.workers_step.1))
