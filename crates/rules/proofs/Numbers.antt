-- PROMISE: "A call with another P or K than begin's meets 2 or 1."
use Prim.Native.Nat.{ℕ}
use mathlib.Core.Path.{◌≡◌}
use mathlib.Core.Logic.{inl}
use Rattle.lists.proofs.Told.{and-told}
use Rattle.task.specs.Refusals.{answer_says, step_says}
use Rattle.task.specs.declared.Limits.{Limits}
use Rattle.task.specs.declared.Step.{Step}
use Rattle.graph.proofs.Refusals.{weights-told}
use Rattle.plans.proofs.Headers.{limits-told}
use Rattle.plans.proofs.Numbers.{other-lengths, two-or-one}
pub use Rattle.plans.proofs.Numbers.{TwoOrOne}
use Rattle.rules.specs.Memory.{Mem}
use Rattle.rules.specs.Sizes.{Lengths}
use Rattle.rules.specs.Steps.{step}
use Rattle.rules.specs.Begin.{begin}
use Rattle.rules.proofs.Follows.{step_follows}
use Rattle.rules.proofs.Begin.{begin-follows}

module _ (limits : Limits) (p k p' k' : ℕ) (m : Mem) (l : Lengths p k m) (n : ¬ ((p' ≡ p) × (k' ≡ k))) where
  pub other_step : (i : ℕ) (s : Step) → TwoOrOne (step_says (step limits p' k' i s m).answer)
  other_step i s =
      two-or-one _ _ _ (limits-told limits p' k' m) (λ f. other-lengths limits p k p' k' m l n (λ far. f (inl far)))
      (step_follows limits p' k' i s m)

  pub other-begin : TwoOrOne (answer_says (begin limits p' k' m).answer)
  other-begin =
      two-or-one _ _ _ (and-told _ _ (limits-told limits p' k' m) (weights-told m.weights))
      (λ f. other-lengths limits p k p' k' m l n (λ far. f (inl (inl far))))
      (begin-follows limits p' k' m)
