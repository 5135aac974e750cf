-- An idle worker's step where numbers and lists fit, of any family: 9 unless the step suits phase 0, else what the step's own rows say.
use Prim.Native.Nat.{ℕ, ◌<◌}
use mathlib.Core.Path.{◌≡◌, refl, sym, ◌∙◌}
use mathlib.Core.Logic.{inl, inr}
use mathlib.Core.List.{List, ◌∷◌}
use native.Mathlib.Omega.{arith}
use Rattle.task.specs.Phases.{suits}
use Rattle.task.specs.Refusals.{Said, refused, wrong_phase}
use Rattle.task.specs.Rows.{Refusal, row, only, Given, Follows}
use Rattle.task.specs.declared.Limits.{Limits}
use Rattle.task.specs.declared.Step.{Step}
use Rattle.memory.specs.Family.{Family}
use Rattle.memory.specs.Memory.{Mem}
use Rattle.plans.specs.Memory.{phase_in}
use Rattle.plans.specs.Sizes.{Fits}
use Rattle.plans.specs.Tables.{headed_rows}
use Rattle.plans.proofs.Headers.{fits-within}

module _ {F : Family} (limits : Limits) (p k i : ℕ) (s : Step) (m : Mem F) {own : List Refusal} {said : Said}
    (follows : Follows (headed_rows limits p k i s m own) said) (fits : Fits limits p k m) (worker : i < p) (free : ◌≡◌ {A = ℕ} (phase_in m i) 0) where
  late-row : (n d : ℕ) → Given (row wrong_phase (only (phase_in m i) (¬ (phase_in m i ≡ suits s))) ∷ own) n d → said ≡ refused n d
  late-row n d g =
      (follows.refuses n d).1
      (inr (
        λ x c. fits-within limits p k m fits c.1,
        inr (λ x c. c.1 fits.lengths, inr (λ x c. omega (arith, worker, c.1), inr (λ x c. omega (arith, free, c.1), g))),
      ))

  pub unsuited : ¬ (0 ≡ suits s) → said ≡ refused wrong_phase 0
  unsuited n = late-row wrong_phase 0 (inl (refl, (sym free, λ e. n (sym free ∙ e))))

  pub own_row : 0 ≡ suits s → (n d : ℕ) → Given own n d → said ≡ refused n d
  own_row e n d g = late-row n d (inr (λ x c. c.1 (free ∙ e), g))
