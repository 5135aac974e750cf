-- The phase word, then whether the step suits it: plans of any family that start with these two tests are refused, or go on.
use Prim.Native.Nat.{ℕ, ◌≤◌, ◌<◌}
use mathlib.Core.Path.{◌≡◌, refl, sym, ◌∙◌}
use mathlib.Core.Bool.{Bool, true, false, cond}
use lib.Dec.{eqb}
use borrow.Author.Tests.{le-leb, lt-leb, eqb-true}
use Rattle.std.specs.Prelude.{Option, Some, None, Ok, Err}
use Rattle.task.specs.declared.refusal.Refusal.{Refusal}
use Rattle.task.specs.declared.refusal.Refusal.TheVariants.{Damaged, WrongPhase}
use Rattle.lists.proofs.Apart.{unequal}
use Rattle.task.specs.Phases.{suits, leads_to, next_phase}
use Rattle.task.specs.declared.Row.{Row}
use Rattle.task.specs.declared.Step.{Step}
use Rattle.task.specs.declared.Step.TheVariants as step
use Rattle.plans.specs.Words.{phase_fits}
use Rattle.plans.specs.Plans.{Plan, refuse, checked, suited}
use Rattle.rules.specs.Memory.{with_hand}
use Rattle.admission.specs.Phase.{Phased, phased_to, phase_after}
use Rattle.admission.specs.Admission.{Allows}

module _ (phase : ℕ) (s : Step) where
  pub phase-damaged : 2 < phase → Err Damaged ≡ phase_after phase s
  unfolding phase_after
  phase-damaged h = rw (lt-leb phase 2 h) refl

  passed_to : (b : Bool) (a q : ℕ) → cond b (Some a) None ≡ Some q → (b ≡ true) × (q ≡ a)
  passed_to true a q e = (refl, cc)
  passed_to false a q e = unequal cc

  -- a word that a step suits is a phase
  suits-fits : (q : ℕ) → next_phase phase s ≡ Some q → phase_fits phase ≡ true
  unfolding next_phase
  suits-fits q e = rw (eqb-true phase (suits s) (passed_to (eqb phase (suits s)) (leads_to s) q e).0) (fits s)
    where
      fits : (x : Step) → phase_fits (suits x) ≡ true
      fits step.Fetch = refl
      fits step.Start = refl
      fits step.Complete = refl
      fits step.Release = refl

  module _ (to : Option ℕ) (e : to ≡ next_phase phase s) where
    pub phase-wrong : phase ≤ 2 → to ≡ None → Err (WrongPhase phase) ≡ phase_after phase s
    unfolding phase_after
    phase-wrong h w = rw (le-leb phase 2 h, ← e, w) refl

    pub phase-suits : (q : ℕ) → to ≡ Some q → Ok q ≡ phase_after phase s
    unfolding phase_after
    phase-suits q w = rw (suits-fits q (sym e ∙ w), ← e, w) refl

  -- the phase that is led to
  pub phase-leads : (q : ℕ) → phase_after phase s ≡ Ok q → (phase ≡ suits s) × (q ≡ leads_to s)
  unfolding phase_after next_phase
  phase-leads q e = go (phase_fits phase) (next_phase phase s) refl e
    where
      go : (b : Bool) (x : Option ℕ) → x ≡ next_phase phase s → cond b (phased_to x phase) (Err Damaged) ≡ Ok q → (phase ≡ suits s) × (q ≡ leads_to s)
      go true (Some a) h v =
          let (t, l) = passed_to (eqb phase (suits s)) (leads_to s) a (sym h) in
          (eqb-true phase (suits s) t, cc)
      go true None h v = unequal cc
      go false x h v = unequal cc

  module _ {O U : Type 0} (rest : Plan O U) where
    pub phase-refuses : (why : Refusal) → phase_after phase s ≡ Err why → checked (phase_fits phase) (suited (next_phase phase s) phase rest) ≡ refuse why
    unfolding phase_after
    phase-refuses why e = go (phase_fits phase) (next_phase phase s) e
      where
        go : (b : Bool) (x : Option ℕ) → cond b (phased_to x phase) (Err Damaged) ≡ Err why → checked b (suited x phase rest) ≡ refuse why
        go true (Some a) v = unequal cc
        go true None v = cc
        go false x v = cc

    pub phase-goes-on : (q : ℕ) → phase_after phase s ≡ Ok q → checked (phase_fits phase) (suited (next_phase phase s) phase rest) ≡ rest
    unfolding phase_after
    phase-goes-on q e = go (phase_fits phase) (next_phase phase s) e
      where
        go : (b : Bool) (x : Option ℕ) → cond b (phased_to x phase) (Err Damaged) ≡ Ok q → checked b (suited x phase rest) ≡ rest
        go true (Some a) v = refl
        go true None v = unequal cc
        go false x v = unequal cc

-- the same of a plain worker's row
module _ (row : Row) (s : Step) (x : Phased) (e : x ≡ phase_after row.phase s) where
  pub row-refused : (why : Refusal) → x ≡ Err why → Allows row s (Err why)
  row-refused why v rest = phase-refuses row.phase s rest why (sym e ∙ v)

  pub row-admitted : (q : ℕ) → x ≡ Ok q → Allows row s (Ok (with_hand q row.held row))
  row-admitted q v =
      let (a, l) = phase-leads row.phase s q (sym e ∙ v) in
      ((λ rest. phase-goes-on row.phase s rest q (sym e ∙ v)), (a, rw l refl))
