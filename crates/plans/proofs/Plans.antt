-- How a plan is shown to follow a list of rows, row by row; `says` is what an accepted step's outcome says.
use Prim.Native.Nat.{ℕ}
use mathlib.Core.Path.{◌≡◌, refl}
use mathlib.Core.Bool.{Bool, true}
use mathlib.Core.List.{List, ◌∷◌}
use lib.Dec.{eqb}
use Rattle.task.specs.declared.refusal.Refusal.TheVariants.{Damaged, WrongPhase}
use Rattle.lists.proofs.Told.{Told, told-true, told-false, eq-told}
use Rattle.task.specs.Phases.{suits, next_phase}
use Rattle.task.specs.Refusals.{Said, damaged, wrong_phase, refusal_number, refusal_detail, refusal_says}
use Rattle.task.specs.declared.refusal.Refusal as why
use Rattle.task.specs.Rows.{Refusal, row, only, Follows}
use Rattle.task.proofs.Rows.{follows-given, follows-passed}
use Rattle.task.specs.declared.Step.{Step}
use Rattle.plans.specs.Plans.{Plan, refuse, accept, require, refuse_if, checked, suited}

-- a row whose condition holds
pub given-row : {C : Type 0} (y : why.Refusal) (rest : List Refusal) → C → Follows (row (refusal_number y) (only (refusal_detail y) C) ∷ rest) (refusal_says y)
given-row {C} y rest c = follows-given (row (refusal_number y) (only (refusal_detail y) C)) rest (refusal_detail y) (refl, c) (λ d p. p.0)

module _ {O U : Type 0} (says : O → Said) where
  abbrev pub plan_says : Plan O U → Said
  plan_says (refuse why) = refusal_says why
  plan_says (accept o us) = says o

  abbrev pub PlanFollows : List Refusal → Plan O U → Type 0
  PlanFollows rows plan = Follows rows (plan_says plan)

  -- a row whose condition doesn't hold
  pub passed-row : {C : Type 0} (y : why.Refusal) (rest : List Refusal) (plan : Plan O U) → ¬ C → PlanFollows rest plan → PlanFollows (row (refusal_number y) (only (refusal_detail y) C) ∷ rest) plan
  passed-row {C} y rest plan f r = follows-passed (row (refusal_number y) (only (refusal_detail y) C)) rest (plan_says plan) (λ d c. f c.1) r

  -- the row that a test stands for, and then the rows after it
  pub require-row : (b : Bool) {C : Type 0} (y : why.Refusal) (rest : List Refusal) (plan : Plan O U) → Told b (¬ C) C → (b ≡ true → PlanFollows rest plan)
      → PlanFollows (row (refusal_number y) (only (refusal_detail y) C) ∷ rest) (require b y plan)
  require-row b y rest plan (told-true e f) r = rw e (passed-row y rest plan f (r e))
  require-row b y rest plan (told-false e c) r = rw e (given-row y rest c)

  pub refuse-row : (b : Bool) {C : Type 0} (y : why.Refusal) (rest : List Refusal) (plan : Plan O U) → Told b C (¬ C) → PlanFollows rest plan
      → PlanFollows (row (refusal_number y) (only (refusal_detail y) C) ∷ rest) (refuse_if b y plan)
  refuse-row b y rest plan (told-true e c) r = rw e (given-row y rest c)
  refuse-row b y rest plan (told-false e f) r = rw e (passed-row y rest plan f r)

  -- the row of a word that is read
  pub checked-row : (b : Bool) {C : Type 0} (rest : List Refusal) (plan : Plan O U) → Told b (¬ C) C → (b ≡ true → PlanFollows rest plan)
      → PlanFollows (row damaged (only 0 C) ∷ rest) (checked b plan)
  checked-row b rest plan = require-row b Damaged rest plan

  -- 9: "step doesn't suit the phase"
  pub suited-row : (phase : ℕ) (s : Step) (rest : List Refusal) (plan : Plan O U) → PlanFollows rest plan
      → PlanFollows (row wrong_phase (only phase (¬ (phase ≡ suits s))) ∷ rest) (suited (next_phase phase s) phase plan)
  unfolding next_phase
  suited-row phase s rest plan f = go (eq-told phase (suits s))
    where
      go : Told (eqb phase (suits s)) (¬ (¬ (phase ≡ suits s))) (¬ (phase ≡ suits s))
          → PlanFollows (row wrong_phase (only phase (¬ (phase ≡ suits s))) ∷ rest) (suited (next_phase phase s) phase plan)
      go (told-true e c) = rw e (passed-row (WrongPhase phase) rest plan c f)
      go (told-false e c) = rw e (given-row (WrongPhase phase) rest c)
