-- How a plain job's plan is shown to follow a list of rows, row by row.
use mathlib.Core.Path.{◌≡◌, refl}
use mathlib.Core.List.{List, [], ◌∷◌}
use Rattle.task.specs.Refusals.{Said, damaged, outcome_says, step_says}
use Rattle.task.specs.Rows.{Refusal, row, only, Acceptance}
use Rattle.task.proofs.Rows.{follows-none}
use Rattle.task.specs.declared.StepOutcome.{StepOutcome}
use Rattle.task.specs.declared.StepOutcome.TheVariants.{Moved, Fetched, Released}
use Rattle.task.specs.declared.ReleaseOutcome.TheVariants.{DegreeLeft, Placed}
use Rattle.plans.proofs.Plans as plans
pub use Rattle.plans.proofs.Plans.{given-row, passed-row, require-row, refuse-row, checked-row}
use Rattle.rules.specs.Memory.{Mem}
use Rattle.rules.specs.Updates.{Update}
use Rattle.rules.specs.Plans.{Plan, refuse, accept, counted, carried_out}
use Rattle.rules.specs.Tables.{BadAccepted}
use Rattle.rules.proofs.Words.{accepted-told}

abbrev pub plan_says : Plan → Said
plan_says = plans.plan_says outcome_says

abbrev pub PlanFollows : List Refusal → Plan → Type 0
PlanFollows = plans.PlanFollows outcome_says

-- the answer is the plan's
pub answer-planned : (plan : Plan) (m : Mem) → step_says (carried_out plan m).answer ≡ plan_says plan
unfolding carried_out
answer-planned (refuse why) m = refl
answer-planned (accept o us) m = refl

pub outcome-accepts : (o : StepOutcome) → Acceptance (outcome_says o)
outcome-accepts Moved = tt
outcome-accepts (Fetched t) = tt
outcome-accepts (Released (DegreeLeft d)) = tt
outcome-accepts (Released (Placed t w)) = tt

-- the accepted word comes last
pub counted-row : (m : Mem) (o : StepOutcome) (us : List Update) → PlanFollows (row damaged (only 0 (BadAccepted m)) ∷ []) (counted m o us)
unfolding counted
counted-row m o us = plans.checked-row outcome_says _ [] _ (accepted-told m) (λ _. follows-none (outcome_says o) (outcome-accepts o))
