-- How a weak job's plan is shown to follow a list of rows, row by row.
use mathlib.Core.Path.{◌≡◌, refl}
use mathlib.Core.List.{List, []}
use Rattle.task.specs.Refusals.{Said}
use Rattle.task.specs.Rows.{Refusal, Acceptance}
use Rattle.task.proofs.Rows.{follows-none}
use Rattle.weak_task.specs.Says.{outcome_says, step_says}
use Rattle.weak_task.specs.declared.WeakOutcome.{WeakOutcome}
use Rattle.weak_task.specs.declared.WeakOutcome.TheVariants.{Moved, Fetched, Placed}
use Rattle.plans.proofs.Plans as plans
pub use Rattle.plans.proofs.Plans.{given-row, passed-row, require-row, refuse-row, checked-row}
use Rattle.weak_rules.specs.Memory.{Mem}
use Rattle.weak_rules.specs.Updates.{Update}
use Rattle.weak_rules.specs.Plans.{Plan, refuse, accept, counted, carried_out}
use Rattle.weak_rules.specs.Tables.{count_rows}
use Rattle.weak_rules.proofs.Words.{roots-told, accepted-told}

abbrev pub plan_says : Plan → Said
plan_says = plans.plan_says outcome_says

abbrev pub PlanFollows : List Refusal → Plan → Type 0
PlanFollows = plans.PlanFollows outcome_says

-- the answer is the plan's
pub answer-planned : (plan : Plan) (m : Mem) → step_says (carried_out plan m).answer ≡ plan_says plan
unfolding carried_out
answer-planned (refuse why) m = refl
answer-planned (accept o us) m = refl

pub outcome-accepts : (o : WeakOutcome) → Acceptance (outcome_says o)
outcome-accepts Moved = tt
outcome-accepts (Fetched c) = tt
outcome-accepts (Placed c w) = tt

-- R and the accepted word come last
pub counted-row : (m : Mem) (o : WeakOutcome) (us : List Update) → PlanFollows (count_rows m) (counted m o us)
unfolding counted
counted-row m o us =
    plans.checked-row outcome_says _ _ _ (roots-told m) (λ _.
    plans.checked-row outcome_says _ [] _ (accepted-told m) (λ _. follows-none (outcome_says o) (outcome-accepts o)))
