-- PROMISE: a refused call leaves all lent memory as it was.
use Prim.Native.Nat.{ℕ}
use mathlib.Core.Path.{◌≡◌, refl, subst}
use Rattle.task.specs.Refusals.{refused, answer_says}
use Rattle.task.specs.Rows.{Acceptance}
use Rattle.task.specs.declared.Limits.{Limits}
use Rattle.task.specs.declared.Step.{Step}
use Rattle.weak_task.specs.Says.{step_says}
use Rattle.plans.proofs.Begin.{result-refused}
use Rattle.weak_rules.specs.Memory.{Mem}
use Rattle.weak_rules.specs.Plans.{Plan, refuse, accept, carried_out}
use Rattle.weak_rules.specs.Steps.{step_plan, step}
use Rattle.weak_rules.specs.Begin.{begin_answer, begun, begin}
use Rattle.weak_rules.proofs.Plans.{outcome-accepts}

refused-plan : (plan : Plan) (m : Mem) (n d : ℕ) → step_says (carried_out plan m).answer ≡ refused n d → (carried_out plan m).memory ≡ m
unfolding carried_out
refused-plan (refuse why) m n d e = refl
refused-plan (accept o us) m n d e = absurd (subst Acceptance e (outcome-accepts o))

pub refused-step : (limits : Limits) (p k i : ℕ) (s : Step) (m : Mem) (n d : ℕ)
    → step_says (step limits p k i s m).answer ≡ refused n d → (step limits p k i s m).memory ≡ m
unfolding step
refused-step limits p k i s m n d e = refused-plan (step_plan limits p k i s m) m n d e

pub refused-begin : (limits : Limits) (p k : ℕ) (m : Mem) (n d : ℕ) → answer_says (begin limits p k m).answer ≡ refused n d → (begin limits p k m).memory ≡ m
unfolding begin
refused-begin limits p k m n d e = result-refused (begun p k m) m (begin_answer limits p k m) n d e
