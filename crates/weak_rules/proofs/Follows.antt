-- PROMISE: a step is refused under the table's conditions and no others.
use Prim.Native.Nat.{ℕ, ◌≤◌, ◌<◌}
use native.Mathlib.Omega.{arith}
use Rattle.task.specs.Types.{capped}
use Rattle.task.specs.Rows.{Follows}
use Rattle.task.specs.declared.Limits.{Limits}
use Rattle.task.specs.declared.Step.{Step}
use Rattle.task.specs.declared.Step.TheVariants.{Fetch, Start, Complete, Release}
use Rattle.weak_task.specs.Says.{outcome_says, step_says}
use Rattle.memory.specs.Field as list
use Rattle.plans.specs.Sizes.{Fits}
use Rattle.plans.proofs.Headers.{within-engine, headed-follows}
use Rattle.weak_rules.specs.Memory.{Mem}
use Rattle.weak_rules.specs.Steps.{rule_of, step_plan, step}
use Rattle.weak_rules.specs.Tables.{own_rows, step_rows}
use Rattle.weak_rules.proofs.Plans.{PlanFollows, answer-planned}
use Rattle.plans.specs.Forms.{own}
use Rattle.plans.proofs.Forms.{own-chooses}
use Rattle.weak_rules.proofs.Complete.{start-follows, complete-follows}
use Rattle.weak_rules.proofs.Fetch.{fetch-follows}
use Rattle.weak_rules.proofs.Release.{release-follows}

-- the workers' numbers don't reach NIL
pub few-workers : {limits : Limits} {p k : ℕ} {m : Mem} → Fits limits p k m → p ≤ 65535
unfolding capped
few-workers f = omega (arith, (within-engine f.limits).few_workers)

-- a step's own rule, where it is reached
rule-follows : (limits : Limits) (p k i : ℕ) (s : Step) (m : Mem) → Fits limits p k m → i < p → PlanFollows (own_rows s p k i m) (rule_of s p k i m)
unfolding rule_of
rule-follows limits p k i Fetch m f h = fetch-follows p k i m
rule-follows limits p k i Start m f h = start-follows i m
rule-follows limits p k i Complete m f h = complete-follows p i m
rule-follows limits p k i Release m f h = release-follows (own p m) p k i m (own-chooses p m (omega (arith, f.limits.one_worker)) (f.lengths.list list.counters)) (few-workers f)

pub step_follows : (limits : Limits) (p k i : ℕ) (s : Step) (m : Mem) → Follows (step_rows limits p k i s m) (step_says (step limits p k i s m).answer)
unfolding step step_plan
step_follows limits p k i s m =
    rw (answer-planned (step_plan limits p k i s m) m)
    (headed-follows limits p k i s m (rule_of s p k i m) outcome_says (own_rows s p k i m) (rule-follows limits p k i s m))
