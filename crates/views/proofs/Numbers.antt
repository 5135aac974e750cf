-- A run keeps the limits of every call that is accepted.
use mathlib.Core.Path.{◌≡◌, sym}
use mathlib.Core.Logic.{inl, inr}
use Rattle.lists.proofs.Decided.{stable, both?}
use Rattle.task.specs.Refusals.{Said, refused}
use Rattle.task.specs.Rows.{Acceptance}
use Rattle.machine.specs.Runs.{View}
use Rattle.machine.specs.Jobs.{Call, Engine}
use Rattle.memory.specs.Family.{Family}
use Rattle.memory.specs.Memory.{Mem}
use Rattle.plans.specs.Memory.{tasks, edges}
use Rattle.plans.specs.Sizes.{KeepsLimits}
use Rattle.plans.proofs.Headers.{kept, not_beyond}
use Rattle.plans.proofs.Numbers.{TwoOrOne}
use Rattle.views.specs.Numbers.{OtherNumbers, BeyondLimits, AcceptedKept}

-- what is accepted meets neither 2 nor 1
pub accepted-fits : {A : Type 0} (said : Said) → Acceptance said → TwoOrOne said → A
accepted-fits said a (inl e) = absurd (rw e at a)
accepted-fits said a (inr e) = absurd (rw e at a)

pub accepted-kept : {F : Family} (on : Engine (Mem F)) (v : View (Mem F) Call) → OtherNumbers on v → BeyondLimits on v → AcceptedKept on v
accepted-kept on v other beyond limits p k = (
  λ i s a. keeps _ a (λ n. ((beyond limits p k n).0 i s).0) (λ n. (other limits p k n).0 i s),
  λ a. keeps _ a (λ n. (beyond limits p k n).1.0) (λ n. (other limits p k n).1),
)
  where
    keeps : (said : Said) → Acceptance said → (¬ (KeepsLimits limits p k (tasks v.lent) (edges v.lent)) → said ≡ refused 2 0)
        → (¬ ((p ≡ v.workers) × (k ≡ v.slots)) → TwoOrOne said) → KeepsLimits limits v.workers v.slots (tasks v.lent) (edges v.lent)
    keeps said a far same =
        let (ep, ek) = stable (both? p k v.workers v.slots) (λ n. accepted-fits said a (same n)) in
        rw (sym ep, sym ek) (kept limits p k v.lent (λ b. accepted-fits said a (inl (far (λ w. not_beyond limits p k v.lent w b)))))
