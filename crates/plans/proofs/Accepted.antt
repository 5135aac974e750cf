-- What holds of the outcome and the updates where a plan accepts.
use Prim.Native.Nat.{ℕ}
use mathlib.Core.Path.{◌≡◌, refl}
use mathlib.Core.Bool.{Bool, true, false, cond}
use mathlib.Core.List.{List}
use Rattle.task.specs.declared.refusal.Refusal.{Refusal}
use Rattle.lists.proofs.Apart.{unequal}
use Rattle.plans.specs.Plans.{Plan, refuse, accept, require}

pub record IfAccepted {O U : Type 0} (M : O → List U → Type 0) (plan : Plan O U) : Type 0 where
  pub holds : (o : O) (us : List U) → plan ≡ accept o us → M o us

module _ {O U : Type 0} {M : O → List U → Type 0} where
  pub if-refused : (why : Refusal) → IfAccepted M (refuse why)
  if-refused why = record { holds = λ o us e. unequal cc }

  pub if-required : (b : Bool) (why : Refusal) {plan : Plan O U} → (b ≡ true → IfAccepted M plan) → IfAccepted M (require b why plan)
  if-required true why f = f refl
  if-required false why f = if-refused why

  pub if-cond : (b : Bool) {x y : Plan O U} → (b ≡ true → IfAccepted M x) → (b ≡ false → IfAccepted M y) → IfAccepted M (cond b x y)
  if-cond true f g = f refl
  if-cond false f g = g refl
