-- A reply is what its answer says, beside the memory that the call leaves; the calls are made with the limits that their export stands for.
use Prim.Native.Nat.{ℕ}
use mathlib.Core.Path.{◌≡◌, ap}
use Rattle.task.specs.Refusals.{Answer, StepAnswer}
use Rattle.task.specs.declared.Limits.{Limits}
use Rattle.task.specs.declared.Step.{Step}
use Rattle.rules.specs.Memory.{Mem}
use Rattle.rules.specs.Begin.{begin}
use Rattle.rules.specs.Steps.{step}
use Rattle.rules.specs.Plans.{result_of}
use Rattle.engine_export.specs.Replies.{replied}

module _ {R : Type 0} (limits own : Limits) (p k : ℕ) where
  pub step-replied : (reply : StepAnswer → R) (i : ℕ) (s : Step) (m m' : Mem) (a : StepAnswer) (r : R)
      → limits ≡ own → result_of a m' ≡ step limits p k i s m → r ≡ reply a → result_of r m' ≡ replied reply (step own p k i s m)
  step-replied reply i s m m' a r e made said = rw said (ap (replied reply) (rw e at made))

  pub begin-replied : (reply : Answer → R) (m m' : Mem) (a : Answer) (r : R)
      → limits ≡ own → result_of a m' ≡ begin limits p k m → r ≡ reply a → result_of r m' ≡ replied reply (begin own p k m)
  begin-replied reply m m' a r e made said = rw said (ap (replied reply) (rw e at made))
