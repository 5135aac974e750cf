-- PROMISE: the number of a reply is 0 exactly if the call was accepted, and else number and detail are those of the first row of the
-- published table that holds.
use Prim.Native.Nat.{ℕ, ◌≤◌}
use mathlib.Core.Path.{◌≡◌, refl}
use mathlib.Core.Bool.{true}
use mathlib.Core.Logic.{◌↔◌}
use Rattle.task.specs.Refusals.{answer_says, step_says}
use Rattle.task.specs.Rows.{Given, Acceptance}
use Rattle.task.proofs.Said.{numbered, zero-accepts}
use Rattle.task.specs.declared.Limits.{Limits}
use Rattle.task.specs.declared.Step.{Step}
use Rattle.task.specs.declared.Step.TheVariants.{Fetch, Start, Complete, Release}
use Rattle.rules.specs.Memory.{Mem}
use Rattle.rules.specs.Begin.{begin}
use Rattle.rules.specs.Steps.{step}
use Rattle.rules.specs.Tables.{begin_rows, step_rows}
use Rattle.rules.proofs.Begin.{begin-follows}
use Rattle.rules.proofs.Follows.{step_follows}
use Rattle.replies.specs.Replies.{reply_of, step_reply_of}
use Rattle.replies.proofs.Told.{tells-refusal}

module _ (limits : Limits) (p k : ℕ) (m : Mem) where
  pub begin-zero : ((reply_of (begin limits p k m).answer).number ≡ 0) ↔ Acceptance (answer_says (begin limits p k m).answer)
  begin-zero = zero-accepts (begin_rows limits p k m) _ (begin-follows limits p k m) refl

  pub begin-tells : (n d : ℕ) → 1 ≤ n
      → (((reply_of (begin limits p k m).answer).number ≡ n) × ((reply_of (begin limits p k m).answer).detail ≡ d)) ↔ Given (begin_rows limits p k m) n d
  begin-tells = tells-refusal (begin_rows limits p k m) _ (begin-follows limits p k m)

  rows-numbered : (i : ℕ) (s : Step) → numbered (step_rows limits p k i s m) ≡ true
  rows-numbered i Fetch = refl
  rows-numbered i Start = refl
  rows-numbered i Complete = refl
  rows-numbered i Release = refl

  pub step-zero : (i : ℕ) (s : Step) → ((step_reply_of (step limits p k i s m).answer).number ≡ 0) ↔ Acceptance (step_says (step limits p k i s m).answer)
  step-zero i s = zero-accepts (step_rows limits p k i s m) _ (step_follows limits p k i s m) (rows-numbered i s)

  pub step-tells : (i : ℕ) (s : Step) (n d : ℕ) → 1 ≤ n
      → (((step_reply_of (step limits p k i s m).answer).number ≡ n) × ((step_reply_of (step limits p k i s m).answer).detail ≡ d))
      ↔ Given (step_rows limits p k i s m) n d
  step-tells i s = tells-refusal (step_rows limits p k i s m) _ (step_follows limits p k i s m)
