-- PROMISE: the number of a preview's reply is 0 exactly if the call was accepted, and else number and detail are those of the first row of the
-- published table that holds, in the preview's figures.
use Prim.Native.Nat.{ℕ, ◌≤◌}
use mathlib.Core.Path.{◌≡◌}
use mathlib.Core.Logic.{◌↔◌}
use Rattle.task.specs.Types.{preview}
use Rattle.task.specs.Refusals.{answer_says, step_says}
use Rattle.task.specs.Rows.{Given, Acceptance}
use Rattle.task.specs.declared.Step.{Step}
use Rattle.rules.specs.Memory.{Mem}
use Rattle.rules.specs.Begin.{begin}
use Rattle.rules.specs.Steps.{step}
use Rattle.rules.specs.Limits.{preview_begin_rows, preview_step_rows}
use Rattle.rules.proofs.Limits.{preview-begin-follows, preview-step-follows}
use Rattle.replies.specs.Replies.{reply_of, step_reply_of}
use Rattle.replies.proofs.Told.{tells-refusal}
use Rattle.engine_export.proofs.Told.{begin-zero, step-zero}

module _ (p k : ℕ) (m : Mem) where
  pub preview-begin-zero : ((reply_of (begin preview p k m).answer).number ≡ 0) ↔ Acceptance (answer_says (begin preview p k m).answer)
  preview-begin-zero = begin-zero preview p k m

  pub preview-begin-tells : (n d : ℕ) → 1 ≤ n
      → (((reply_of (begin preview p k m).answer).number ≡ n) × ((reply_of (begin preview p k m).answer).detail ≡ d)) ↔ Given (preview_begin_rows p k m) n d
  preview-begin-tells = tells-refusal (preview_begin_rows p k m) _ (preview-begin-follows p k m)

  pub preview-step-zero : (i : ℕ) (s : Step)
      → ((step_reply_of (step preview p k i s m).answer).number ≡ 0) ↔ Acceptance (step_says (step preview p k i s m).answer)
  preview-step-zero = step-zero preview p k m

  pub preview-step-tells : (i : ℕ) (s : Step) (n d : ℕ) → 1 ≤ n
      → (((step_reply_of (step preview p k i s m).answer).number ≡ n) × ((step_reply_of (step preview p k i s m).answer).detail ≡ d))
      ↔ Given (preview_step_rows p k i s m) n d
  preview-step-tells i s = tells-refusal (preview_step_rows p k i s m) _ (preview-step-follows p k i s m)
