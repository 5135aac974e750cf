-- PROMISE: a reply tells what was said: the number and the detail of a refusal are those of the published table, and the values of an
-- accepted step stand where `kind` says.
use Prim.Native.Nat.{ℕ, ◌≤◌}
use mathlib.Core.Path.{◌≡◌, refl, ap}
use mathlib.Core.Logic.{◌↔◌}
use mathlib.Core.List.{List}
use native.Mathlib.Omega.{arith}
use Rattle.std.specs.Prelude.{Err, Ok}
use Rattle.task.specs.declared.refusal.Refusal as why
use Rattle.task.specs.Refusals.{Said, refused, answered, number_of, detail_of, refusal_number, refusal_detail}
use Rattle.task.specs.Rows.{Refusal, Given, Follows}
use Rattle.task.specs.declared.StepOutcome.TheVariants.{Moved, Fetched, Released}
use Rattle.task.specs.declared.ReleaseOutcome.TheVariants.{DegreeLeft, Placed}
use Rattle.replies.specs.declared.Reply.{Reply}
use Rattle.replies.specs.declared.StepReply.{StepReply}
use Rattle.replies.specs.Replies.{reply_of, step_reply_of}

refused-said : (said : Said) (n d : ℕ) → 1 ≤ n → (number_of said ≡ n) × (detail_of said ≡ d) → said ≡ refused n d
refused-said (refused m e) n d h p = rw (p.0, p.1) refl
refused-said (answered k vs) n d h p = absurd (omega (arith, p.0, h))

-- of an answer that follows the rows
pub tells-refusal : (rows : List Refusal) (said : Said) → Follows rows said → (n d : ℕ) → 1 ≤ n
    → ((number_of said ≡ n) × (detail_of said ≡ d)) ↔ Given rows n d
tells-refusal rows said f n d h = (
  λ p. (f.refuses n d).0 (refused-said said n d h p),
  λ g. (ap number_of ((f.refuses n d).1 g), ap detail_of ((f.refuses n d).1 g)),
)

abbrev reply : ℕ → ℕ → Reply
reply n d = record { number = n; detail = d }

abbrev step_reply : ℕ → ℕ → ℕ → ℕ → ℕ → StepReply
step_reply n d k a b = record { number = n; detail = d; kind = k; first = a; second = b }

-- every case in figures
pub replies-hold : ((why : why.Refusal) → reply_of (Err why) ≡ reply (refusal_number why) (refusal_detail why)) × (reply_of (Ok tt) ≡ reply 0 0)
replies-hold = (λ why. refl, refl)

pub step-replies-hold : ((why : why.Refusal) → step_reply_of (Err why) ≡ step_reply (refusal_number why) (refusal_detail why) 0 0 0)
    × (step_reply_of (Ok Moved) ≡ step_reply 0 0 0 0 0)
    × ((t : ℕ) → step_reply_of (Ok (Fetched (record { 0 = t }))) ≡ step_reply 0 0 1 t 0)
    × ((d : ℕ) → step_reply_of (Ok (Released (DegreeLeft d))) ≡ step_reply 0 0 2 d 0)
    × ((t w : ℕ) → step_reply_of (Ok (Released (Placed (record { 0 = t }) (record { 0 = w })))) ≡ step_reply 0 0 3 t w)
step-replies-hold = (λ why. refl, refl, λ t. refl, λ d. refl, λ t w. refl)
