-- A reply is heard as what was said, where no refusal has the number 0.
use Prim.Native.Nat.{ℕ, ◌≤◌}
use mathlib.Core.Path.{◌≡◌, refl}
use native.Mathlib.Omega.{arith}
use borrow.Author.Tests.{ne_eqb}
use Rattle.std.specs.Prelude.{Err, Ok}
use Rattle.task.specs.Refusals.{Answer, StepAnswer, refusal_number, refused, accepted, answer_says, step_says, number_of}
use Rattle.task.specs.Rows.{Acceptance}
use Rattle.task.specs.declared.StepOutcome.TheVariants.{Moved, Fetched, Released}
use Rattle.task.specs.declared.ReleaseOutcome.TheVariants.{DegreeLeft, Placed}
use Rattle.replies.specs.declared.Reply.{Reply}
use Rattle.replies.specs.declared.StepReply.{StepReply}
use Rattle.replies.specs.Replies.{reply_of, step_reply_of}
use Rattle.hosts.specs.Heard.{heard, outcome_heard, step_heard}

-- number 0 is acceptance
pub heard-zero : (r : Reply) → ◌≡◌ {A = ℕ} r.number 0 → heard r ≡ accepted
unfolding heard
heard-zero r e = rw e refl

-- and every other a refusal
pub heard-refused : (r : Reply) → 1 ≤ r.number → heard r ≡ refused r.number r.detail
unfolding heard
heard-refused r h = rw (ne_eqb r.number 0 (λ e. omega (arith, h, e))) refl

pub step-heard-refused : (r : StepReply) → 1 ≤ r.number → step_heard r ≡ refused r.number r.detail
unfolding step_heard
step-heard-refused r h = rw (ne_eqb r.number 0 (λ e. omega (arith, h, e))) refl

pub heard-said : (a : Answer) → (number_of (answer_says a) ≡ 0 → Acceptance (answer_says a)) → heard (reply_of a) ≡ answer_says a
unfolding heard
heard-said (Err why) zero-accepts = rw (ne_eqb (refusal_number why) 0 zero-accepts) refl
heard-said (Ok u) zero-accepts = refl

pub step-heard-said : (a : StepAnswer) → (number_of (step_says a) ≡ 0 → Acceptance (step_says a)) → step_heard (step_reply_of a) ≡ step_says a
unfolding step_heard outcome_heard
step-heard-said (Err why) zero-accepts = rw (ne_eqb (refusal_number why) 0 zero-accepts) refl
step-heard-said (Ok Moved) zero-accepts = refl
step-heard-said (Ok (Fetched t)) zero-accepts = refl
step-heard-said (Ok (Released (DegreeLeft d))) zero-accepts = refl
step-heard-said (Ok (Released (Placed t w))) zero-accepts = refl
