-- A weak step's reply is heard as what was said, where no refusal has the number 0.
use Prim.Native.Nat.{◌≤◌}
use mathlib.Core.Path.{◌≡◌, refl}
use native.Mathlib.Omega.{arith}
use borrow.Author.Tests.{ne_eqb}
use Rattle.std.specs.Prelude.{Err, Ok}
use Rattle.task.specs.Refusals.{refusal_number, refused, number_of}
use Rattle.task.specs.Rows.{Acceptance}
use Rattle.weak_task.specs.Says.{WeakAnswer, step_says}
use Rattle.weak_task.specs.declared.WeakOutcome.TheVariants.{Moved, Fetched, Placed}
use Rattle.weak_replies.specs.declared.WeakReply.{WeakReply}
use Rattle.weak_replies.specs.Replies.{weak_reply_of}
use Rattle.weak_hosts.specs.Heard.{outcome_heard, step_heard}

-- every number but 0 is a refusal
pub step-heard-refused : (r : WeakReply) → 1 ≤ r.number → step_heard r ≡ refused r.number r.detail
unfolding step_heard
step-heard-refused r h = rw (ne_eqb r.number 0 (λ e. omega (arith, h, e))) refl

pub step-heard-said : (a : WeakAnswer) → (number_of (step_says a) ≡ 0 → Acceptance (step_says a)) → step_heard (weak_reply_of a) ≡ step_says a
unfolding step_heard outcome_heard
step-heard-said (Err why) zero-accepts = rw (ne_eqb (refusal_number why) 0 zero-accepts) refl
step-heard-said (Ok Moved) zero-accepts = refl
step-heard-said (Ok (Fetched c)) zero-accepts = refl
step-heard-said (Ok (Placed c o)) zero-accepts = refl
