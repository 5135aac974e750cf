-- PROMISE: a weak step's reply tells what was said: the values of an accepted step stand where `kind` says.
use Prim.Native.Nat.{ℕ}
use mathlib.Core.Path.{◌≡◌, refl}
use Rattle.std.specs.Prelude.{Err, Ok}
use Rattle.task.specs.Refusals.{refusal_number, refusal_detail}
use Rattle.task.specs.declared.refusal.Refusal.{Refusal}
use Rattle.weak_task.specs.Types.{copy, task_copy}
use Rattle.weak_task.specs.declared.WeakOutcome.TheVariants.{Moved, Fetched, Placed}
use Rattle.weak_replies.specs.declared.WeakReply.{WeakReply}
use Rattle.weak_replies.specs.Replies.{weak_reply_of}

abbrev reply : ℕ → ℕ → ℕ → ℕ → ℕ → ℕ → WeakReply
reply n d k a b c = record { number = n; detail = d; kind = k; first = a; second = b; third = c }

-- every case in figures
pub weak-replies-hold : ((why : Refusal) → weak_reply_of (Err why) ≡ reply (refusal_number why) (refusal_detail why) 0 0 0 0)
    × (weak_reply_of (Ok Moved) ≡ reply 0 0 0 0 0 0)
    × ((t u : ℕ) → weak_reply_of (Ok (Fetched (task_copy (copy t u)))) ≡ reply 0 0 1 t u 0)
    × ((t u w : ℕ) → weak_reply_of (Ok (Placed (task_copy (copy t u)) (record { 0 = w }))) ≡ reply 0 0 2 t u w)
weak-replies-hold = (λ why. refl, refl, λ t u. refl, λ t u w. refl)
