-- What an answer of a weak step says tells the answer.
use mathlib.Core.Path.{◌≡◌, refl, sym, ap, ◌∙◌}
use mathlib.Core.Bool.{cond}
use lib.ListN.{get_or}
use lib.Dec.{eqb}
use Rattle.std.specs.Prelude.{Err, Ok}
use Rattle.task.specs.Refusals.{Said, refused, answered}
use Rattle.task.proofs.Said.{refusal_of, refusal-of}
use Rattle.weak_task.specs.Types.{copy, task_copy}
use Rattle.weak_task.specs.Says.{WeakAnswer, step_says}
use Rattle.weak_task.specs.declared.WeakOutcome.TheVariants.{Moved, Fetched, Placed}

-- the weak answer that says this; no weak step says anything else
abbrev answer_of : Said → WeakAnswer
answer_of (refused n d) = Err (refusal_of n d)
answer_of (answered k vs) =
    cond (eqb k 6) (Ok (Fetched (task_copy (copy (get_or vs 0 0) (get_or vs 1 0)))))
    (cond (eqb k 7) (Ok (Placed (task_copy (copy (get_or vs 0 0) (get_or vs 1 0))) (record { 0 = get_or vs 2 0 }))) (Ok Moved))

answer-of : (a : WeakAnswer) → answer_of (step_says a) ≡ a
answer-of (Err why) = ap Err (refusal-of why)
answer-of (Ok Moved) = refl
answer-of (Ok (Fetched c)) = refl
answer-of (Ok (Placed c o)) = refl

-- PROMISE: no two answers of weak steps say the same, so what a weak step says is as good as its answer
pub step-said : (a b : WeakAnswer) → step_says a ≡ step_says b → a ≡ b
step-said a b e = sym (answer-of a) ∙ ap answer_of e ∙ answer-of b
