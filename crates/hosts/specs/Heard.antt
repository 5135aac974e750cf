-- A reply of the exported calls, read as what was said: "the number and a detail", and number 0 is acceptance.
use Rattle.std.specs.Prelude.{ℕ, cond, eqb}
use Rattle.task.specs.Refusals.{Said, refused, accepted, task_fetched, degree_left, task_placed}
use Rattle.replies.specs.declared.Reply.{Reply}
use Rattle.replies.specs.declared.StepReply.{StepReply}

-- of begin, and of a lookup's judging call
unfoldable pub heard : Reply → Said
heard r = cond (eqb r.number 0) accepted (refused r.number r.detail)

-- of a step: kind 1 is "the task" of a Fetch, 2 "the degree left", 3 "the task with its new owner", 0 acceptance alone
unfoldable pub outcome_heard : ℕ → ℕ → ℕ → Said
outcome_heard kind first second =
    cond (eqb kind 0) accepted (cond (eqb kind 1) (task_fetched first) (cond (eqb kind 2) (degree_left first) (task_placed first second)))

unfoldable pub step_heard : StepReply → Said
step_heard r = cond (eqb r.number 0) (outcome_heard r.kind r.first r.second) (refused r.number r.detail)
