-- A reply of the exported weak steps, read as what was said: "the number and a detail", and number 0 is acceptance. Begin's and a lookup's are read as
-- those of a plain job.
use Rattle.std.specs.Prelude.{ℕ, cond, eqb}
use Rattle.task.specs.Refusals.{Said, refused, accepted}
use Rattle.weak_task.specs.Types.{copy}
use Rattle.weak_task.specs.Says.{copy_fetched, copy_placed}
use Rattle.weak_replies.specs.declared.WeakReply.{WeakReply}

-- kind 1 is "the copy" of a Fetch, 2 the copy made "with its owner", 0 acceptance alone
unfoldable pub outcome_heard : ℕ → ℕ → ℕ → ℕ → Said
outcome_heard kind first second third =
    cond (eqb kind 0) accepted (cond (eqb kind 1) (copy_fetched (copy first second)) (copy_placed (copy first second) third))

unfoldable pub step_heard : WeakReply → Said
step_heard r = cond (eqb r.number 0) (outcome_heard r.kind r.first r.second r.third) (refused r.number r.detail)
