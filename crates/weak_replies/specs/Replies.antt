-- What the exported weak steps answer: "the number and a detail", 0 and 0 where accepted; then the outcome.
use Rattle.std.specs.Prelude.{ℕ, Err, Ok}
use Rattle.task.specs.Refusals.{number_of, detail_of, value_at}
use Rattle.weak_task.specs.Says.{WeakAnswer, step_says}
use Rattle.weak_task.specs.declared.WeakOutcome.{WeakOutcome}
use Rattle.weak_task.specs.declared.WeakOutcome.TheVariants.{Moved, Fetched, Placed}
use Rattle.weak_replies.specs.declared.WeakReply.{WeakReply}

-- kind 1 "the copy" of a Fetch, 2 the copy made "with its owner", 0 all else
abbrev pub outcome_kind : WeakOutcome → ℕ
outcome_kind Moved = 0
outcome_kind (Fetched c) = 1
outcome_kind (Placed c o) = 2

abbrev pub kind_of : WeakAnswer → ℕ
kind_of (Err why) = 0
kind_of (Ok o) = outcome_kind o

abbrev pub weak_reply_of : WeakAnswer → WeakReply
weak_reply_of a =
    record {
      number = number_of (step_says a);
      detail = detail_of (step_says a);
      kind = kind_of a;
      first = value_at 0 (step_says a);
      second = value_at 1 (step_says a);
      third = value_at 2 (step_says a);
    }
