-- What the exported calls answer: "the number and a detail", 0 and 0 where accepted; a step then answers its outcome.
use Rattle.task.specs.Refusals.{Said, answer_says, step_says, number_of, detail_of, kind_of, value_at, Answer, StepAnswer}
use Rattle.replies.specs.declared.Reply.{Reply}
use Rattle.replies.specs.declared.StepReply.{StepReply}

abbrev pub reply_of : Answer → Reply
reply_of a = record { number = number_of (answer_says a); detail = detail_of (answer_says a) }

-- of a step: kind 1 "the task" of a Fetch, 2 "the degree left", 3 "the task with its new owner", 0 all else
abbrev pub said_of : Said → StepReply
said_of s = record { number = number_of s; detail = detail_of s; kind = kind_of s; first = value_at 0 s; second = value_at 1 s }

abbrev pub step_reply_of : StepAnswer → StepReply
step_reply_of a = said_of (step_says a)
