-- The three cases.
use Rattle.task.specs.Refusals.{outcome_says}
use Rattle.task.specs.declared.StepOutcome.{StepOutcome}
use Rattle.replies.specs.Replies.{said_of}
use Rattle.replies.proofs.Laws.{in-case}
use Rattle.replies.proofs.outcome_reply_of.Goals as goal

pub returns-in-Moved : goal.returns-in-Moved
returns-in-Moved c = in-case (λ (o : StepOutcome). said_of (outcome_says o)) _ _ _ c.in-Moved.is c.accepted.ensures

pub returns-in-Fetched : goal.returns-in-Fetched
returns-in-Fetched c = in-case (λ (o : StepOutcome). said_of (outcome_says o)) _ _ _ c.in-Fetched.is c.accepted-in-Fetched.ensures

pub returns-in-Released : goal.returns-in-Released
returns-in-Released c = in-case (λ (o : StepOutcome). said_of (outcome_says o)) _ _ _ c.in-Released.is c.release_reply_of.ensures
