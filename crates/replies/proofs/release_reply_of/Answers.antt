-- The two cases.
use Rattle.task.specs.Refusals.{release_says}
use Rattle.task.specs.declared.ReleaseOutcome.{ReleaseOutcome}
use Rattle.replies.specs.Replies.{said_of}
use Rattle.replies.proofs.Laws.{in-case}
use Rattle.replies.proofs.release_reply_of.Goals as goal

pub returns-in-DegreeLeft : goal.returns-in-DegreeLeft
returns-in-DegreeLeft c = in-case (λ (o : ReleaseOutcome). said_of (release_says o)) _ _ _ c.in-DegreeLeft.is c.accepted.ensures

pub returns-in-Placed : goal.returns-in-Placed
returns-in-Placed c = in-case (λ (o : ReleaseOutcome). said_of (release_says o)) _ _ _ c.in-Placed.is c.accepted-in-Placed.ensures
