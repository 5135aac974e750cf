use Rattle.weak_export.proofs.Laws.{step-replied}
use Rattle.weak_replies.specs.Replies.{weak_reply_of}
use Rattle.replies.proofs.Laws.{in-case}
use Rattle.weak_export.proofs.yolluvek_weak_start.Goals as goal

pub returns-in-Err : goal.returns-in-Err
returns-in-Err c =
    step-replied _ _ _ _ weak_reply_of _ _ _ _ _ _
    c.engine.ensures
    c.start-answer.ensures
    (in-case weak_reply_of _ _ _ c.in-Err.is c.refusal_reply_of.ensures)

pub returns : goal.returns
returns c =
    step-replied _ _ _ _ weak_reply_of _ _ _ _ _ _
    c.engine.ensures
    c.start-answer.ensures
    c.weak_reply_of.ensures
