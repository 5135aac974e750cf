use Rattle.engine_export.proofs.Laws.{step-replied}
use Rattle.replies.specs.Replies.{step_reply_of}
use Rattle.replies.proofs.Laws.{in-case}
use Rattle.engine_export.proofs.yolluvek_fetch.Goals as goal

pub returns-in-Err : goal.returns-in-Err
returns-in-Err c =
    step-replied _ _ _ _ step_reply_of _ _ _ _ _ _
    c.engine.ensures
    c.fetch-answer.ensures
    (in-case step_reply_of _ _ _ c.in-Err.is c.refusal_reply_of.ensures)

pub returns : goal.returns
returns c =
    step-replied _ _ _ _ step_reply_of _ _ _ _ _ _
    c.engine.ensures
    c.fetch-answer.ensures
    c.step_reply_of.ensures
