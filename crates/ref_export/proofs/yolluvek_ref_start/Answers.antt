use Rattle.engine_export.proofs.Laws.{step-replied}
use Rattle.replies.specs.Replies.{step_reply_of}
use Rattle.ref_export.proofs.yolluvek_ref_start.Goals as goal

pub returns : goal.returns
returns c =
    step-replied _ _ _ _ step_reply_of _ _ _ _ _ _
    c.engine.ensures
    c.start-answer.ensures
    c.step_reply_of.ensures
