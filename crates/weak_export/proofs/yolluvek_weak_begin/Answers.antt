use Rattle.weak_export.proofs.Laws.{begin-replied}
use Rattle.replies.specs.Replies.{reply_of}
use Rattle.weak_export.proofs.yolluvek_weak_begin.Goals as goal

pub returns : goal.returns
returns c =
    begin-replied _ _ _ _ reply_of _ _ _ _
    c.engine.ensures
    c.begin-answer.ensures
    c.reply_of.ensures
