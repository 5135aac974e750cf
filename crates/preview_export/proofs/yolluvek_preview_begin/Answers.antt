use Rattle.engine_export.proofs.Laws.{begin-replied}
use Rattle.replies.specs.Replies.{reply_of}
use Rattle.preview_export.proofs.yolluvek_preview_begin.Goals as goal

pub returns : goal.returns
returns c =
    begin-replied _ _ _ _ reply_of _ _ _ _
    c.preview.ensures
    c.begin-answer.ensures
    c.reply_of.ensures
