-- The reply to the writer's answer; the buffer is the writer's.
use Rattle.stg_export.proofs.Laws.{write-reply}
use Rattle.stg_export.proofs.yolluvek_write_text.Goals as goal

pub returns : goal.returns
returns c = write-reply _ _ _ _ c.write_reply_of.ensures c.write.ensures
