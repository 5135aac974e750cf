-- The reply to the reader's answer; the lists are the reader's.
use Rattle.stg_export.proofs.Laws.{read-reply}
use Rattle.stg_export.proofs.yolluvek_read_text.Goals as goal

pub returns : goal.returns
returns c = read-reply _ _ _ _ _ _ c.reply_of.ensures c.read.ensures
