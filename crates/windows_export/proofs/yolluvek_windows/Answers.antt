-- The reply to the answer; the results are the call's.
use Rattle.windows_export.proofs.Laws.{windows-reply}
use Rattle.windows_export.proofs.yolluvek_windows.Goals as goal

pub returns : goal.returns
returns c = windows-reply _ _ _ _ c.reply_of.ensures c.windows.ensures
