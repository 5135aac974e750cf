-- The reply to the check's answer.
use Rattle.graph_export.proofs.Laws.{check-reply}
use Rattle.graph_export.proofs.yolluvek_check_graph.Goals as goal

pub returns : goal.returns
returns c = check-reply _ _ c.reply_of.ensures _ _ _ _ _ c.limits-limits.ensures c.check.ensures
