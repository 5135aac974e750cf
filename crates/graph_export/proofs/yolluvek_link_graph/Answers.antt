-- The reply to the call's answer; the lists are the call's.
use Rattle.graph_export.proofs.Laws.{link-reply}
use Rattle.graph_export.proofs.yolluvek_link_graph.Goals as goal

pub returns : goal.returns
returns c = link-reply _ _ c.reply_of.ensures _ _ _ _ _ _ _ _ _ _ _ c.limits-within.ensures c.link_graph.ensures
