-- The reply to the judging call's answer.
use Rattle.graph_export.proofs.Laws.{judge-reply}
use Rattle.graph_export.proofs.yolluvek_judge_lookup.Goals as goal

pub returns : goal.returns
returns c = judge-reply _ _ c.reply_of.ensures _ _ _ _ _ c.side_of-on.ensures c.new-named.ensures c.judge.ensures
