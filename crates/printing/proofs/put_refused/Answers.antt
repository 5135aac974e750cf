use Rattle.desk_rule.specs.Output.{refused_line}
use Rattle.text_put.proofs.Laws.{appends-then}
use Rattle.printing.proofs.put_refused.Goals as goal

pub returns : goal.returns
unfolding refused_line
returns c = appends-then c.put-at.ensures c.put_pair.ensures.0
