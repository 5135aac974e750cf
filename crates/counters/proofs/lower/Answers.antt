use Rattle.counters.proofs.Laws.{lower-fits, lower-made}
use borrow.Author.Rules.{rules}
use Rattle.counters.proofs.lower.Goals as goal

pub overflow_sub-counters : goal.overflow_sub-counters
overflow_sub-counters c = lower-fits c.args.counters.now c.args.q (search rules) _ c.requires.1.0 c.requires.1.1

pub returns : goal.returns
returns c = lower-made c.args.counters.now c.args.q (search rules) _ c.requires.1.0 c.requires.1.1
