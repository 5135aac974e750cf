use Rattle.counters.proofs.Laws.{raise-fits, raise-made}
use borrow.Author.Rules.{rules}
use Rattle.counters.proofs.raise.Goals as goal

pub overflow_add-counters : goal.overflow_add-counters
overflow_add-counters c = raise-fits c.args.counters.now c.args.q (search rules) _ c.requires.1.0 c.requires.1.1

pub returns : goal.returns
returns c = raise-made c.args.counters.now c.args.q (search rules) _ c.requires.1.0 c.requires.1.1
