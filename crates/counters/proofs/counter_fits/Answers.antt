use Rattle.counters.proofs.Laws.{test_read}
use Rattle.rules.specs.Words.{counter_fits}
use lib.ListN.{get_or}
use lib.IntN.{pos}
use borrow.Author.Rules.{rules}
use Rattle.counters.proofs.counter_fits.Goals as goal

pub returns : goal.returns
returns c = test_read (get_or c.args.counters.now c.args.q (pos 0)) (search rules) counter_fits _ c.in_range.ensures
