-- Only where the look at all of them says so is no part bad; else they are searched.
use Rattle.tables.proofs.Laws.{flat_good}
use Rattle.tables.proofs.first_bad.Goals as goal

pub returns-then-below-rise : goal.returns-then-below-rise
returns-then-below-rise c =
    flat_good _ _ _ _ _ c.as_word.ensures c.as_word-2.ensures _ _ c.if-below-rise.true c.flat_below-below.ensures c.ranges_rise-rise.ensures
