-- The byte at the place is the line's first, unless the line ends there.
use Rattle.layout.specs.Reader.{skippable}
use Rattle.layout.proofs.Places.{open-inside, open-test}
use Rattle.scan.proofs.Found.{ends-at}
use Rattle.scan.proofs.skippable.Goals as goal

pub bounds-text-at : goal.bounds-text-at
bounds-text-at c = open-inside c.args.text.now c.args.at _ _ (ends-at _ c.line_end.ensures c.is_some.ensures) c.if-is_some.false

pub returns-else-is_some : goal.returns-else-is_some
returns-else-is_some c = open-test c.args.text.now c.args.at _ _ skippable (ends-at _ c.line_end.ensures c.is_some.ensures) c.if-is_some.false
