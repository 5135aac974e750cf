-- The byte at the place is the line's first, unless the line ends there.
use Rattle.layout.proofs.Places.{parted-end, parted-blank, parted-other}
use Rattle.scan.proofs.Found.{ends-at}
use Rattle.scan.proofs.parts.Goals as goal

pub returns-then-at-text : goal.returns-then-at-text
returns-then-at-text c = parted-end _ _ c.if-at-text.true

pub returns-then-b : goal.returns-then-b
returns-then-b c = parted-blank _ _ c.requires c.if-at-text.false c.if-b.true

pub returns : goal.returns
returns c = parted-other c.args.text.now c.args.at _ _ c.if-b.false (ends-at _ c.line_end.ensures c.is_some.ensures)
