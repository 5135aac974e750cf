-- The two cases.
use Rattle.graph_export.proofs.Laws.{side-zero, side-other}
use Rattle.graph_export.proofs.side_of.Goals as goal

pub returns-then-number-eq0 : goal.returns-then-number-eq0
returns-then-number-eq0 c = side-zero _ c.if-number-eq0.true

pub returns-else-number-eq0 : goal.returns-else-number-eq0
returns-else-number-eq0 c = side-other _ c.if-number-eq0.false
