-- One law for each end and for each byte that is none.
use native.Mathlib.Omega.{arith}
use Rattle.layout.proofs.Places.{ends-out, ends-lf, ends-crlf, open-early, open-cr}
use Rattle.scan.proofs.Found.{end-here, no-end}
use Rattle.scan.proofs.line_end.Goals as goal

pub returns-then-left-eq0 : goal.returns-then-left-eq0
returns-then-left-eq0 c = end-here _ _ _ (ends-out _ _ c.requires (omega arith))

pub returns-then-b-eq10 : goal.returns-then-b-eq10
returns-then-b-eq10 c = end-here _ _ _ (ends-lf _ _ (omega arith) c.if-b-eq10.true)

pub returns-then-b-left : goal.returns-then-b-left
returns-then-b-left c = no-end c.args.text.now c.args.at 0 (open-early _ _ (omega arith) c.if-b-eq10.false c.if-b-left.true 0)

pub returns-then-text-at-ne10 : goal.returns-then-text-at-ne10
returns-then-text-at-ne10 c = no-end c.args.text.now c.args.at 0 (open-cr _ _ (omega arith) c.if-b-left.false c.if-b-eq10.false (λ e. omega arith) 0)

pub returns : goal.returns
returns c = end-here _ _ _ (ends-crlf _ _ (omega arith) c.if-b-left.false (omega arith))
