use native.Mathlib.Omega.{arith}
use Rattle.printing.proofs.Laws.{next-entry, all-entries}
use Rattle.printing.proofs.put_entries.Goals as goal

pub loop-x-preserved : goal.loop-x-preserved
loop-x-preserved c =
    let l = c.loop-x in
    let e = c.entry_at-entry.ensures in
    let p = c.put_pair-end.ensures in
    (omega arith, next-entry _ _ _ _ _ _ _ l.invariant.1 _ _ _ _ (omega arith) e.0 e.1 p.0)

pub returns : goal.returns
returns c = all-entries _ _ _ _ _ _ _ c.loop-x.invariant.1 (omega arith)
