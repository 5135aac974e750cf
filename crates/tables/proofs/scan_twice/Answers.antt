use Rattle.tables.proofs.Laws.{part_small, part-short, twice_found, once-found, twice-none, tallied-none, tallied-more, tallied-all}
use borrow.Author.Count.{below_more}
use native.Mathlib.Omega.{arith}
use Rattle.tables.proofs.scan_twice.Goals as goal

pub loop-t-init : goal.loop-t-init
loop-t-init c = let p = c.requires.1 in (λ u. omega (arith, p.0 u), (λ k h. absurd (omega arith), tallied-none _ _ p.1))

pub has_twice-requires : goal.has_twice-requires
has_twice-requires c =
    let s = c.args.table.sound in
    let l = c.loop-t in rw c.part.ensures (
      (omega arith, omega arith),
      (
        part_small s l.t (omega arith),
        (
          λ u. omega (arith, l.invariant.0 u),
          (part-short c.args.table.starts.now c.args.table.words.now l.t 8192 s.sized.edges, λ u. omega (arith, l.invariant.1.1.few u, s.sized.tasks)),
        ),
      ),
    )

pub returns-then-has_twice : goal.returns-then-has_twice
returns-then-has_twice c = (twice_found c.args.table.sound c.loop-t.t _ (omega arith) c.if-has_twice.true (rw c.part.ensures at c.has_twice.ensures.0) c.loop-t.invariant.1.0, λ h. absurd (omega arith))

pub loop-t-preserved : goal.loop-t-preserved
loop-t-preserved c =
    let l = c.loop-t in
    let h = rw c.part.ensures at c.has_twice.ensures in
    let once = once-found c.args.table.sound l.t _ c.if-has_twice.false h.0 in
    (h.1.0, (below_more _ _ l.invariant.1.0 once, tallied-more _ l.invariant.1.1 once (h.1.1 c.if-has_twice.false)))

pub returns : goal.returns
returns c = let l = c.loop-t in (twice-none c.args.table.sound l.t (omega arith) l.invariant.1.0, λ h. tallied-all c.args.table.sound (omega arith) l.invariant.1.1)
