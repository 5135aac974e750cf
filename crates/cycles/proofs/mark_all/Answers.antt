use native.Mathlib.Decide.{ℕ_discrete}
use Rattle.lists.proofs.Occurrences.{at-occ}
use native.Mathlib.Omega.{arith}
use Rattle.cycles.proofs.Marks.{grown-none, grown-more}
use Rattle.cycles.proofs.mark_all.Goals as goal

pub loop-word-init : goal.loop-word-init
loop-word-init c = grown-none c.args.words.now c.requires.0

pub mark-tail-requires : goal.mark-tail-requires
mark-tail-requires c = let at = c.loop-word in (at.invariant.marked, c.requires.1 _ (at-occ ℕ_discrete 0 _ at.word-index (omega arith)))

pub loop-word-preserved : goal.loop-word-preserved
loop-word-preserved c = let at = c.loop-word in grown-more _ at.word-index (omega arith) at.invariant c.mark-tail.ensures
