use Rattle.tables.proofs.Laws.{word_below, count_none, count_small, count_turn}
use lib.ListN.{length, get_or}
use Prim.Native.Nat.{◌<◌}
use native.Mathlib.Omega.{arith}
use Rattle.tables.proofs.count_words.Goals as goal
use Rattle.tables.proofs.count_words.Goals.{In-loop-word}

inside : (c : In-loop-word) → get_or c.args.words.now c.loop-word.word-index 0 < length c.args.counts.now
inside c = word_below c.args.words.now c.loop-word.word-index c.loop-word-test.true _ c.requires.0

pub loop-word-init : goal.loop-word-init
loop-word-init c = count_none _ _

pub bounds-counts-word : goal.bounds-counts-word
bounds-counts-word c = omega (arith, inside (goal.at.bounds-counts-word c).In-loop-word)

pub overflow_add-counts : goal.overflow_add-counts
overflow_add-counts c = let u = get_or c.args.words.now c.loop-word.word-index 0 in omega (arith, c.requires.1.1 u, count_small c.loop-word.invariant (omega arith) u)

pub bounds-counts-word-in-loop-word : goal.bounds-counts-word-in-loop-word
bounds-counts-word-in-loop-word c = omega (arith, inside (goal.at.bounds-counts-word-in-loop-word c).In-loop-word)

pub loop-word-preserved : goal.loop-word-preserved
loop-word-preserved c = count_turn c.loop-word.invariant (omega arith) (omega (arith, inside (goal.at.loop-word-preserved c).In-loop-word))
