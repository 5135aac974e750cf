use Rattle.tables.proofs.Laws.{word_below, count_none, count_turn, count-whole, met-none, met-low, met-twin, met-turn, met-whole}
use lib.ListN.{get_or}
use Prim.Native.Nat.{◌<◌}
use native.Mathlib.Omega.{arith}
use Rattle.lists.proofs.Apart.{unequal}
use Rattle.tables.proofs.has_twice.Goals as goal
use Rattle.tables.proofs.has_twice.Goals.{In-loop-word}

-- a word is a place of the marks
inside : (c : In-loop-word) → get_or c.args.words.now c.loop-word.word-index 0 < 1024
inside c = word_below c.args.words.now c.loop-word.word-index c.loop-word-test.true _ c.requires.1.0

pub loop-word-init : goal.loop-word-init
loop-word-init c = (met-none _ _ _ c.requires.1.1.0, count_none _ _)

pub bounds-marks-u : goal.bounds-marks-u
bounds-marks-u c = omega (arith, inside (goal.at.bounds-marks-u c).In-loop-word)

pub returns-then-marks-u : goal.returns-then-marks-u
returns-then-marks-u c = let i = c.loop-word.invariant in (met-twin i.0 (omega arith) c.if-marks-u.true, (met-low i.0, λ e. unequal cc))

pub bounds-marks-u-in-loop-word : goal.bounds-marks-u-in-loop-word
bounds-marks-u-in-loop-word c = omega (arith, inside (goal.at.bounds-marks-u-in-loop-word c).In-loop-word)

pub bounds-counts-u : goal.bounds-counts-u
bounds-counts-u c = omega (arith, inside (goal.at.bounds-counts-u c).In-loop-word)

pub bounds-counts-u-in-loop-word : goal.bounds-counts-u-in-loop-word
bounds-counts-u-in-loop-word c = omega (arith, inside (goal.at.bounds-counts-u-in-loop-word c).In-loop-word)

pub loop-word-preserved : goal.loop-word-preserved
loop-word-preserved c =
    let i = c.loop-word.invariant in
    let h = inside (goal.at.loop-word-preserved c).In-loop-word in
    (met-turn i.0 (omega arith) (omega (arith, h)) c.if-marks-u.false, count_turn i.1 (omega arith) (omega (arith, h)))

pub returns : goal.returns
returns c = let i = c.loop-word.invariant in (met-whole i.0 (omega arith), (met-low i.0, λ e. count-whole i.1 (omega arith)))
