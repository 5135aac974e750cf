use native.Mathlib.Omega.{arith}
use Rattle.tables.proofs.Laws.{word-beyond, words-below}
use Rattle.tables.proofs.all_below.Goals as goal

pub returns-then-n-word : goal.returns-then-n-word
returns-then-n-word c = word-beyond _ _ c.loop-word.word-index (omega arith) (omega arith)

pub returns : goal.returns
returns c = words-below _ _ _ (omega arith) c.loop-word.invariant
