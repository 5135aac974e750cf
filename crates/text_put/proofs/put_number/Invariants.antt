-- The last digits are put, behind place `place`, and the digits of n are to come.
use mathlib.Core.Path.{◌≡◌}
use lib.ListN.{length}
use Rattle.text_put.proofs.Laws.{Partly}
use Rattle.text_put.proofs.put_number.Given as goal

abbrev pub invariant-loop-n : goal.invariant-loop-n
invariant-loop-n l = (length l.out ≡ length l.initial.out) × Partly l.at l.number l.initial.out l.n l.place l.out

abbrev pub decreases-loop-n : goal.decreases-loop-n
decreases-loop-n l = l.n
