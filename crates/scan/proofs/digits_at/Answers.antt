use Prim.Native.Nat.{ℕ, ◌≤◌}
use mathlib.Core.Path.{◌≡◌}
use mathlib.Core.Bool.{Bool, true, false, ◌||◌}
use lib.Dec.{ltb}
use native.Mathlib.Omega.{arith}
use borrow.Author.Tests.{ltb-false}
use lib.ListN.{get_or}
use Rattle.layout.specs.Marks.{Digit}
use Rattle.layout.specs.Scan.{line_at}
use Rattle.layout.proofs.Numbers.{digit-byte, ran-small, ran-more, Stopped, stopped-byte, stopped-end, ran-missing, ran-joined, ran-found}
use Rattle.scan.proofs.Found.{number-here, no-number}
use Rattle.scan.proofs.digits_at.Goals as goal
use Rattle.scan.proofs.digits_at.Goals.{Else-d, Left-loop-p, else-loop-p-test, then-loop-p-test+then-d}

not-large : (a : Bool) (v : ℕ) → (a || ltb 65535 v) ≡ false → v ≤ 65535
not-large true v e = cc
not-large false v e = ltb-false 65535 v e

-- in the loop, after a digit
small : (c : Else-d) → c.loop-p.v ≤ 99999999
small c = ran-small _ _ _ _ c.loop-p.invariant.0 (omega arith)

byte : (c : Else-d) → Digit (get_or c.args.text.now c.loop-p.p 0)
byte c = digit-byte _ c.if-d.false

-- after the loop
stopped : (c : Left-loop-p) → Stopped c.loop-p.invariant.0.ds (line_at c.args.text.now c.loop-p.p)
stopped c = elim c.loop-p-test.branch [
  | else-loop-p-test w ↦ stopped-end _ _ _ _ c.loop-p.invariant.0 (omega arith)
  | then-loop-p-test+then-d w ↦ stopped-byte _ _ _ _ c.loop-p.invariant.0 (omega arith) w.if-d.true
]

pub overflow_mul-v : goal.overflow_mul-v
overflow_mul-v c = omega (arith, small (goal.at.overflow_mul-v c).Else-d)

pub overflow_add-v : goal.overflow_add-v
overflow_add-v c = omega (arith, small (goal.at.overflow_add-v c).Else-d, byte (goal.at.overflow_add-v c).Else-d)

pub loop-p-preserved : goal.loop-p-preserved
loop-p-preserved c = (ran-more _ _ _ _ c.loop-p.invariant.0 (omega arith) (byte (goal.at.loop-p-preserved c).Else-d), omega arith)

pub returns-then-p-at : goal.returns-then-p-at
returns-then-p-at c =
    no-number
    (ran-missing _ _ _ _ c.loop-p.invariant.0 _ (omega arith) c.requires.1
    (stopped (goal.at.returns-then-p-at c).Left-loop-p) c.if-p-at.true 0)

pub returns-then-not-parts : goal.returns-then-not-parts
returns-then-not-parts c =
    no-number
    (ran-joined _ _ _ _ c.loop-p.invariant.0 (stopped (goal.at.returns-then-not-parts c).Left-loop-p) _
    c.parts.ensures c.if-not-parts.true-raw 0)

pub returns : goal.returns
returns c =
    number-here
    (ran-found _ _ _ _ c.loop-p.invariant.0 _ (omega arith) c.if-p-at.false (omega arith) _
    c.parts.ensures c.if-not-parts.false-raw)
    (not-large _ _ c.if-p-at.false)
