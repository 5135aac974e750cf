-- Three numbers, each the next one of the line; a wrong one, or none, leaves no task that the line could spell.
use Prim.Native.Nat.{ℕ, ◌≤◌, ◌<◌}
use mathlib.Core.Path.{◌≡◌, refl}
use mathlib.Core.Bool.{Bool, true, false, not, ◌&&◌, ◌||◌}
use mathlib.Core.List.{List, [], ◌∷◌}
use mathlib.Core.Option.{none}
use native.Mathlib.Omega.{arith}
use borrow.Author.Tests.{le-ltb}
use lib.Dec.{eqb, ltb}
use Rattle.layout.specs.Reader.{task_of}
use Rattle.layout.specs.Scan.{row_at, NoField, NumbersAt, Found, found, missing}
use Rattle.layout.proofs.TaskLaws.{wrong, head-not, number-wrong, time-wrong, time-right, count-wrong}
use Rattle.text_lines.proofs.task_head.Goals as goal

-- the tests of the laws, of a value that is no larger than a number may be
wrong-more : (v : ℕ) (z : Bool) → (not (eqb v 0) && z) ≡ true → wrong v z ≡ true
wrong-more v z e = go (ltb 65535 v)
  where
    go : (o : Bool) → (o || (not (eqb v 0) && z)) ≡ true
    go true = refl
    go false = e

right-more : (v : ℕ) (z : Bool) → v ≤ 65535 → (not (eqb v 0) && z) ≡ false → wrong v z ≡ false
right-more v z h e = rw (le-ltb 65535 v h) e

module _ (text : List ℕ) (at t : ℕ) (last : Bool) where
  no-number : NoField (row_at text at) → t < 1024 → task_of t last (row_at text at) ≡ none
  no-number n h =
      let f : Found text at 65536 0 = missing (omega arith) n in
      head-not (number-wrong {last = last} {time = 0} {count = 0} {next = 0} f (λ e. omega arith)) refl

  other-number : {v q : ℕ} → Found text at v q → ¬ (v ≡ t) → task_of t last (row_at text at) ≡ none
  other-number f n = head-not (number-wrong {last = last} {time = 0} {count = 0} {next = 0} f n) refl

  no-time : (p : ℕ) → NumbersAt text at (t ∷ []) p → NoField (row_at text p) → task_of t last (row_at text at) ≡ none
  no-time p m n =
      let f : Found text p 65536 0 = missing (omega arith) n in
      head-not (time-wrong {last = last} {time = 0} {count = 0} {next = 0} m f refl) refl

  other-time : {p v q : ℕ} → NumbersAt text at (t ∷ []) p → Found text p v q → (not (eqb v 0) && (eqb t 0 || last)) ≡ true
      → task_of t last (row_at text at) ≡ none
  other-time {v = v} m f e = head-not (time-wrong {last = last} {time = 0} {count = 0} {next = 0} m f (wrong-more v (eqb t 0 || last) e)) refl

  time-here : {p v q : ℕ} → NumbersAt text at (t ∷ []) p → (v ≤ 65535) × NumbersAt text p (v ∷ []) q → (not (eqb v 0) && (eqb t 0 || last)) ≡ false
      → NumbersAt text at (t ∷ v ∷ []) q
  time-here {v = v} m (h, n) e = time-right last m (found h n) (right-more v (eqb t 0 || last) h e)

  no-count : (p : ℕ) {u : ℕ} → NumbersAt text at (t ∷ u ∷ []) p → NoField (row_at text p) → task_of t last (row_at text at) ≡ none
  no-count p m n =
      let f : Found text p 65536 0 = missing (omega arith) n in
      head-not (count-wrong {last = last} {time = 0} {count = 0} {next = 0} m f refl) refl

  other-count : {p u v q : ℕ} → NumbersAt text at (t ∷ u ∷ []) p → Found text p v q → (not (eqb v 0) && eqb t 0) ≡ true
      → task_of t last (row_at text at) ≡ none
  other-count {v = v} m f e = head-not (count-wrong {last = last} {time = 0} {count = 0} {next = 0} m f (wrong-more v (eqb t 0) e)) refl

pub returns-in_err-number : goal.returns-in_err-number
returns-in_err-number c = rw c.from_residual.ensures (no-number c.args.text.now c.args.at _ _ c.in_err-number.ensures (omega arith))

pub returns-then-number-t : goal.returns-then-number-t
returns-then-number-t c = other-number _ _ _ _ (found c.in_ok-number.ensures.0 c.in_ok-number.ensures.1) c.if-number-t.true

pub returns-in_err-time : goal.returns-in_err-time
returns-in_err-time c =
    rw c.from_residual-in_err-time.ensures (no-time _ _ _ _ _ (rw c.if-number-t.false at c.in_ok-number.ensures.1) c.in_err-time.ensures)

pub returns-then-time-t : goal.returns-then-time-t
returns-then-time-t c =
    other-time _ _ _ _ (rw c.if-number-t.false at c.in_ok-number.ensures.1) (found c.in_ok-time.ensures.0 c.in_ok-time.ensures.1) c.if-time-t.true

pub returns-in_err-count : goal.returns-in_err-count
returns-in_err-count c =
    rw c.from_residual-in_err-count.ensures
    (no-count _ _ _ _ _
    (time-here _ _ _ _ (rw c.if-number-t.false at c.in_ok-number.ensures.1) c.in_ok-time.ensures c.if-time-t.false) c.in_err-count.ensures)

pub returns-then-count-t : goal.returns-then-count-t
returns-then-count-t c =
    other-count _ _ _ _
    (time-here _ _ _ _ (rw c.if-number-t.false at c.in_ok-number.ensures.1) c.in_ok-time.ensures c.if-time-t.false)
    (found c.in_ok-count.ensures.0 c.in_ok-count.ensures.1) c.if-count-t.true
