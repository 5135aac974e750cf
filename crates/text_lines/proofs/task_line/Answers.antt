-- The head, as many predecessors as it counts, and nothing behind them: the line spells the task; without one of these it spells none.
use Prim.Native.Nat.{ℕ, ◌+◌, ◌≤◌, ◌<◌}
use mathlib.Core.Path.{◌≡◌, refl}
use mathlib.Core.Bool.{Bool, false}
use mathlib.Core.Option.{none, some}
use mathlib.Core.List.{List, [], ◌++◌}
use native.Mathlib.Omega.{arith}
use lib.ListN.{length, set}
use Rattle.std.proofs.lemmas.Result.{err_from_is_err_and}
use Rattle.layout.specs.Marks.{Numbers}
use Rattle.layout.specs.Tasks.{Task}
use Rattle.layout.specs.Reader.{task_of}
use Rattle.layout.specs.Scan.{row_at, NextLine, Filling, Filled, too_few, Head}
use Rattle.layout.proofs.TaskLaws.{line-short, line-open, line-task, line-next}
use Rattle.text_lines.specs.declared.TaskError.TheVariants.{Broken}
use Rattle.text_lines.specs.TaskLines.{TaskWritten}
use Rattle.text_lines.proofs.task_line.Goals as goal

-- a line whose head is found
module _ {text : List ℕ} {at t : ℕ} {last : Bool} {time count p : ℕ} (h : Head text at t last time count p) where
  short : ((us : List ℕ) (row : Numbers) → length us ≡ count → ¬ (row_at text p ≡ some (us ++ row))) → task_of t last (row_at text at) ≡ none
  short n =
      let f : Filled text p count 0 false 0 [] [] = too_few refl n in
      line-short h f refl

  -- and whose predecessors and end are found
  module _ {e q : ℕ} {preds new : List ℕ} (f : Filling text p e preds q (e + count) new) (r : row_at text q ≡ some []) where
    over : 8192 < e + count → (x : Task) × (task_of t last (row_at text at) ≡ some x) × (8192 < e + length x.preds)
    over k = (_, line-task h f r, omega (arith, f.counted))

    read : (w s : List ℕ) {next : ℕ} → NextLine text q next → e + count ≤ 8192
        → (x : Task) × (task_of t last (row_at text at) ≡ some x)
        × TaskWritten text at t e x next (e + count) w s preds (set w t time) (set s (t + 1) (e + count)) new
    read w s n k = (
      _,
      line-task h f r,
      record {
        after = line-next h f n;
        counted = omega (arith, f.counted);
        limit = k;
        weights = refl;
        starts = refl;
        preds = f.taken k;
        room = f.room;
      },
    )

pub returns-in_err-place : goal.returns-in_err-place
returns-in_err-place c =
    let h = rw c.in_ok-head.ensures.ok_part at c.task_head.ensures in
    let f = rw c.in_err-place.ensures.ok_part at c.fill_numbers.ensures in
    let p = err_from_is_err_and c.from_residual-in_err-place.result c.from_residual-in_err-place.ensures.1 in
    let v = rw c.in_err-place.ensures.ok_part at c.in_err-place.ensures.value in
    let b : c.in_err-place.field-0.0 ≡ Broken = cc in
    rw (p.1, p.2, b) (short h f)

pub returns-in_err-next : goal.returns-in_err-next
returns-in_err-next c =
    let h = rw c.in_ok-head.ensures.ok_part at c.task_head.ensures in
    let f = rw c.in_ok-place.ensures.ok_part at c.fill_numbers.ensures in
    let n = rw c.in_err-next.ensures.ok_part at c.close.ensures in
    let p = err_from_is_err_and c.from_residual-in_err-next.result c.from_residual-in_err-next.ensures.1 in
    let v = rw c.in_err-next.ensures.ok_part at c.in_err-next.ensures.value in
    let b : c.in_err-next.field-0.0 ≡ Broken = cc in
    rw (p.1, p.2, b) (line-open h f n)

pub returns-then-e-count-gt8192 : goal.returns-then-e-count-gt8192
returns-then-e-count-gt8192 c =
    let h = rw c.in_ok-head.ensures.ok_part at c.task_head.ensures in
    let f = rw c.in_ok-place.ensures.ok_part at c.fill_numbers.ensures in
    let n = rw c.in_ok-next.ensures.ok_part at c.close.ensures in
    over h f n.0 c.if-e-count-gt8192.true

pub returns : goal.returns
returns c =
    let h = rw c.in_ok-head.ensures.ok_part at c.task_head.ensures in
    let f = rw c.in_ok-place.ensures.ok_part at c.fill_numbers.ensures in
    let n = rw c.in_ok-next.ensures.ok_part at c.close.ensures in
    read h f n.0 _ _ n.1 c.if-e-count-gt8192.false
