-- How long the saved text is: line by line, and at most.
use Prim.Native.Nat.{ℕ, zero, suc, ◌+◌, ◌-◌, ◌*◌, ◌^◌, ◌≤◌, ◌<◌}
use mathlib.Core.Path.{◌≡◌, refl, sym, ap, ◌∙◌}
use mathlib.Core.List.{List, [], ◌∷◌, ◌++◌}
use native.Mathlib.Omega.{arith}
use native.Mathlib.Nat.{suc-mul}
use native.Mathlib.Numerals.{add-one}
use native.Mathlib.Decide.{ℕ_discrete}
use lib.ListN.{length, get_or, drop, length-append, take-append-drop}
use lib.Seq.{drop-drop, drop-length}
use Rattle.lists.specs.Sums.{sum_to, sum_of}
use Rattle.lists.proofs.Occurrences.{occ-hit, occ-cons}
use Rattle.lists.proofs.Sums.{sum-suc, sum-most, sum_of-nil, sum_of-append}
use Rattle.graph.specs.Graph.{Among, part, graph_of}
use Rattle.graph.specs.Conditions.{Light, Good, Sound}
use Rattle.graph.proofs.Parts.{length_part, preds-small}
use Rattle.layout.specs.Marks.{lf, Numbers}
use Rattle.layout.specs.Digits.{digits_of}
use Rattle.layout.specs.Tasks.{task, tables}
use Rattle.layout.specs.Layout.{task_row, task_rows}
use Rattle.layout.specs.Plain.{spaced, line_text, rows_text, tasks_at, text_of, line_size, pred_size}
use Rattle.layout.specs.Writer.{most_written}
use Rattle.layout.proofs.Digits.{digits-few}

-- Lines.

spaced-size : (row : Numbers) → length (spaced row) ≡ sum_of pred_size row
unfolding spaced sum_of pred_size
spaced-size [] = refl
spaced-size (v ∷ row) = omega (arith, length-append (digits_of v) (spaced row), spaced-size row)

line-size : (v : ℕ) (row : Numbers) → length (line_text (v ∷ row)) ≡ length (digits_of v) + (sum_of pred_size row + 1)
unfolding line_text
line-size v row =
    omega (arith, length-append (digits_of v) (spaced row ++ (lf ∷ [])), length-append (spaced row) (lf ∷ []), spaced-size row)

module _ (w s p : List ℕ) where
  task-size : {n t : ℕ} → Good n s p t
      → length (line_text (task_row t (task (get_or w t 0) (part s p t)))) ≡ line_size w s t + sum_of pred_size (part s p t)
  unfolding sum_of pred_size line_size
  task-size {n} {t} g =
      omega (
        arith,
        line-size t (get_or w t 0 ∷ length (part s p t) ∷ part s p t),
        ap (λ (k : ℕ). length (digits_of k)) (length_part g),
      )

  -- a task's predecessors stand before those of the later tasks
  part-first : {n t : ℕ} → Good n s p t → drop (get_or s t 0) p ≡ part s p t ++ drop (get_or s (suc t) 0) p
  unfolding part
  part-first {n} {t} g =
      let e : get_or s t 0 + (get_or s (t + 1) 0 - get_or s t 0) ≡ get_or s (suc t) 0 = omega (arith, g.rises, ap (λ (k : ℕ). get_or s k 0) (add-one t)) in
      sym (take-append-drop (get_or s (t + 1) 0 - get_or s t 0) (drop (get_or s t 0) p))
      ∙ ap (λ (l : List ℕ). part s p t ++ l) (drop-drop (get_or s (t + 1) 0 - get_or s t 0) (get_or s t 0) p ∙ ap (λ (k : ℕ). drop k p) e)

  module _ (sound : Sound (graph_of (length w) s p)) where
    -- the lines of the tasks from t on
    lines-size : (left t : ℕ) → t + left ≡ length w
        → sum_to t (line_size w s) + length (rows_text (task_rows t (tasks_at (tables w s p) left t)))
        ≡ sum_to (length w) (line_size w s) + sum_of pred_size (drop (get_or s t 0) p)
    unfolding rows_text tasks_at
    lines-size zero t h =
        let e : t ≡ length w = omega (arith, h) in
        rw (e, sound.ends.last, drop-length p, sum_of-nil pred_size)
    lines-size (suc left) t h =
        let g : Good (length w) s p t = sound.good t (omega (arith, h)) in
        omega (
          arith,
          length-append (line_text (task_row t (task (get_or w t 0) (part s p t)))) (rows_text (task_rows (suc t) (tasks_at (tables w s p) left (suc t)))),
          task-size g,
          sum-suc t (line_size w s),
          lines-size left (suc t) (omega (arith, h)),
          ap (sum_of pred_size) (part-first g),
          sum_of-append pred_size (part s p t) (drop (get_or s (suc t) 0) p),
        )

-- PROMISE: the text has the first line's bytes, those of the tasks' lines, and those of the predecessors
pub text-size : (w s p : List ℕ) → Sound (graph_of (length w) s p)
    → length (text_of (tables w s p)) ≡ length (digits_of (length w - 2)) + 1 + sum_to (length w) (line_size w s) + sum_of pred_size p
unfolding text_of rows_text sum_to
text-size w s p sound =
    omega (
      arith,
      length-append (line_text ((length w - 2) ∷ [])) (rows_text (task_rows 0 (tasks_at (tables w s p) (length w) 0))),
      line-size (length w - 2) [],
      sum_of-nil pred_size,
      lines-size w s p sound (length w) 0 (omega arith),
      ap (λ (k : ℕ). sum_of pred_size (drop k p)) sound.ends.first,
    )

-- numbers of at most c each
sum_of-most : (f : ℕ → ℕ) (c : ℕ) (l : List ℕ) → ((u : ℕ) → Among u l → f u ≤ c) → sum_of f l ≤ length l * c
unfolding sum_of
sum_of-most f c [] h = omega arith
sum_of-most f c (x ∷ l) h =
    omega (
      arith,
      h x (omega (arith, occ-hit ℕ_discrete x x l refl)),
      sum_of-most f c l (λ u m. h u (omega (arith, m, occ-cons ℕ_discrete u x l))),
      suc-mul (length l) c,
    )

module _ (w s p : List ℕ) (sound : Sound (graph_of (length w) s p)) where
  -- times of at most k digits and one, numbers and counts of at most four
  pub lines-most : (k : ℕ) → ((t : ℕ) → t < length w → get_or w t 0 < 10 ^ suc k) → sum_to (length w) (line_size w s) ≤ length w * (12 + k)
  unfolding line_size
  lines-most k times = sum-most (length w) (line_size w s) (12 + k) line
    where
      line : (t : ℕ) → t < length w → line_size w s t ≤ 12 + k
      line t h =
          omega (
            arith,
            digits-few 3 t (omega (arith, h, sound.sized.tasks)),
            digits-few k (get_or w t 0) (times t h),
            digits-few 3 (get_or s (t + 1) 0 - get_or s t 0) (omega (arith, (sound.good t h).inside, sound.sized.edges)),
          )

  pub preds-most : sum_of pred_size p ≤ length p * 5
  unfolding pred_size
  preds-most = sum_of-most pred_size 5 p (λ u m. omega (arith, digits-few 3 u (omega (arith, preds-small sound u m))))

-- PROMISE: 5 bytes of the first line, 1,024 lines of 16 and 8,192 predecessors of 5 at most
pub text-short : (w s p : List ℕ) → Sound (graph_of (length w) s p) → Light w → length (text_of (tables w s p)) ≤ most_written
text-short w s p sound light =
    omega (
      arith,
      text-size w s p sound,
      digits-few 3 (length w - 2) (omega (arith, sound.sized.tasks)),
      lines-most w s p sound 4 (λ t h. omega (arith, light t h)),
      preds-most w s p sound,
      sound.sized.tasks,
      sound.sized.edges,
    )
