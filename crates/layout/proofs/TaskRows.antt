-- The rows of tasks: which row gives a task where one is due, and what the rows of a graph's first tasks tell.
use Prim.Native.Nat.{ℕ, zero, suc, ◌+◌, ◌<◌}
use mathlib.Core.Path.{◌≡◌, refl, ap, ◌∙◌}
use mathlib.Core.Bool.{Bool, true, not, ◌||◌}
use mathlib.Core.Logic.{◌⊎◌, inl, inr}
use mathlib.Core.Option.{Option, some}
use mathlib.Core.List.{List, [], ◌∷◌, ◌++◌}
use native.Mathlib.Omega.{arith}
use lib.ListN.{length, get_or, take, length-append}
use lib.Dec.{eqb}
use borrow.Author.Tests.{eqb-true, eq-eqb}
use Rattle.lists.specs.Sums.{sum_of}
use Rattle.lists.proofs.Sums.{sum_of-append}
use Rattle.lists.proofs.Told.{and-true, or_left, or_right, or-true, or-not, not-or}
use Rattle.layout.specs.Marks.{Numbers}
use Rattle.layout.specs.Tasks.{Task, empty_task, preds_of, edges_of}
use Rattle.layout.specs.Layout.{task_row, task_rows}
use Rattle.layout.specs.Reader.{dummy_fits, task_of}
use Rattle.layout.specs.Tables.{Beyond}
use Rattle.layout.proofs.Clauses.{task-some, task-is}

-- what `dummy_fits` tests
pub record Dummies (t : ℕ) (last : Bool) (time count : ℕ) : Type 0 where
  pub at_first : t ≡ 0 → time ≡ 0
  pub at_last : last ≡ true → time ≡ 0
  pub at-root : t ≡ 0 → count ≡ 0

module _ (t : ℕ) (last : Bool) (time count : ℕ) where
  dummy-true : dummy_fits t last time count ≡ true → Dummies t last time count
  dummy-true h = record {
    at_first = λ e. eqb-true time 0 (or-not (eqb time 0) (eqb t 0 || last) both.0 (or_left (eqb t 0) last (eq-eqb t 0 e)));
    at_last = λ e. eqb-true time 0 (or-not (eqb time 0) (eqb t 0 || last) both.0 (or_right (eqb t 0) last e));
    at-root = λ e. eqb-true count 0 (or-not (eqb count 0) (eqb t 0) both.1 (eq-eqb t 0 e));
  }
    where
      both : ((eqb time 0 || not (eqb t 0 || last)) ≡ true) × ((eqb count 0 || not (eqb t 0)) ≡ true)
      both = and-true (eqb time 0 || not (eqb t 0 || last)) (eqb count 0 || not (eqb t 0)) h

  true-dummy : Dummies t last time count → dummy_fits t last time count ≡ true
  true-dummy d =
      rw (
        not-or (eqb time 0) (eqb t 0 || last) (λ e. eq-eqb time 0 (go (or-true (eqb t 0) last e))),
        not-or (eqb count 0) (eqb t 0) (λ e. eq-eqb count 0 (d.at-root (eqb-true t 0 e))),
      ) refl
    where
      go : (eqb t 0 ≡ true) ⊎ (last ≡ true) → time ≡ 0
      go (inl e) = d.at_first (eqb-true t 0 e)
      go (inr e) = d.at_last e

-- The row of a task.

pub record Given (t : ℕ) (last : Bool) (row : Numbers) (x : Task) : Type 0 where
  pub written : row ≡ task_row t x
  pub dummies : Dummies t last x.time (length x.preds)

module _ (t : ℕ) (last : Bool) where
  pub task-row : (o : Option Numbers) (x : Task) → task_of t last o ≡ some x → (row : Numbers) × (o ≡ some row) × Given t last row x
  task-row o x e =
      let (written, fits) = task-is t last o x e in
      (task_row t x, written, record { written = refl; dummies = dummy-true t last x.time (length x.preds) fits })

  pub given-task : (row : Numbers) (x : Task) → Given t last row x → task_of t last (some row) ≡ some x
  given-task row x g = rw g.written (task-some t last x (true-dummy t last x.time (length x.preds) g.dummies))

-- Rows of tasks.

rows-from : (t : ℕ) (xs ys : List Task) → task_rows t (xs ++ ys) ≡ task_rows t xs ++ task_rows (t + length xs) ys
rows-from t [] ys = ap (λ (k : ℕ). task_rows k ys) (omega arith)
rows-from t (x ∷ xs) ys =
    ap (λ (r : List Numbers). task_row t x ∷ r) (rows-from (suc t) xs ys ∙ ap (λ (k : ℕ). task_rows (suc t) xs ++ task_rows k ys) (omega arith))

pub rows_append : (xs ys : List Task) → task_rows 0 (xs ++ ys) ≡ task_rows 0 xs ++ task_rows (length xs) ys
rows_append xs ys = rows-from 0 xs ys ∙ ap (λ (k : ℕ). task_rows 0 xs ++ task_rows k ys) (omega arith)

pub rows-length : (t : ℕ) (xs : List Task) → length (task_rows t xs) ≡ length xs
rows-length t [] = refl
rows-length t (x ∷ xs) = ap suc (rows-length (suc t) xs)

pub rows_take : (t k : ℕ) (xs : List Task) → take k (task_rows t xs) ≡ task_rows t (take k xs)
rows_take t zero xs = refl
rows_take t (suc k) [] = refl
rows_take t (suc k) (x ∷ xs) = rw (rows_take (suc t) k xs) refl

pub row_at : (t : ℕ) (xs : List Task) (i : ℕ) → i < length xs → get_or (task_rows t xs) i [] ≡ task_row (t + i) (get_or xs i empty_task)
row_at t [] i h = absurd (omega arith)
row_at t (x ∷ xs) zero h = ap (λ (k : ℕ). task_row k x) (omega arith)
row_at t (x ∷ xs) (suc i) h = row_at (suc t) xs i (omega arith) ∙ ap (λ (k : ℕ). task_row k (get_or xs i empty_task)) (omega arith)

-- "the edges" are what the rows count
pub rows-edges : (t : ℕ) (xs : List Task) → sum_of (λ r. get_or r 2 0) (task_rows t xs) ≡ edges_of xs
unfolding sum_of preds_of
rows-edges t [] = refl
rows-edges t (x ∷ xs) = omega (arith, length-append x.preds (preds_of xs), rows-edges (suc t) xs)

pub beyond-more : (a b : List Numbers) → Beyond a → Beyond (a ++ b)
beyond-more [] b h = absurd h
beyond-more (first ∷ tasks) b (inl h) = inl h
beyond-more (first ∷ tasks) b (inr h) = inr (omega (arith, sum_of-append (λ r. get_or r 2 0) tasks b))
