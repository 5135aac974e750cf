-- Some of a graph's first tasks: which row may come next, and that the rest can be dummies.
use Prim.Native.Nat.{ℕ, zero, suc, ◌+◌, ◌≤◌}
use mathlib.Core.Path.{◌≡◌, refl, sym, ap, ◌∙◌}
use mathlib.Core.Logic.{inl, inr}
use mathlib.Core.List.{List, [], ◌∷◌, ◌++◌}
use native.Mathlib.Omega.{arith}
use lib.ListN.{length, get_or, replicate, length-append, length-replicate}
use lib.Seq.{get_or_at}
use lib.Dec.{eqb}
use borrow.Author.Tests.{eqb-true, eq-eqb}
use Rattle.lists.proofs.Appends.{no-members}
use Rattle.layout.specs.Marks.{Numbers}
use Rattle.layout.specs.Tasks.{Task, empty_task, edges_of}
use Rattle.layout.specs.Layout.{task_row, task_rows, Job}
use Rattle.layout.specs.Tables.{Beyond}
use Rattle.layout.proofs.TaskRows.{Dummies, Given, rows_append, rows-length, row_at, rows-edges}

-- done are the first of n + 2 tasks
pub record Begun (n left : ℕ) (done : List Task) : Type 0 where
  pub size : length done + left ≡ n + 2
  pub first : (get_or done 0 empty_task).time ≡ 0
  pub last : (get_or done (n + 1) empty_task).time ≡ 0
  pub root : (get_or done 0 empty_task).preds ≡ []

-- the first row, and those of the tasks that are done
abbrev pub graph_rows : ℕ → List Task → List Numbers
graph_rows n done = (n ∷ []) ∷ task_rows 0 done

-- they pass no limit
pub rows-within : (n : ℕ) (done : List Task) → n ≤ 1022 → edges_of done ≤ 8192 → ¬ (Beyond (graph_rows n done))
rows-within n done small few (inl h) = omega (arith, small)
rows-within n done small few (inr h) = omega (arith, few, rows-edges 0 done)

pub begun-none : (n : ℕ) → Begun n (n + 2) []
begun-none n = record { size = omega arith; first = refl; last = refl; root = refl }

-- what holds of a task more and at each place before, holds at each place
more-at : (P : Task → Type 0) (done : List Task) (x : Task) (i : ℕ) → P (get_or done i empty_task) → (i ≡ length done → P x)
    → P (get_or (done ++ (x ∷ [])) i empty_task)
more-at P [] x zero p f = f refl
more-at P [] x (suc i) p f = p
more-at P (y ∷ done) x zero p f = p
more-at P (y ∷ done) x (suc i) p f = more-at P done x i p (λ e. f (omega arith))

pub begun_more : {n left : ℕ} {done : List Task} → Begun n (suc left) done → (row : Numbers) (x : Task) → Given (length done) (eqb left 0) row x
    → Begun n left (done ++ (x ∷ []))
begun_more {n} {left} {done} b row x g = record {
  size = omega (arith, length-append done (x ∷ []), b.size);
  first = more-at (λ y. y.time ≡ 0) done x 0 b.first (λ e. d.at_first (sym e));
  last = more-at (λ y. y.time ≡ 0) done x (n + 1) b.last (λ e. d.at_last (eq-eqb left 0 (omega (arith, b.size))));
  root = more-at (λ y. y.preds ≡ []) done x 0 b.root (λ e. no-members x.preds (d.at-root (sym e)));
}
  where
    d : Dummies (length done) (eqb left 0) x.time (length x.preds)
    d = g.dummies

-- dummies change no place
pad-at : (done : List Task) (left i : ℕ) → get_or (done ++ replicate left empty_task) i empty_task ≡ get_or done i empty_task
pad-at [] zero i = refl
pad-at [] (suc left) zero = refl
pad-at [] (suc left) (suc i) = pad-at [] left i
pad-at (y ∷ done) left zero = refl
pad-at (y ∷ done) left (suc i) = pad-at done left i

pub begun_all : {n : ℕ} {done : List Task} → Begun n 0 done → Job (graph_rows n done) done
begun_all {n} b = record { n = n; size = omega (arith, b.size); written = refl; first = b.first; last = b.last; root = b.root }

pub begun-job : (n left : ℕ) (done : List Task) → Begun n left done
    → Job (graph_rows n done ++ task_rows (length done) (replicate left empty_task)) (done ++ replicate left empty_task)
begun-job n left done b = record {
  n = n;
  size = omega (arith, b.size, length-append done (replicate left empty_task), length-replicate left empty_task);
  written = ap (λ (r : List Numbers). (n ∷ []) ∷ r) (sym (rows_append done (replicate left empty_task)));
  first = rw (pad-at done left 0) b.first;
  last = rw (pad-at done left (n + 1)) b.last;
  root = rw (pad-at done left 0) b.root;
}

-- rows with which some graph's rows begin
pub record Start (rows : List Numbers) : Type 0 where
  pub later : List Numbers
  pub tasks : List Task
  pub job : Job (rows ++ later) tasks

pub begun-start : {n left : ℕ} {done : List Task} → Begun n left done → Start (graph_rows n done)
begun-start {n} {left} {done} b = record {
  later = task_rows (length done) (replicate left empty_task);
  tasks = done ++ replicate left empty_task;
  job = begun-job n left done b;
}

pub no_rows : Start []
no_rows = record { later = graph_rows 0 (empty_task ∷ empty_task ∷ []); tasks = empty_task ∷ empty_task ∷ []; job = begun-job 0 2 [] (begun-none 0) }

-- a first row and those after it, taken from a graph's rows
module _ (first : Numbers) (rest : List Numbers) (xs : List Task) (j : Job (first ∷ rest) xs) where
  pub job-first : first ≡ j.n ∷ []
  job-first = cc j.written

  pub job-rest : rest ≡ task_rows 0 xs
  job-rest = cc j.written

  pub job-size : length rest ≡ j.n + 2
  job-size = omega (arith, ap length job-rest, rows-length 0 xs, j.size)

job-n : (n : ℕ) (rest : List Numbers) (xs : List Task) (j : Job ((n ∷ []) ∷ rest) xs) → j.n ≡ n
job-n n rest xs j = cc (job-first (n ∷ []) rest xs j)

-- as many rows follow as tasks are left
pub begun-left : {n left : ℕ} {done : List Task} → Begun n left done → (later : List Numbers) (xs : List Task) → Job (graph_rows n done ++ later) xs
    → length later ≡ left
begun-left {n} {left} {done} b later xs j =
    let rest : List Numbers = task_rows 0 done ++ later in
    omega (arith, b.size, job-size (n ∷ []) rest xs j, job-n n rest xs j, length-append (task_rows 0 done) later, rows-length 0 done)

-- a row that follows gives the task that is due
pub begun-due : {n left : ℕ} {done : List Task} → Begun n (suc left) done → (row : Numbers) (later : List Numbers) (xs : List Task)
    → Job (graph_rows n done ++ (row ∷ later)) xs → (x : Task) × Given (length done) (eqb left 0) row x
begun-due {n} {left} {done} b row later xs j = (get_or xs t empty_task, record { written = written; dummies = dummies })
  where
    t : ℕ
    t = length done

    size : j.n ≡ n
    size = job-n n (task_rows 0 done ++ (row ∷ later)) xs j

    written : row ≡ task_row t (get_or xs t empty_task)
    written =
        sym (get_or_at (task_rows 0 done) row later [] t (rows-length 0 done))
        ∙ ap (λ (r : List Numbers). get_or r t []) (job-rest (n ∷ []) (task_rows 0 done ++ (row ∷ later)) xs j)
        ∙ row_at 0 xs t (omega (arith, b.size, j.size, size))
        ∙ ap (λ (k : ℕ). task_row k (get_or xs t empty_task)) (omega arith)

    dummies : Dummies t (eqb left 0) (get_or xs t empty_task).time (length (get_or xs t empty_task).preds)
    dummies = record {
      at_first = λ e. rw e j.first;
      at_last = λ e. ap (λ (k : ℕ). (get_or xs k empty_task).time) (omega (arith, b.size, size, eqb-true left 0 e)) ∙ j.last;
      at-root = λ e. rw (e, j.root) refl;
    }
