-- Lines that begin some text that keeps the layout, and lines with the first rows of some graph.
use Prim.Native.Nat.{ℕ, zero, suc, ◌+◌, ◌-◌, ◌≤◌, ◌<◌}
use mathlib.Core.Path.{◌≡◌, refl, sym, ap, subst, ◌∙◌}
use mathlib.Core.List.{List, [], ◌∷◌, ◌++◌, append_assoc, append-nil}
use native.Mathlib.Omega.{arith}
use lib.ListN.{length, get_or, take, drop, replicate, length-append, take-append-drop}
use lib.Seq.{take-append_seam, length-take-le}
use Rattle.lists.proofs.Appends.{take_part}
use Rattle.layout.specs.Marks.{Each, Line, Numbers}
use Rattle.layout.specs.Tasks.{Task, empty_task, tables_of}
use Rattle.layout.specs.Layout.{NoLf, Lines, Reads, Content, task_rows, Job, Keeps}
use Rattle.layout.specs.Tables.{Begins, Fits}
use Rattle.layout.proofs.Each.{each_append}
use Rattle.layout.proofs.Lines.{join_lines, lines-joined}
use Rattle.layout.proofs.Fields.{row_line}
use Rattle.layout.proofs.Contents.{content-append, content-split, content-row}
use Rattle.layout.proofs.Unique.{spells-keeps}
use Rattle.layout.proofs.TaskRows.{rows_take}
use Rattle.layout.proofs.Begun.{Begun, graph_rows, begun-none, begun-job, job-first, job-rest, job-size}

-- First parts.

fits-part : (ls ms : List Line) → Fits (ls ++ ms) → Fits ls
fits-part ls ms f = go (content-split ls ms f.rows f.content)
  where
    go : (a : List Numbers) × (b : List Numbers) × Content ls a × Content ms b × (f.rows ≡ a ++ b) → Fits ls
    go (a, b, h, k, e) = record {
      rows = a;
      content = h;
      later = b ++ f.later;
      tasks = f.tasks;
      job = subst (λ (r : List Numbers). Job r f.tasks) (ap (λ (r : List Numbers). r ++ f.later) e ∙ append_assoc a b f.later) f.job;
    }

pub fits-take : (ls : List Line) (l m : ℕ) → l ≤ m → Fits (take m ls) → Fits (take l ls)
fits-take ls l m h f = fits-part (take l ls) (drop l (take m ls)) (subst Fits (take_part ls l m h) f)

begins-part : (ls ms : List Line) → Begins (ls ++ ms) → Begins ls
begins-part ls ms b = record {
  text = b.text;
  graph = b.graph;
  later = ms ++ b.later;
  parted = subst (Lines b.text) (append_assoc ls ms b.later) b.parted;
  spells = b.spells;
}

pub begins-take : (ls : List Line) (l m : ℕ) → l ≤ m → Begins (take m ls) → Begins (take l ls)
begins-take ls l m h b = begins-part (take l ls) (drop l (take m ls)) (subst Begins (take_part ls l m h) b)

-- lines that keep the layout, whole and cut anywhere
whole-fits : (ls : List Line) (xs : List Task) → Keeps ls xs → Fits ls
whole-fits ls xs k = record {
  rows = k.rows;
  content = k.content;
  later = [];
  tasks = xs;
  job = subst (λ (r : List Numbers). Job r xs) (sym (append-nil k.rows)) k.job;
}

pub keeps-fits : (ls : List Line) (xs : List Task) (l : ℕ) → Keeps ls xs → Fits (take l ls)
keeps-fits ls xs l k = fits-part (take l ls) (drop l ls) (subst Fits (sym (take-append-drop l ls)) (whole-fits ls xs k))

-- lines that begin some text that keeps the layout have the first rows of some graph; the reverse holds unless n is 65,535
pub begins-fits : (ls : List Line) → Begins ls → Fits ls
begins-fits ls b =
    fits-part ls b.later
    (whole-fits (ls ++ b.later) b.spells.tasks (spells-keeps b.text (ls ++ b.later) b.graph b.parted b.spells))

-- Rows that are added.

-- a row that some line has, and that is not skipped
abbrev pub HasLine : Numbers → Type 0
HasLine [] = ⊥
HasLine (v ∷ row) = Each (λ u. u ≤ 65535) (v ∷ row)

-- lines for rows
pub row-lines : (rows : List Numbers) → Each HasLine rows → (ms : List Line) × Each NoLf ms × Content ms rows
row-lines [] h = ([], tt, refl)
row-lines ([] ∷ rows) (h, hs) = absurd h
row-lines ((v ∷ row) ∷ rows) (h, hs) = go (row_line (v ∷ row) h) (row-lines rows hs)
  where
    go : (c : Line) × Reads c (v ∷ row) × NoLf c → (ms : List Line) × Each NoLf ms × Content ms rows
        → (ms : List Line) × Each NoLf ms × Content ms ((v ∷ row) ∷ rows)
    go (c, r, f) (ms, fs, k) = (c ∷ ms, (f, fs), content-append (c ∷ []) ms ((v ∷ row) ∷ []) rows (content-row c v row r) k)

-- with lines for the rows that are missing, the lines keep the layout
completed : (ls : List Line) → Each NoLf ls → (rows later : List Numbers) (xs : List Task) → Content ls rows → Each HasLine later → Job (rows ++ later) xs
    → Begins ls
completed ls free rows later xs c w j = go (row-lines later w)
  where
    go : (ms : List Line) × Each NoLf ms × Content ms later → Begins ls
    go (ms, fs, k) = record {
      text = join_lines (ls ++ ms);
      graph = tables_of xs;
      later = ms;
      parted = joins;
      spells = record {
        lines = ls ++ ms;
        tasks = xs;
        parted = joins;
        keeps = record { rows = rows ++ later; content = content-append ls ms rows later c k; job = j };
        tables = refl;
      };
    }
      where
        joins : Lines (join_lines (ls ++ ms)) (ls ++ ms)
        joins = lines-joined (ls ++ ms) (each_append NoLf ls ms free fs)

-- The first rows of some graph.

-- the rows of dummies
dummies-writable : (t m : ℕ) → t + m ≤ 65536 → Each HasLine (task_rows t (replicate m empty_task))
dummies-writable t zero h = tt
dummies-writable t (suc m) h = ((omega arith, (omega arith, (omega arith, tt))), dummies-writable (suc t) m (omega arith))

-- what a task and a dummy have in common holds of the first k tasks, and behind them
taken-has : (P : Task → Type 0) (k i : ℕ) (xs : List Task) → P (get_or xs i empty_task) → P empty_task → P (get_or (take k xs) i empty_task)
taken-has P zero i xs h d = d
taken-has P (suc k) i [] h d = h
taken-has P (suc k) zero (x ∷ xs) h d = h
taken-has P (suc k) (suc i) (x ∷ xs) h d = taken-has P k i xs h d

module _ (first : Numbers) (rows later : List Numbers) (xs : List Task) (j : Job (first ∷ (rows ++ later)) xs) where
  few : length rows ≤ length xs
  few = omega (arith, job-size first (rows ++ later) xs j, length-append rows later, j.size)

  -- the rows are those of the first tasks
  abbrev kept : List Task
  kept = take (length rows) xs

  kept-rows : first ∷ rows ≡ graph_rows j.n kept
  kept-rows =
      rw (job-first first (rows ++ later) xs j, ← rows_take 0 (length rows) xs, ← job-rest first (rows ++ later) xs j, take-append_seam rows later)
      refl

  kept-begun : (m : ℕ) → length rows + m ≡ j.n + 2 → Begun j.n m kept
  kept-begun m left = record {
    size = omega (arith, left, length-take-le (length rows) xs few);
    first = taken-has (λ x. x.time ≡ 0) (length rows) 0 xs j.first refl;
    last = taken-has (λ x. x.time ≡ 0) (length rows) (j.n + 1) xs j.last refl;
    root = taken-has (λ x. x.preds ≡ []) (length rows) 0 xs j.root refl;
  }

pub fits-begins : (ls : List Line) → Each NoLf ls → (f : Fits ls) → get_or (get_or f.rows 0 []) 0 0 < 65535 → Begins ls
fits-begins ls free f small = go f.rows f.content f.job small
  where
    -- with rows of dummies in place of the later ones
    begins : (n m : ℕ) (done : List Task) → Content ls (graph_rows n done) → Begun n m done → n < 65535 → Begins ls
    begins n m done c b s =
        completed ls free (graph_rows n done) (task_rows (length done) (replicate m empty_task)) (done ++ replicate m empty_task) c
        (dummies-writable (length done) m (omega (arith, b.size))) (begun-job n m done b)

    go : (rows : List Numbers) → Content ls rows → Job (rows ++ f.later) f.tasks → get_or (get_or rows 0 []) 0 0 < 65535 → Begins ls
    go [] c j s =
        completed ls free [] (graph_rows 0 (empty_task ∷ empty_task ∷ [])) (empty_task ∷ empty_task ∷ []) c
        ((omega arith, tt), dummies-writable 0 2 (omega arith)) (begun-job 0 2 [] (begun-none 0))
    go (first ∷ rows) c j s =
        let n : ℕ = j.n in
        let short : length rows ≤ n + 2 = omega (arith, few first rows f.later f.tasks j, j.size) in
        let m : ℕ = n + 2 - length rows in
        begins n m (take (length rows) f.tasks) (rw (kept-rows first rows f.later f.tasks j) at c)
        (kept-begun first rows f.later f.tasks j m (omega arith))
        (omega (arith, ap (λ (r : Numbers). get_or r 0 0) (job-first first (rows ++ f.later) f.tasks j)))
