-- A text spells at most one graph.
use Prim.Native.Nat.{ℕ, suc}
use mathlib.Core.Path.{◌≡◌, refl, sym, ap, ◌∙◌}
use mathlib.Core.List.{List, [], ◌∷◌}
use Rattle.lists.proofs.Apart.{cons-not-nil}
use Rattle.layout.specs.Marks.{Line, Numbers}
use Rattle.layout.specs.Tasks.{Task, task, Tables, tables_of}
use Rattle.layout.specs.Layout.{Lines, task_row, task_rows, Job, Keeps, Spells}
use Rattle.layout.proofs.Lines.{lines_same}
use Rattle.layout.proofs.Contents.{content-unique}

-- the tasks can be told from their rows
rows-unique : (t : ℕ) (xs ys : List Task) → task_rows t xs ≡ task_rows t ys → xs ≡ ys
rows-unique t [] [] e = refl
rows-unique t [] (y ∷ ys) e = absurd (cons-not-nil (task_row t y) (task_rows (suc t) ys) (sym e))
rows-unique t (x ∷ xs) [] e = absurd (cons-not-nil (task_row t x) (task_rows (suc t) xs) e)
rows-unique t (x ∷ xs) (y ∷ ys) e =
    let times : x.time ≡ y.time = cc in
    let preds : x.preds ≡ y.preds = cc in
    let later : task_rows (suc t) xs ≡ task_rows (suc t) ys = cc in
    let first : x ≡ y = ap (λ t. task t x.preds) times ∙ ap (task y.time) preds in
    cc (rows-unique (suc t) xs ys later)

job-unique : (rows : List Numbers) (xs ys : List Task) → Job rows xs → Job rows ys → xs ≡ ys
job-unique rows xs ys j k =
    let a : rows ≡ (j.n ∷ []) ∷ task_rows 0 xs = j.written in
    let b : rows ≡ (k.n ∷ []) ∷ task_rows 0 ys = k.written in
    rows-unique 0 xs ys (cc)

pub keeps-unique : (ls : List Line) (xs ys : List Task) → Keeps ls xs → Keeps ls ys → xs ≡ ys
keeps-unique ls xs ys h k = job-unique k.rows xs ys (rw (content-unique ls h.rows k.rows h.content k.content) at h.job) k.job

-- the text's lines keep the layout with the tasks of the graph that it spells
pub spells-keeps : (text : List ℕ) (ls : List Line) (g : Tables) → Lines text ls → (s : Spells text g) → Keeps ls s.tasks
spells-keeps text ls g h s = rw (lines_same text s.lines ls s.parted h) at s.keeps

pub spells-unique : (text : List ℕ) (g h : Tables) → Spells text g → Spells text h → g ≡ h
spells-unique text g h s r =
    s.tables ∙ ap tables_of (keeps-unique r.lines s.tasks r.tasks (spells-keeps text r.lines g r.parted s) r.keeps) ∙ sym r.tables
