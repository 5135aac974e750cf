-- The verdict with its reasons.
use Prim.Native.Nat.{ℕ, zero, suc, ◌+◌, ◌≤◌, ◌<◌}
use mathlib.Core.Path.{◌≡◌, refl, sym, ap, ◌∙◌}
use mathlib.Core.Bool.{Bool, true, false, cond}
use mathlib.Core.Logic.{◌⊎◌, inl, inr}
use mathlib.Core.Option.{Option, none, some}
use mathlib.Core.List.{List, [], ◌∷◌, ◌++◌, append-nil}
use native.Mathlib.Omega.{arith}
use lib.ListN.{length, take}
use lib.Dec.{eqb, leb}
use borrow.Author.Tests.{leb-true, leb-false}
use Rattle.lists.proofs.Apart.{unequal}
use Rattle.layout.specs.Marks.{Line, Numbers}
use Rattle.layout.specs.Tasks.{Task, edges_of}
use Rattle.layout.specs.Layout.{Reads, task_row, Job, Keeps}
use Rattle.layout.specs.Reader.{lines, skipped, row_of, task_of, numbered, contents}
use Rattle.layout.specs.Reader.{Verdict, spelled, broken, over, more, tasks_from, headed, from_first, verdict}
use Rattle.layout.specs.Tables.{Beyond, Fits, Exceeds}
use Rattle.layout.proofs.Clauses.{contents-nil, contents-skip, contents-line, all_read, line_after, ends-early, one_more, verdict-is}
use Rattle.layout.proofs.Tables.{no_edges}
use Rattle.layout.proofs.Fields.{row_reads}
use Rattle.layout.proofs.Contents.{content-unique, content-row}
use Rattle.layout.proofs.TaskRows.{Given, task-row, given-task, rows_append, rows-edges}
use Rattle.layout.proofs.Begun.{Begun, graph_rows, rows-within, begun-none, begun_more, begun_all}
use Rattle.layout.proofs.Begun.{begun-left, begun-due, Start, begun-start, no_rows}
use Rattle.layout.proofs.Reached.{At, at-start, at_all, pre-length, pre-fits, pre-exceeds, pre-within, at_next, at-skip, not-fits}

pub data Judged (ls : List Line) (v : Verdict) : Type 0 where
  as-spelled : (xs : List Task) → v ≡ spelled xs → Keeps ls xs → length xs ≤ 1024 → edges_of xs ≤ 8192 → Judged ls v
  as-broken : (k : ℕ) → v ≡ broken (suc k) → Fits (take k ls)
      → (((k < length ls) × ¬ (Fits (take (suc k) ls))) ⊎ ((k ≡ length ls) × ((xs : List Task) → ¬ (Keeps ls xs))))
      → ((m : ℕ) → m ≤ k → ¬ (Exceeds ls m)) → Judged ls v
  as-over : (m : ℕ) → v ≡ over → Exceeds ls m → Judged ls v

-- Places.

-- no limit is passed yet
record Going (n left : ℕ) (done : List Task) : Type 0 where
  pub begun : Begun n left done
  pub small : n ≤ 1022
  pub few : edges_of done ≤ 8192

going-within : {n left : ℕ} {done : List Task} → Going n left done → ¬ (Beyond (graph_rows n done))
going-within {n} {done} g = rows-within n done g.small g.few

-- a limit is passed
at-over : {whole : List Line} {l : ℕ} {ls : List Line} {rows : List Numbers} → At whole l ls rows → Start rows → Beyond rows → Judged whole over
at-over a s b = as-over (length a.pre) refl (pre-exceeds a s b)

-- the lines end here, and the rows are no graph's
at-end : {whole : List Line} {l : ℕ} {rows : List Numbers} → At whole l [] rows → Start rows → ¬ (Beyond rows) → ((xs : List Task) → ¬ (Job rows xs))
    → Judged whole (broken (suc (length whole)))
at-end {whole} {rows} a s w n =
    as-broken (length a.pre) (ap (λ (k : ℕ). broken (suc k)) (sym size)) (pre-fits a s) (inr (size, none)) (pre-within a w)
  where
    size : length a.pre ≡ length whole
    size = omega (arith, pre-length a)

    none : (xs : List Task) → ¬ (Keeps whole xs)
    none xs k = n xs (rw (content-unique whole k.rows rows k.content (at_all a)) at k.job)

-- the row of line l is none that may follow
at-line : {whole : List Line} {l : ℕ} {c : Line} {ls : List Line} {rows : List Numbers} → At whole l (c ∷ ls) rows → Start rows → ¬ (Beyond rows)
    → skipped c ≡ false → ((row : Numbers) (later : List Numbers) (xs : List Task) → row_of c ≡ some row → ¬ (Job (rows ++ (row ∷ later)) xs))
    → Judged whole (broken l)
at-line a s w e n =
    as-broken (length a.pre) (ap broken a.next) (pre-fits a s) (inl (omega (arith, pre-length a), not-fits a e n)) (pre-within a w)

-- The tasks, line by line.

-- wherever ls are the lines that follow, they have their verdict
abbrev Tasked : List Line → List Line → Type 0
Tasked whole ls =
    (l n left : ℕ) (done : List Task) → At whole l ls (graph_rows n done) → Going n left done
    → Judged whole (tasks_from (suc (length whole)) left done (contents l ls))

module _ {whole : List Line} {l : ℕ} {c : Line} {ls : List Line} {n : ℕ} {done : List Task} (a : At whole l (c ∷ ls) (graph_rows n done)) where
  task-bad : {left : ℕ} → Going n left done → skipped c ≡ false
      → ((row : Numbers) (later : List Numbers) (xs : List Task) → row_of c ≡ some row → ¬ (Job (graph_rows n done ++ (row ∷ later)) xs))
      → Judged whole (broken l)
  task-bad g = at-line a (begun-start g.begun) (going-within g)

  task-over : Going n 0 done → skipped c ≡ false → Judged whole (broken l)
  task-over g e = task-bad g e (λ row later xs q j. let z : suc (length later) ≡ 0 = begun-left g.begun (row ∷ later) xs j in omega arith)

  module _ {left : ℕ} (g : Going n (suc left) done) where
    task-none : skipped c ≡ false → task_of (length done) (eqb left 0) (row_of c) ≡ none → Judged whole (broken l)
    task-none e h = task-bad g e (λ row later xs q j. due row q (begun-due g.begun row later xs j))
      where
        due : (row : Numbers) → row_of c ≡ some row → (x : Task) × Given (length done) (eqb left 0) row x → ⊥
        due row q (x, y) = unequal (cc (given-task (length done) (eqb left 0) row x y))

    module _ (x : Task) (h : (row : Numbers) × (row_of c ≡ some row) × Given (length done) (eqb left 0) row x) where
      task-at : At whole (suc l) ls (graph_rows n (done ++ (x ∷ [])))
      task-at =
          rw (rows_append done (x ∷ []))
          (at_next a (task_row (length done) x ∷ []) (content-row c (length done) (x.time ∷ length x.preds ∷ x.preds) read))
        where
          read : Reads c (task_row (length done) x)
          read = row_reads c (task_row (length done) x) (h.1 ∙ ap some h.2.written)

      task-begun : Begun n left (done ++ (x ∷ []))
      task-begun = begun_more g.begun h.0 x h.2

      task-some : Tasked whole ls → (o : Bool) → leb (edges_of (done ++ (x ∷ []))) 8192 ≡ o
          → Judged whole (cond o (tasks_from (suc (length whole)) left (done ++ (x ∷ [])) (contents (suc l) ls)) over)
      task-some t true q =
          t (suc l) n left (done ++ (x ∷ [])) task-at
          (record { begun = task-begun; small = g.small; few = leb-true (edges_of (done ++ (x ∷ []))) 8192 q })
      task-some t false q =
          at-over task-at (begun-start task-begun)
          (inr (omega (arith, rows-edges 0 (done ++ (x ∷ [])), leb-false (edges_of (done ++ (x ∷ []))) 8192 q)))

task-line : {whole : List Line} {l : ℕ} {c : Line} {ls : List Line} {n : ℕ} (left : ℕ) {done : List Task} → At whole l (c ∷ ls) (graph_rows n done)
    → Going n left done → skipped c ≡ false → Tasked whole ls → Judged whole (tasks_from (suc (length whole)) left done (contents l (c ∷ ls)))
task-line {whole} {l} {c} {ls} zero {done} a g e t =
    rw (contents-line l c ls e, line_after (suc (length whole)) done (numbered l c) (contents (suc l) ls)) (task-over a g e)
task-line {whole} {l} {c} {ls} (suc left) {done} a g e t =
    rw (contents-line l c ls e, one_more (suc (length whole)) done left (numbered l c) (contents (suc l) ls))
    (go (task_of (length done) (eqb left 0) (row_of c)) refl)
  where
    go : (o : Option Task) → task_of (length done) (eqb left 0) (row_of c) ≡ o
        → Judged whole (more l o done (λ xs. tasks_from (suc (length whole)) left xs (contents (suc l) ls)))
    go none h = task-none a g e h
    go (some x) h = task-some a g x (task-row (length done) (eqb left 0) (row_of c) x h) t (leb (edges_of (done ++ (x ∷ []))) 8192) refl

tasks-end : {whole : List Line} {l n : ℕ} (left : ℕ) {done : List Task} → At whole l [] (graph_rows n done) → Going n left done
    → Judged whole (tasks_from (suc (length whole)) left done (contents l []))
tasks-end {whole} {l} {n} zero {done} a g =
    rw (contents-nil l, all_read (suc (length whole)) done)
    (as-spelled done refl (record { rows = graph_rows n done; content = at_all a; job = begun_all g.begun })
    (omega (arith, g.begun.size, g.small)) g.few)
tasks-end {whole} {l} {n} (suc left) {done} a g =
    rw (contents-nil l, ends-early (suc (length whole)) done left)
    (at-end a (begun-start g.begun) (going-within g)
    (λ xs j. let z : 0 ≡ suc left = begun-left g.begun [] xs (rw (append-nil (graph_rows n done)) j) in omega arith))

tasks : (whole ls : List Line) → Tasked whole ls
tasks whole [] l n left done a g = tasks-end left a g
tasks whole (c ∷ ls) l n left done a g = go (skipped c) refl (tasks whole ls)
  where
    go : (o : Bool) → skipped c ≡ o → Tasked whole ls → Judged whole (tasks_from (suc (length whole)) left done (contents l (c ∷ ls)))
    go true e t = rw (contents-skip l c ls e) (t (suc l) n left done (at-skip a e) g)
    go false e t = task-line left a g e t

-- The first row.

module _ {whole : List Line} {l : ℕ} {c : Line} {ls : List Line} (a : At whole l (c ∷ ls) []) (e : skipped c ≡ false) where
  first-none : ((n : ℕ) → ¬ (row_of c ≡ some (n ∷ []))) → Judged whole (broken l)
  first-none f = at-line a no_rows (λ b. b) e (λ row later xs q j. f j.n (cc (q, j.written)))

  module _ (n : ℕ) (h : row_of c ≡ some (n ∷ [])) where
    first-at : At whole (suc l) ls (graph_rows n [])
    first-at = at_next a (graph_rows n []) (content-row c n [] (row_reads c (n ∷ []) h))

    first_some : (o : Bool) → leb n 1022 ≡ o → Judged whole (cond o (tasks_from (suc (length whole)) (n + 2) [] (contents (suc l) ls)) over)
    first_some true q =
        tasks whole ls (suc l) n (n + 2) [] first-at (record { begun = begun-none n; small = leb-true n 1022 q; few = omega (arith, no_edges) })
    first_some false q = at-over first-at (begun-start (begun-none n)) (inl (leb-false n 1022 q))

  first-line : (o : Option Numbers) → row_of c ≡ o → Judged whole (headed (suc (length whole)) l o (contents (suc l) ls))
  first-line none h = first-none (λ n q. unequal cc)
  first-line (some []) h = first-none (λ n q. unequal cc)
  first-line (some (n ∷ [])) h = first_some n h (leb n 1022) refl
  first-line (some (u ∷ v ∷ row)) h = first-none (λ n q. unequal cc)

first : (ls : List Line) {whole : List Line} {l : ℕ} → At whole l ls [] → Judged whole (from_first (suc (length whole)) (contents l ls))
first [] {l} a = rw (contents-nil l) (at-end a no_rows (λ b. b) (λ xs j. unequal (cc j.written)))
first (c ∷ ls) {whole} {l} a = go (skipped c) refl (first ls)
  where
    go : (o : Bool) → skipped c ≡ o → (At whole (suc l) ls [] → Judged whole (from_first (suc (length whole)) (contents (suc l) ls)))
        → Judged whole (from_first (suc (length whole)) (contents l (c ∷ ls)))
    go true e f = rw (contents-skip l c ls e) (f (at-skip a e))
    go false e f = rw (contents-line l c ls e) (first-line a e (row_of c) refl)

pub judged : (text : List ℕ) → Judged (lines text) (verdict text)
judged text = rw (verdict-is text) (first (lines text) (at-start (lines text)))
