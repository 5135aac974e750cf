-- Texts that spell the same graph are alike.
use Prim.Native.Nat.{ℕ, ◌<◌}
use mathlib.Core.Path.{◌≡◌, refl, sym, ap, ◌∙◌}
use mathlib.Core.Logic.{inl, inr}
use mathlib.Core.Option.{Option, none, some}
use mathlib.Core.List.{List, [], ◌∷◌}
use native.Mathlib.Omega.{arith}
use lib.ListN.{length, get_or}
use lib.Seq.{ext_get_or}
use Rattle.lists.proofs.Apart.{unequal, cons-not-nil}
use Rattle.graph.specs.Graph.{part}
use Rattle.layout.specs.Marks.{Line, Numbers}
use Rattle.layout.specs.Tasks.{Task, task, empty_task, weights_of, Tables, tables_of}
use Rattle.layout.specs.Layout.{Reads, Content, task_rows, Job, Spells}
use Rattle.layout.specs.Alike.{SameFields, SameCut, SameLines, no_lines, skip-left, skip-right, both, Alike}
use Rattle.layout.specs.Reader.{fields, value_of, push, numbers_of, row_of}
use Rattle.layout.proofs.Tables.{weights-length, weight-at, part_at}
use Rattle.layout.proofs.Fields.{cut-fields, number-yes, reads-row}
use Rattle.layout.proofs.Decimals.{same_number}

-- Tasks.

-- the tasks can be told from the tables
tables-unique : (xs ys : List Task) → tables_of xs ≡ tables_of ys → xs ≡ ys
tables-unique xs ys e = ext_get_or empty_task xs ys size each
  where
    weights : weights_of xs ≡ weights_of ys
    weights = ap (λ g. g.weights) e

    size : length xs ≡ length ys
    size = sym (weights-length xs) ∙ ap (λ (l : List ℕ). length l) weights ∙ weights-length ys

    each : (t : ℕ) → t < length xs → get_or xs t empty_task ≡ get_or ys t empty_task
    each t h = ap (λ (n : ℕ). task n (get_or xs t empty_task).preds) time ∙ ap (task (get_or ys t empty_task).time) preds
      where
        k : t < length ys
        k = omega (arith, h, size)

        time : (get_or xs t empty_task).time ≡ (get_or ys t empty_task).time
        time = sym (weight-at xs t h) ∙ ap (λ (l : List ℕ). get_or l t 0) weights ∙ weight-at ys t k

        preds : (get_or xs t empty_task).preds ≡ (get_or ys t empty_task).preds
        preds = sym (part_at xs t h) ∙ ap (λ (g : Tables). part g.starts g.preds t) e ∙ part_at ys t k

job-rows : (rows rows' : List Numbers) (xs ys : List Task) → Job rows xs → Job rows' ys → xs ≡ ys → rows ≡ rows'
job-rows rows rows' xs ys j k e =
    let n : j.n ≡ k.n = omega (arith, j.size, k.size, ap (λ (l : List Task). length l) e) in
    let tasks : task_rows 0 xs ≡ task_rows 0 ys = ap (task_rows 0) e in
    cc (j.written, k.written)

-- Lines.

-- a number before a row
record Pushed (o : Option ℕ) (q : Option Numbers) (row : Numbers) : Type 0 where
  first : ℕ
  later : Numbers
  number : o ≡ some first
  numbers : q ≡ some later
  whole : row ≡ first ∷ later

pushed : (o : Option ℕ) (q : Option Numbers) (row : Numbers) → push o q ≡ some row → Pushed o q row
pushed (some v) (some later) row e = record { first = v; later = later; number = refl; numbers = refl; whole = cc }
pushed (some v) none row e = unequal cc
pushed none q row e = unequal cc

pushed-some : (o : Option ℕ) (q : Option Numbers) → ¬ (push o q ≡ some [])
pushed-some o q e = let p = pushed o q [] e in cons-not-nil p.first p.later (sym p.whole)

-- fields with the same numbers
same-fields : (fs gs : List (List ℕ)) (row : Numbers) → numbers_of fs ≡ some row → numbers_of gs ≡ some row → SameFields fs gs
same-fields [] [] row a b = tt
same-fields [] (g ∷ gs) row a b = pushed-some (value_of g) (numbers_of gs) (b ∙ sym a)
same-fields (f ∷ fs) [] row a b = pushed-some (value_of f) (numbers_of fs) (a ∙ sym b)
same-fields (f ∷ fs) (g ∷ gs) row a b =
    let p = pushed (value_of f) (numbers_of fs) row a in
    let q = pushed (value_of g) (numbers_of gs) row b in
    let first : q.first ≡ p.first = cc in
    let later : q.later ≡ p.later = cc in (
      inr (same_number f g p.first (number-yes f p.first p.number) (number-yes g p.first (q.number ∙ ap some first))),
      same-fields fs gs p.later p.numbers (q.numbers ∙ ap some later),
    )

-- lines with the same row
same-cut : (c d : Line) (row : Numbers) → Reads c row → Reads d row → SameCut c d
unfolding row_of
same-cut c d row r q = record {
  left = fields c;
  right = fields d;
  cut_left = cut-fields c;
  cut_right = cut-fields d;
  same = same-fields (fields c) (fields d) row (reads-row c row r) (reads-row d row q);
}

same_lines : (ls ms : List Line) (rows : List Numbers) → Content ls rows → Content ms rows → SameLines ls ms
same_lines [] [] rows h k = no_lines
same_lines [] (d ∷ ms) [] h (s, k) = skip-right s (same_lines [] ms [] refl k)
same_lines [] (d ∷ ms) (row ∷ rows) h k = absurd (cons-not-nil row rows h)
same_lines (c ∷ ls) ms [] (s, h) k = skip-left s (same_lines ls ms [] h k)
same_lines (c ∷ ls) ms (row ∷ rows) (inl (s, h)) k = skip-left s (same_lines ls ms (row ∷ rows) h k)
same_lines (c ∷ ls) [] (row ∷ rows) (inr h) k = absurd (cons-not-nil row rows k)
same_lines (c ∷ ls) (d ∷ ms) (row ∷ rows) (inr h) (inl (s, k)) = skip-right s (same_lines (c ∷ ls) ms (row ∷ rows) (inr h) k)
same_lines (c ∷ ls) (d ∷ ms) (row ∷ rows) (inr (n, r, h)) (inr (m, q, k)) = both (inr (same-cut c d row r q)) (same_lines ls ms rows h k)

-- Texts.

-- the rows can be told from the graph
pub same_rows : (text other : List ℕ) (g : Tables) (s : Spells text g) (r : Spells other g) → s.keeps.rows ≡ r.keeps.rows
same_rows text other g s r = job-rows s.keeps.rows r.keeps.rows s.tasks r.tasks s.keeps.job r.keeps.job tasks
  where
    tasks : s.tasks ≡ r.tasks
    tasks = tables-unique s.tasks r.tasks (sym s.tables ∙ r.tables)

pub same_alike : (text other : List ℕ) (g : Tables) → Spells text g → Spells other g → Alike text other
same_alike text other g s r = record {
  left = s.lines;
  right = r.lines;
  lines_left = s.parted;
  lines-right = r.parted;
  same = same_lines s.lines r.lines r.keeps.rows (rw (same_rows text other g s r) at s.keeps.content) r.keeps.content;
}
