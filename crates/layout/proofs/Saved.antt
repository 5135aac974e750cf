-- PROMISES: the writer's text has the form named and spells the tables; what the reader accepts has the dummies.
use Prim.Native.Nat.{ℕ, ◌+◌, ◌-◌, ◌≤◌, ◌<◌}
use mathlib.Core.Path.{◌≡◌, refl, sym, ap, subst, ◌∙◌}
use mathlib.Core.Bool.{true, ◌&&◌}
use mathlib.Core.List.{List, [], ◌∷◌}
use native.Mathlib.Omega.{arith}
use native.Mathlib.Decide.{ℕ_discrete}
use lib.ListN.{length, get_or}
use lib.Dec.{leb, eqb}
use borrow.Author.Tests.{leb-true, eqb-true, le-leb, eq-eqb}
use Rattle.lists.proofs.Appends.{no-members}
use Rattle.lists.proofs.Occurrences.{at-occ}
use Rattle.lists.proofs.Told.{and-true}
use Rattle.graph.specs.Graph.{part, graph_of}
use Rattle.graph.specs.Conditions.{Light, Good, Sound}
use Rattle.graph.proofs.Parts.{length_part}
use Rattle.layout.specs.Marks.{Each, Line, Numbers}
use Rattle.layout.specs.Tasks.{Task, empty_task, starts_of, Tables, tables, tables_of}
use Rattle.layout.specs.Layout.{Lines, Content, task_rows, Spells}
use Rattle.layout.specs.Plain.{PlainRows, Plain, rows_text, tasks_of, text_of}
use Rattle.layout.specs.Writer.{dummies_fit}
use Rattle.layout.specs.Tables.{Accepts, Writable}
use Rattle.layout.proofs.Each.{each_at, at_each}
use Rattle.layout.proofs.Tables.{weights-length, weight-at, start_first, start-next}
use Rattle.layout.proofs.Tabled.{tasks-length, task-at, tables-tasks}
use Rattle.layout.proofs.Readings.{accepted-iff}
use Rattle.layout.proofs.Texts.{rows-have, spelled-writable}
use Rattle.layout.proofs.Plain.{plain_lines, rows-plain}

-- What `dummies_fit` tests.
record Ends (w s : List ℕ) : Type 0 where
  two : 2 ≤ length w
  first : ◌≡◌ {A = ℕ} (get_or w 0 0) 0
  root : ◌≡◌ {A = ℕ} (get_or s 1 0) 0
  last : ◌≡◌ {A = ℕ} (get_or w (length w - 1) 0) 0

module _ (w s : List ℕ) where
  true-ends : dummies_fit w s ≡ true → Ends w s
  unfolding dummies_fit
  true-ends h =
      let (a, x) = and-true (leb 2 (length w)) (eqb (get_or w 0 0) 0 && (eqb (get_or s 1 0) 0 && eqb (get_or w (length w - 1) 0) 0)) h in
      let (b, y) = and-true (eqb (get_or w 0 0) 0) (eqb (get_or s 1 0) 0 && eqb (get_or w (length w - 1) 0) 0) x in
      let (c, d) = and-true (eqb (get_or s 1 0) 0) (eqb (get_or w (length w - 1) 0) 0) y in
      record {
        two = leb-true 2 (length w) a;
        first = eqb-true (get_or w 0 0) 0 b;
        root = eqb-true (get_or s 1 0) 0 c;
        last = eqb-true (get_or w (length w - 1) 0) 0 d;
      }

  ends-true : Ends w s → dummies_fit w s ≡ true
  unfolding dummies_fit
  ends-true e =
      rw (
        le-leb 2 (length w) e.two,
        eq-eqb (get_or w 0 0) 0 e.first,
        eq-eqb (get_or s 1 0) 0 e.root,
        eq-eqb (get_or w (length w - 1) 0) 0 e.last,
      ) refl

-- Tasks that can be written.

abbrev rows_of : ℕ → List Task → List Numbers
rows_of n xs = (n ∷ []) ∷ task_rows 0 xs

module _ (n : ℕ) (xs : List Task) (u : Writable n xs) where
  writable-plain : PlainRows (rows_text (rows_of n xs)) (rows_of n xs)
  writable-plain =
      rows-plain (rows_of n xs)
      ((omega (arith, u.last-number), tt), rows-have 0 xs (omega (arith, u.size, u.last-number)) u.times u.counts u.preds)

  writable-spells : Spells (rows_text (rows_of n xs)) (tables_of xs)
  writable-spells = go (plain_lines (rows_text (rows_of n xs)) (rows_of n xs) writable-plain)
    where
      go : (ls : List Line) × Lines (rows_text (rows_of n xs)) ls × Content ls (rows_of n xs) → Spells (rows_text (rows_of n xs)) (tables_of xs)
      go (ls, parted, content) = record {
        lines = ls;
        tasks = xs;
        parted = parted;
        keeps = record {
          rows = rows_of n xs;
          content = content;
          job = record { n = n; size = u.size; written = refl; first = u.first; last = u.last; root = u.root };
        };
        tables = refl;
      }

-- Tables that are saved_tasks.

module _ (w s p : List ℕ) (sound : Sound (graph_of (length w) s p)) (light : Light w) (fit : dummies_fit w s ≡ true) where
  abbrev saved_tasks : List Task
  saved_tasks = tasks_of (tables w s p)

  ends : Ends w s
  ends = true-ends w s fit

  good : (t : ℕ) → t < length w → Good (length w) s p t
  good = sound.good

  -- what holds of each task of the tables
  each-saved_tasks : (P : Task → Type 0) → ((t : ℕ) → t < length w → P (record { time = get_or w t 0; preds = part s p t })) → Each P saved_tasks
  each-saved_tasks P f =
      each_at P empty_task saved_tasks (λ t h.
      let l : t < length w = omega (arith, h, tasks-length (tables w s p)) in
      subst P (sym (task-at (tables w s p) t l)) (f t l))

  few : (t : ℕ) → t < length w → length (part s p t) ≤ 65535
  few t h = omega (arith, length_part (good t h), (good t h).inside, sound.sized.edges)

  small : (t : ℕ) → t < length w → Each (λ v. v ≤ 65535) (part s p t)
  small t h =
      each_at (λ v. v ≤ 65535) 0 (part s p t)
      (λ i l. omega (arith, (good t h).below (get_or (part s p t) i 0) (at-occ ℕ_discrete 0 (part s p t) i l), sound.sized.tasks))

  time-at : (t : ℕ) → t < length w → (get_or saved_tasks t empty_task).time ≡ get_or w t 0
  time-at t h = ap (λ (x : Task). x.time) (task-at (tables w s p) t h)

  saved_tasks-writable : Writable (length w - 2) saved_tasks
  saved_tasks-writable = record {
    size = omega (arith, tasks-length (tables w s p), ends.two);
    last-number = omega (arith, sound.sized.tasks);
    first = time-at 0 (omega (arith, ends.two)) ∙ ends.first;
    last = ap (λ (t : ℕ). (get_or saved_tasks t empty_task).time) place ∙ (time-at (length w - 1) (omega (arith, ends.two)) ∙ ends.last);
    root = ap (λ (x : Task). x.preds) (task-at (tables w s p) 0 some) ∙ no-members (part s p 0) none;
    times = each-saved_tasks (λ x. x.time ≤ 65535) light;
    counts = each-saved_tasks (λ x. length x.preds ≤ 65535) few;
    preds = each-saved_tasks (λ x. Each (λ v. v ≤ 65535) x.preds) small;
  }
    where
      some : 0 < length w
      some = omega (arith, ends.two)

      place : (length w - 2) + 1 ≡ length w - 1
      place = omega (arith, ends.two)

      none : length (part s p 0) ≡ 0
      none = omega (arith, length_part (good 0 some), ends.root)

  -- PROMISE: "single spaces between fields, LF after every line, no leading zeros, no comments"
  pub text-plain : Plain (text_of (tables w s p))
  unfolding text_of
  text-plain = record { rows = rows_of (length w - 2) saved_tasks; written = writable-plain (length w - 2) saved_tasks saved_tasks-writable }

  -- PROMISE: the text spells the tables, "predecessors in table order"
  pub text-spells : Spells (text_of (tables w s p)) (tables w s p)
  unfolding text_of
  text-spells = subst (Spells (text_of (tables w s p))) (tables-tasks w s p sound) (writable-spells (length w - 2) saved_tasks saved_tasks-writable)

-- Texts that are read.

writable-dummies : (n : ℕ) (xs : List Task) → Writable n xs → dummies_fit (tables_of xs).weights (tables_of xs).starts ≡ true
writable-dummies n xs u =
    ends-true (tables_of xs).weights (starts_of xs) (record {
      two = omega (arith, size);
      first = weight-at xs 0 (omega (arith, u.size)) ∙ u.first;
      root = omega (arith, start-next 0 xs 0 (omega (arith, u.size)), start_first 0 xs, ap length u.root);
      last = ap (λ (t : ℕ). get_or (tables_of xs).weights t 0) place ∙ (weight-at xs (n + 1) (omega (arith, u.size)) ∙ u.last);
    })
  where
    size : length (tables_of xs).weights ≡ n + 2
    size = weights-length xs ∙ u.size

    place : length (tables_of xs).weights - 1 ≡ n + 1
    place = omega (arith, size)

pub spelled-dummies : (text : List ℕ) (g : Tables) → Spells text g → dummies_fit g.weights g.starts ≡ true
spelled-dummies text g spells = go (spelled-writable text g spells)
  where
    go : (n : ℕ) × (xs : List Task) × Writable n xs × (g ≡ tables_of xs) → dummies_fit g.weights g.starts ≡ true
    go (n, xs, u, e) = subst (λ (h : Tables). dummies_fit h.weights h.starts ≡ true) (sym e) (writable-dummies n xs u)

-- what the reader accepts has the dummies
pub read-dummies : (text w s p : List ℕ) (g : Tables) → Accepts text w s p g → dummies_fit g.weights g.starts ≡ true
read-dummies text w s p g a = spelled-dummies text g ((accepted-iff text w s p g).0 a).1

-- and no weight beyond its limit
pub read-light : (text w s p : List ℕ) (g : Tables) → Accepts text w s p g → Light g.weights
read-light text w s p g a = go (spelled-writable text g ((accepted-iff text w s p g).0 a).1)
  where
    go : (n : ℕ) × (xs : List Task) × Writable n xs × (g ≡ tables_of xs) → Light g.weights
    go (n, xs, u, e) = subst (λ (h : Tables). Light h.weights) (sym e) (λ t l.
        let inside : t < length xs = omega (arith, l, weights-length xs) in
        rw (weight-at xs t inside) (at_each (λ x. x.time ≤ 65535) empty_task xs u.times t inside))
