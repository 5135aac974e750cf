-- The graphs that have a text are those whose numbers fields can have; which bytes lines that are read, and skipped ones, hold.
use Prim.Native.Nat.{ℕ, suc, ◌+◌, ◌≤◌, ◌<◌}
use mathlib.Core.Path.{◌≡◌, refl, subst, sym}
use mathlib.Core.Logic.{◌⊎◌, inl, inr, ◌↔◌}
use mathlib.Core.List.{List, [], ◌∷◌, ◌++◌}
use native.Mathlib.Omega.{arith}
use lib.ListN.{length}
use Rattle.layout.specs.Marks.{Blank, Digit, Each, Line, Numbers}
use Rattle.layout.specs.Tasks.{Task, Tables, tables_of}
use Rattle.layout.specs.Layout.{NoLf, Skipped, Content, Reads, task_rows, Job, Spells}
use Rattle.layout.specs.Tables.{Writable}
use Rattle.layout.proofs.Each.{each_append, each_map}
use Rattle.layout.proofs.Lines.{join_lines, lines-joined}
use Rattle.layout.proofs.Begins.{HasLine, row-lines}

-- the rows of tasks whose numbers fields can have
pub rows-have : (t : ℕ) (xs : List Task) → t + length xs ≤ 65536 → Each (λ x. x.time ≤ 65535) xs → Each (λ x. length x.preds ≤ 65535) xs
    → Each (λ x. Each (λ v. v ≤ 65535) x.preds) xs → Each HasLine (task_rows t xs)
rows-have t [] h times counts preds = tt
rows-have t (x ∷ xs) h (a, times) (b, counts) (c, preds) = ((omega arith, (a, (b, c))), rows-have (suc t) xs (omega arith) times counts preds)

-- every graph that can be written has a text
pub graph-has-text : (n : ℕ) (xs : List Task) → Writable n xs → (text : List ℕ) × Spells text (tables_of xs)
graph-has-text n xs w =
    go (row-lines ((n ∷ []) ∷ task_rows 0 xs) ((omega (arith, w.last-number), tt), rows-have 0 xs (omega (arith, w.size, w.last-number)) w.times w.counts w.preds))
  where
    go : (ms : List Line) × Each NoLf ms × Content ms ((n ∷ []) ∷ task_rows 0 xs) → (text : List ℕ) × Spells text (tables_of xs)
    go (ms, free, c) = (
      join_lines ms,
      record {
        lines = ms;
        tasks = xs;
        parted = lines-joined ms free;
        keeps = record {
          rows = (n ∷ []) ∷ task_rows 0 xs;
          content = c;
          job = record { n = n; size = w.size; written = refl; first = w.first; last = w.last; root = w.root };
        };
        tables = refl;
      },
    )

-- Numbers that are read are small.

abbrev Small : Numbers → Type 0
Small row = Each (λ v. v ≤ 65535) row

read_small : (c : Line) (row : Numbers) → Reads c row → Small row
read_small c [] h = tt
read_small c (v ∷ row) (rest, f, h) = (f.number.limit, read_small rest row h)

rows-small : (ls : List Line) (rows : List Numbers) → Content ls rows → Each Small rows
rows-small [] rows h = rw h tt
rows-small (c ∷ ls) [] h = tt
rows-small (c ∷ ls) (row ∷ rows) (inl h) = rows-small ls (row ∷ rows) h.1
rows-small (c ∷ ls) (row ∷ rows) (inr h) = (read_small c row h.1, rows-small ls rows h.2)

numbers-small : (t : ℕ) (xs : List Task) → 0 < length xs → Each Small (task_rows t xs) → t + length xs ≤ 65536
numbers-small t [] h s = absurd (omega (arith, h))
numbers-small t (x ∷ []) h ((a, s), ss) = omega (arith, a)
numbers-small t (x ∷ y ∷ xs) h (s, ss) = omega (arith, numbers-small (suc t) (y ∷ xs) (omega arith) ss)

times-small : (t : ℕ) (xs : List Task) → Each Small (task_rows t xs) → Each (λ x. x.time ≤ 65535) xs
times-small t [] s = tt
times-small t (x ∷ xs) ((a, (b, s)), ss) = (b, times-small (suc t) xs ss)

counts-small : (t : ℕ) (xs : List Task) → Each Small (task_rows t xs) → Each (λ x. length x.preds ≤ 65535) xs
counts-small t [] s = tt
counts-small t (x ∷ xs) ((a, (b, (c, s))), ss) = (c, counts-small (suc t) xs ss)

preds-small : (t : ℕ) (xs : List Task) → Each Small (task_rows t xs) → Each (λ x. Small x.preds) xs
preds-small t [] s = tt
preds-small t (x ∷ xs) ((a, (b, (c, s))), ss) = (s, preds-small (suc t) xs ss)

-- and no other has one
pub spelled-writable : (text : List ℕ) (g : Tables) → Spells text g → (n : ℕ) × (xs : List Task) × Writable n xs × (g ≡ tables_of xs)
spelled-writable text g sp = (j.n, sp.tasks, writable, sp.tables)
  where
    j : Job sp.keeps.rows sp.tasks
    j = sp.keeps.job

    small : Each Small (task_rows 0 sp.tasks)
    small = (subst (Each Small) j.written (rows-small sp.lines sp.keeps.rows sp.keeps.content)).1

    writable : Writable j.n sp.tasks
    writable = record {
      size = j.size;
      last-number = omega (arith, numbers-small 0 sp.tasks (omega (arith, j.size)) small, j.size);
      first = j.first;
      last = j.last;
      root = j.root;
      times = times-small 0 sp.tasks small;
      counts = counts-small 0 sp.tasks small;
      preds = preds-small 0 sp.tasks small;
    }

-- Bytes.

-- a tab, a space or a digit
abbrev Readable : ℕ → Type 0
Readable b = (b ≡ 9) ⊎ ((b ≡ 32) ⊎ ((48 ≤ b) × (b ≤ 57)))

readable-blank : (b : ℕ) → Blank b → Readable b
readable-blank b (inl e) = inr (inl e)
readable-blank b (inr e) = inl e

readable-digit : (b : ℕ) → Digit b → Readable b
readable-digit b d = inr (inr d)

-- bytes other than these are in no line that is read
pub read-bytes : (c : Line) (row : Numbers) → Reads c row → Each (λ b. (b ≡ 9) ⊎ ((b ≡ 32) ⊎ ((48 ≤ b) × (b ≤ 57)))) c
read-bytes c [] h = each_map readable-blank c h
read-bytes c (v ∷ row) (rest, f, h) =
    subst (Each Readable) (sym f.whole)
    (each_append Readable f.before (f.field ++ rest) (each_map readable-blank f.before f.blanks)
    (each_append Readable f.field rest (each_map readable-digit f.field f.number.digits) (read-bytes rest row h)))

-- a tab or a space
abbrev White : ℕ → Type 0
White b = (b ≡ 9) ⊎ (b ≡ 32)

white-blank : (b : ℕ) → Blank b → White b
white-blank b (inl e) = inr e
white-blank b (inr e) = inl e

blank-white : (b : ℕ) → White b → Blank b
blank-white b (inl e) = inr e
blank-white b (inr e) = inl e

-- the lines that are skipped: white space, and then nothing or # and anything
pub skipped-bytes : (c : Line)
    → Skipped c ↔ (Each (λ b. (b ≡ 9) ⊎ (b ≡ 32)) c ⊎ ((a : List ℕ) × (z : List ℕ) × (c ≡ a ++ (35 ∷ z)) × Each (λ b. (b ≡ 9) ⊎ (b ≡ 32)) a))
skipped-bytes c = (forth, back)
  where
    forth : Skipped c → Each White c ⊎ ((a : List ℕ) × (z : List ℕ) × (c ≡ a ++ (35 ∷ z)) × Each White a)
    forth (inl h) = inl (each_map white-blank c h)
    forth (inr h) = inr (h.before, h.after, h.whole, each_map white-blank h.before h.blanks)

    back : Each White c ⊎ ((a : List ℕ) × (z : List ℕ) × (c ≡ a ++ (35 ∷ z)) × Each White a) → Skipped c
    back (inl h) = inl (each_map blank-white c h)
    back (inr (a, z, e, h)) = inr (record { before = a; after = z; whole = e; blanks = each_map blank-white a h })
