-- The fields of a line: `row_of` gives their numbers, and `skipped` tells the lines that are skipped.
use Prim.Native.Nat.{ℕ, ◌+◌, ◌*◌, ◌≤◌, ◌<◌, ◌/◌, ◌%◌}
use mathlib.Core.Path.{◌≡◌, refl, sym, ap, ◌∙◌}
use mathlib.Core.Bool.{Bool, true, false, cond, ◌&&◌}
use mathlib.Core.Logic.{◌⊎◌, inl, inr}
use mathlib.Core.Option.{Option, none, some}
use mathlib.Core.List.{List, [], ◌∷◌, ◌++◌, append-nil}
use native.Mathlib.Omega.{arith}
use native.Mathlib.Nat.{div-add-mod', mod-lt}
use lib.ListN.{length}
use lib.Dec.{eqb, leb}
use borrow.Author.Tests.{eqb-true, eq-eqb, ne_eqb, leb-true, le-leb}
use Rattle.lists.proofs.Apart.{unequal, cons-not-nil, true-and-false}
use Rattle.lists.proofs.Appends.{some-members}
use Rattle.lists.proofs.Told.{and-true, or_left, or_right, or-true}
use Rattle.layout.specs.Marks.{lf, hash, space, tab, digit0, digit9, Blank, Digit, Each, Line, Numbers}
use Rattle.layout.specs.Layout.{NoLf, Skipped, decimal, Decimal, Parted, Reads}
use Rattle.layout.specs.Alike.{Run, Cut}
use Rattle.layout.specs.Reader.{grow, blank, digit, trim, skippable, skipped, parted, fields, digits, value_of, push, numbers_of, row_of}
use Rattle.layout.proofs.Each.{each_append, each_map}
use Rattle.layout.proofs.Pieces.{trim-blank, skipped-is, skipped-nil, skipped-blank, skipped-mark}
use Rattle.layout.proofs.Pieces.{fields-nil, fields-blank, fields-last, fields-mark, fields-run}

-- Bytes.

is-blank : (b : ℕ) → Blank b → blank b ≡ true
is-blank b (inl e) = or_left (eqb b space) (eqb b tab) (eq-eqb b space e)
is-blank b (inr e) = or_right (eqb b space) (eqb b tab) (eq-eqb b tab e)

pub blank-yes : (b : ℕ) → blank b ≡ true → Blank b
blank-yes b e = go (or-true (eqb b space) (eqb b tab) e)
  where
    go : (eqb b space ≡ true) ⊎ (eqb b tab ≡ true) → Blank b
    go (inl q) = inl (eqb-true b space q)
    go (inr q) = inr (eqb-true b tab q)

pub blank-no : (b : ℕ) → blank b ≡ false → ¬ (Blank b)
blank-no b e h = true-and-false (is-blank b h) e

pub no-blank : (b : ℕ) → ¬ (Blank b) → blank b ≡ false
no-blank b n = go (blank b) refl
  where
    go : (o : Bool) → blank b ≡ o → o ≡ false
    go true e = absurd (n (blank-yes b e))
    go false e = refl

pub digit-mark : (b : ℕ) → Digit b → ¬ (Blank b)
digit-mark b d (inl e) = omega arith
digit-mark b d (inr e) = omega arith

digit-free : (b : ℕ) → Digit b → ¬ (b ≡ lf)
digit-free b d e = omega (arith, d, e)

-- Blanks in front.

trim-blanks : (before s : List ℕ) → Each Blank before → trim (before ++ s) ≡ trim s
trim-blanks [] s h = refl
trim-blanks (b ∷ before) s (e, h) = trim-blank b (before ++ s) (is-blank b e) ∙ trim-blanks before s h

fields-blanks : (before s : List ℕ) → Each Blank before → fields (before ++ s) ≡ fields s
fields-blanks [] s h = refl
fields-blanks (b ∷ before) s (e, h) = fields-blank b (before ++ s) (is-blank b e) ∙ fields-blanks before s h

-- Skipped lines.

pub skipped-blanks : (before s : List ℕ) → Each Blank before → skipped (before ++ s) ≡ skipped s
skipped-blanks before s h = skipped-is (before ++ s) ∙ ap skippable (trim-blanks before s h) ∙ sym (skipped-is s)

-- a run of marks in front tells whether the line is skipped
pub skipped-run : (f rest : List ℕ) → ¬ (f ≡ []) → Each (λ b. ¬ (Blank b)) f → skipped (f ++ rest) ≡ skippable f
skipped-run [] rest n m = absurd (n refl)
skipped-run (b ∷ f) rest n (m, ms) = skipped-mark b (f ++ rest) (no-blank b m)

-- digits start no comment
pub digits-idle : (f : List ℕ) → Each Digit f → 1 ≤ length f → skippable f ≡ false
digits-idle [] e n = absurd (omega arith)
digits-idle (b ∷ f) (d, e) n = ne_eqb b hash (λ q. omega (arith, d, q))

pub skipped-yes : (c : Line) → skipped c ≡ true → Skipped c
skipped-yes [] e = inl tt
skipped-yes (b ∷ c) e = go (blank b) refl (skipped-yes c)
  where
    longer : Blank b → Skipped c → Skipped (b ∷ c)
    longer h (inl k) = inl (h, k)
    longer h (inr k) = inr (record { before = b ∷ k.before; after = k.after; whole = ap (b ∷◌) k.whole; blanks = (h, k.blanks) })

    go : (o : Bool) → blank b ≡ o → (skipped c ≡ true → Skipped c) → Skipped (b ∷ c)
    go true q h = longer (blank-yes b q) (h (sym (skipped-blank b c q) ∙ e))
    go false q h =
        let m : b ≡ hash = eqb-true b hash (sym (skipped-mark b c q) ∙ e) in
        inr (record { before = []; after = c; whole = ap (◌∷ c) m; blanks = tt })

pub is-skipped : (c : Line) → Skipped c → skipped c ≡ true
is-skipped [] (inl h) = skipped-nil
is-skipped (b ∷ c) (inl (e, h)) = skipped-blank b c (is-blank b e) ∙ is-skipped c (inl h)
is-skipped c (inr k) = ap skipped k.whole ∙ skipped-blanks k.before (hash ∷ k.after) k.blanks ∙ skipped-mark hash k.after refl

pub skipped-no : (c : Line) → skipped c ≡ false → ¬ (Skipped c)
skipped-no c e s = true-and-false (is-skipped c s) e

-- Fields as runs of marks.

parted-is : (s : List ℕ) → Parted s → parted s ≡ true
parted-is [] h = refl
parted-is (b ∷ s) h = is-blank b h

parted-yes : (s : List ℕ) → parted s ≡ true → Parted s
parted-yes [] e = tt
parted-yes (b ∷ s) e = blank-yes b e

-- a mark in front of a line that starts with one
cut-grow : (b : ℕ) (c : Line) (fs : List (List ℕ)) → ¬ (Blank b) → parted c ≡ false → Cut c fs → Cut (b ∷ c) (grow b fs)
cut-grow b [] fs n p k = true-and-false refl p
cut-grow b (x ∷ c) [] n p (h, k) = true-and-false (is-blank x h) p
cut-grow b (x ∷ c) (f ∷ fs) n p (rest, r, k) = go r.before r.whole r.blanks
  where
    go : (before : List ℕ) → x ∷ c ≡ before ++ (f ++ rest) → Each Blank before → Cut (b ∷ x ∷ c) ((b ∷ f) ∷ fs)
    go [] w h =
        (rest, record { before = []; whole = ap (b ∷◌) w; blanks = tt; marks = (n, r.marks); some = cons-not-nil b f; parted = r.parted }, k)
    go (y ∷ before) w (h, hs) =
        let same : x ≡ y = cc in
        true-and-false (is-blank x (rw same h)) p

cut-blank : (b : ℕ) (c : Line) (fs : List (List ℕ)) → Blank b → Cut c fs → Cut (b ∷ c) fs
cut-blank b c [] h k = (h, k)
cut-blank b c (f ∷ fs) h (rest, r, k) =
    (rest, run, k)
  where
    run : Run (b ∷ c) f rest
    run = record { before = b ∷ r.before; whole = ap (b ∷◌) r.whole; blanks = (h, r.blanks); marks = r.marks; some = r.some; parted = r.parted }

pub cut-fields : (c : Line) → Cut c (fields c)
cut-fields [] = rw fields-nil tt
cut-fields (b ∷ c) = go (blank b) refl (parted c) refl (cut-fields c)
  where
    go : (o : Bool) → blank b ≡ o → (q : Bool) → parted c ≡ q → Cut c (fields c) → Cut (b ∷ c) (fields (b ∷ c))
    go true e q p k = rw (fields-blank b c e) (cut-blank b c (fields c) (blank-yes b e) k)
    go false e true p k =
        rw (fields-last b c e p)
        (c, record { before = []; whole = refl; blanks = tt; marks = (blank-no b e, tt); some = cons-not-nil b []; parted = parted-yes c p }, k)
    go false e false p k = rw (fields-mark b c e p) (cut-grow b c (fields c) (blank-no b e) p k)

pub fields-cut : (c : Line) (fs : List (List ℕ)) → Cut c fs → fields c ≡ fs
fields-cut c [] k = ap fields (sym (append-nil c)) ∙ fields-blanks c [] k ∙ fields-nil
fields-cut c (f ∷ fs) (rest, r, k) =
    ap fields r.whole ∙ fields-blanks r.before (f ++ rest) r.blanks ∙ run f r.some r.marks ∙ ap (f ∷◌) (fields-cut rest fs k)
  where
    run : (g : List ℕ) → ¬ (g ≡ []) → Each (λ b. ¬ (Blank b)) g → fields (g ++ rest) ≡ g ∷ fields rest
    run [] n m = absurd (n refl)
    run (b ∷ g) n m = fields-run b g rest (each_map no-blank (b ∷ g) m) (parted-is rest r.parted)

-- Numbers.

digits-yes : (f : List ℕ) → digits f ≡ true → Each Digit f
unfolding digits
digits-yes [] e = tt
digits-yes (d ∷ f) e =
    let (h, k) = and-true (digit d) (digits f) e in
    let (low, high) = and-true (leb digit0 d) (leb d digit9) h in
    ((leb-true digit0 d low, leb-true d digit9 high), digits-yes f k)

pub is_digit : (b : ℕ) → Digit b → digit b ≡ true
is_digit b (low, high) = rw (le-leb digit0 b low) (le-leb b digit9 high)

pub is-digits : (f : List ℕ) → Each Digit f → digits f ≡ true
unfolding digits
is-digits [] h = refl
is-digits (b ∷ f) (d, h) = rw (is_digit b d) (is-digits f h)

-- the tests of a field's number
abbrev fits : List ℕ → Bool
fits f = digits f && (leb 1 (length f) && (leb (length f) 5 && leb (decimal f) 65535))

tested : (f : List ℕ) → value_of f ≡ cond (fits f) (some (decimal f)) none
unfolding value_of
tested f = refl

pub number_is : (f : List ℕ) (v : ℕ) → Decimal f v → value_of f ≡ some v
number_is f v d = tested f ∙ ap (λ o. cond o (some (decimal f)) none) yes ∙ ap some (sym d.value)
  where
    limit : decimal f ≤ 65535
    limit = omega (arith, d.value, d.limit)

    yes : fits f ≡ true
    yes = rw (is-digits f d.digits, le-leb 1 (length f) d.one, le-leb (length f) 5 d.five, le-leb (decimal f) 65535 limit)

pub number-yes : (f : List ℕ) (v : ℕ) → value_of f ≡ some v → Decimal f v
number-yes f v q = go (fits f) refl (sym (tested f) ∙ q)
  where
    go : (o : Bool) → fits f ≡ o → cond o (some (decimal f)) none ≡ some v → Decimal f v
    go false e q = unequal cc
    go true e q =
        let (a, a') = and-true (digits f) (leb 1 (length f) && (leb (length f) 5 && leb (decimal f) 65535)) e in
        let (b, b') = and-true (leb 1 (length f)) (leb (length f) 5 && leb (decimal f) 65535) a' in
        let (c, d) = and-true (leb (length f) 5) (leb (decimal f) 65535) b' in
        let same : v ≡ decimal f = cc in
        record {
          digits = digits-yes f a;
          one = leb-true 1 (length f) b;
          five = leb-true (length f) 5 c;
          value = same;
          limit = omega (arith, same, leb-true (decimal f) 65535 d);
        }

pub number-none : (f : List ℕ) → ((v : ℕ) → ¬ (Decimal f v)) → value_of f ≡ none
number-none f n = go (value_of f) refl
  where
    go : (o : Option ℕ) → value_of f ≡ o → o ≡ none
    go none e = refl
    go (some v) e = absurd (n v (number-yes f v e))

-- Rows.

cut-reads : (c : Line) (fs : List (List ℕ)) (row : Numbers) → Cut c fs → numbers_of fs ≡ some row → Reads c row
cut-reads c [] row k e = let none_left : row ≡ [] = cc in rw none_left k
cut-reads c (f ∷ fs) row (rest, r, k) e = go (value_of f) refl (numbers_of fs) refl e (λ later q. cut-reads rest fs later k q)
  where
    go : (o : Option ℕ) → value_of f ≡ o → (q : Option Numbers) → numbers_of fs ≡ q → push o q ≡ some row
        → ((later : Numbers) → numbers_of fs ≡ some later → Reads rest later) → Reads c row
    go none a q b w h = unequal cc
    go (some v) a none b w h = unequal cc
    go (some v) a (some later) b w h =
        let whole_row : row ≡ v ∷ later = cc in
        rw whole_row (
          rest,
          record { before = r.before; field = f; whole = r.whole; blanks = r.blanks; number = number-yes f v a; parted = r.parted },
          h later b,
        )

-- the line's fields, each with its number
record CutInto (c : Line) (row : Numbers) : Type 0 where
  fs : List (List ℕ)
  cut : Cut c fs
  numbers : numbers_of fs ≡ some row

reads-cut : (c : Line) (row : Numbers) → Reads c row → CutInto c row
reads-cut c [] h = record { fs = []; cut = h; numbers = refl }
reads-cut c (v ∷ row) (rest, x, h) = go (reads-cut rest row h)
  where
    go : CutInto rest row → CutInto c (v ∷ row)
    go k = record {
      fs = x.field ∷ k.fs;
      cut = (
        rest,
        record {
          before = x.before;
          whole = x.whole;
          blanks = x.blanks;
          marks = each_map digit-mark x.field x.number.digits;
          some = some-members x.field x.number.one;
          parted = x.parted;
        },
        k.cut,
      );
      numbers = rw (number_is x.field v x.number, k.numbers) refl;
    }

pub row_reads : (c : Line) (row : Numbers) → row_of c ≡ some row → Reads c row
unfolding row_of
row_reads c row e = cut-reads c (fields c) row (cut-fields c) e

pub reads-row : (c : Line) (row : Numbers) → Reads c row → row_of c ≡ some row
unfolding row_of
reads-row c row r = let k = reads-cut c row r in ap numbers_of (fields-cut c k.fs k.cut) ∙ k.numbers

pub reads-not-skipped : (c : Line) (v : ℕ) (row : Numbers) → Reads c (v ∷ row) → ¬ (Skipped c)
reads-not-skipped c v row (rest, x, h) =
    skipped-no c
    (ap skipped x.whole ∙ skipped-blanks x.before (x.field ++ rest) x.blanks
    ∙ skipped-run x.field rest (some-members x.field x.number.one) (each_map digit-mark x.field x.number.digits)
    ∙ digits-idle x.field x.number.digits x.number.one)

-- Every row is some line's.

record Tens (v : ℕ) : Type 0 where
  tens : ℕ
  ones : ℕ
  sum : v ≡ tens * 10 + ones
  small : ones < 10

tens-of : (v : ℕ) → Tens v
tens-of v = record { tens = v / 10; ones = v % 10; sum = sym (div-add-mod' v 10); small = mod-lt v (omega arith) }

five-value : (a b c d e : ℕ)
    → decimal ((digit0 + a) ∷ (digit0 + b) ∷ (digit0 + c) ∷ (digit0 + d) ∷ (digit0 + e) ∷ []) ≡ (((a * 10 + b) * 10 + c) * 10 + d) * 10 + e
five-value a b c d e = omega arith

-- five digits, the first ones zeros where need be
five-digits : (v : ℕ) → v ≤ 65535 → (f : List ℕ) × Decimal f v
five-digits v h =
    let a = tens-of v in
    let b = tens-of a.tens in
    let c = tens-of b.tens in
    let d = tens-of c.tens in (
      (digit0 + d.tens) ∷ (digit0 + d.ones) ∷ (digit0 + c.ones) ∷ (digit0 + b.ones) ∷ (digit0 + a.ones) ∷ [],
      record {
        digits = (omega arith, (omega arith, (omega arith, (omega arith, (omega arith, tt)))));
        one = omega arith;
        five = omega arith;
        value = omega (arith, five-value d.tens d.ones c.ones b.ones a.ones);
        limit = h;
      },
    )

-- a line of a row, which starts with a blank so that it may follow a field
record LineOf (row : Numbers) : Type 0 where
  line : Line
  reads : Reads line row
  free : NoLf line
  parted : Parted line

line_of : (row : Numbers) → Each (λ v. v ≤ 65535) row → LineOf row
line_of [] h = record { line = []; reads = tt; free = tt; parted = tt }
line_of (v ∷ row) (b, h) = go (five-digits v b) (line_of row h)
  where
    go : (f : List ℕ) × Decimal f v → LineOf row → LineOf (v ∷ row)
    go (f, d) l = record {
      line = space ∷ (f ++ l.line);
      reads = (l.line, record { before = space ∷ []; field = f; whole = refl; blanks = (inl refl, tt); number = d; parted = l.parted }, l.reads);
      free = (λ e. omega (arith, e), each_append (λ b. ¬ (b ≡ lf)) f l.line (each_map digit-free f d.digits) l.free);
      parted = inl refl;
    }

-- every row of numbers up to 65,535 is some line's
pub row_line : (row : Numbers) → Each (λ v. v ≤ 65535) row → (c : Line) × Reads c row × NoLf c
row_line row h = let l = line_of row h in (l.line, l.reads, l.free)
