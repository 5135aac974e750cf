-- Texts of the writer's form: they read as their rows, the definition's text has the form, and no other text of the form spells the same tables.
use Prim.Native.Nat.{ℕ, suc, ◌+◌, ◌-◌, ◌≤◌}
use mathlib.Core.Path.{◌≡◌, refl, sym, ap, subst, ◌∙◌}
use mathlib.Core.Logic.{◌⊎◌, inl, inr}
use mathlib.Core.List.{List, [], ◌∷◌, ◌++◌, append-nil, append_assoc}
use native.Mathlib.Omega.{arith}
use native.Mathlib.Decide.{dec_le}
use lib.ListN.{length, get_or, replicate}
use Rattle.lists.proofs.Decided.{stable}
use Rattle.layout.specs.Marks.{lf, cr, space, digit0, Each, Line, Numbers}
use Rattle.layout.specs.Digits.{digits_of}
use Rattle.layout.specs.Tasks.{Tables}
use Rattle.layout.specs.Layout.{NoLf, Lines, Skipped, Decimal, Reads, Content, Spells}
use Rattle.layout.specs.Plain.{NoZeros, PlainLine, PlainRows, Plain, spaced, line_text, rows_text}
use Rattle.layout.proofs.Each.{each-inside, each_map}
use Rattle.layout.proofs.Digits.{digits-few, spelled}
use Rattle.layout.proofs.Lines.{lines_same}
use Rattle.layout.proofs.Fields.{reads-not-skipped}
use Rattle.layout.proofs.Contents.{content-unique}
use Rattle.layout.proofs.Begins.{HasLine}
use Rattle.layout.proofs.Decimals.{zeros-before}
use Rattle.layout.proofs.Same.{same_rows}
use Rattle.layout.proofs.Texts.{read-bytes}

-- A plain line reads its row.

-- a space in front of a line with a field
space-reads : (c : Line) (v : ℕ) (row : Numbers) → Reads c (v ∷ row) → Reads (space ∷ c) (v ∷ row)
space-reads c v row (rest, x, h) = (
  rest,
  record {
    before = space ∷ x.before;
    field = x.field;
    whole = ap (space ∷◌) x.whole;
    blanks = (inl refl, x.blanks);
    number = x.number;
    parted = x.parted;
  },
  h,
)

pub plain-reads : (c : Line) (row : Numbers) → PlainLine c row → Reads c row
plain-reads c [] h = absurd h
plain-reads c (v ∷ []) (d, z) =
    ([], record { before = []; field = c; whole = sym (append-nil c); blanks = tt; number = d; parted = tt }, tt)
plain-reads c (v ∷ w ∷ row) (f, rest, e, (d, z), h) = (
  space ∷ rest,
  record { before = []; field = f; whole = e; blanks = tt; number = d; parted = inl refl },
  space-reads rest w row (plain-reads rest (w ∷ row) h),
)

pub plain-not-skipped : (c : Line) (row : Numbers) → PlainLine c row → ¬ (Skipped c)
plain-not-skipped c [] h = absurd h
plain-not-skipped c (v ∷ row) h = reads-not-skipped c v row (plain-reads c (v ∷ row) h)

-- a byte of a line that is read ends no line
no_end : (b : ℕ) → (b ≡ 9) ⊎ ((b ≡ 32) ⊎ ((48 ≤ b) × (b ≤ 57))) → ¬ (b ≡ lf) × ¬ (b ≡ cr)
no_end b (inl e) = (λ q. omega (arith, e, q), λ q. omega (arith, e, q))
no_end b (inr (inl e)) = (λ q. omega (arith, e, q), λ q. omega (arith, e, q))
no_end b (inr (inr h)) = (λ q. omega (arith, h, q), λ q. omega (arith, h, q))

plain-inside : (c : Line) (row : Numbers) → PlainLine c row → Each (λ b. ¬ (b ≡ lf) × ¬ (b ≡ cr)) c
plain-inside c row h = each_map no_end c (read-bytes c row (plain-reads c row h))

pub plain-free : (c : Line) (row : Numbers) → PlainLine c row → NoLf c
plain-free c row h = each_map (λ b k. k.0) c (plain-inside c row h)

pub plain-last : (c : Line) (row : Numbers) → PlainLine c row → (d : List ℕ) → ¬ (c ≡ d ++ (cr ∷ []))
plain-last c row h d e =
    (each-inside (λ b. ¬ (b ≡ lf) × ¬ (b ≡ cr)) d cr [] (subst (Each (λ b. ¬ (b ≡ lf) × ¬ (b ≡ cr))) e (plain-inside c row h))).1 refl

-- a text's lines, and its rows as theirs
pub plain_lines : (text : List ℕ) (rows : List Numbers) → PlainRows text rows → (ls : List Line) × Lines text ls × Content ls rows
plain_lines text [] h = ([], h, refl)
plain_lines text (row ∷ rows) (c, rest, e, l, h) =
    let (ls, parted, content) = plain_lines rest rows h in (
      c ∷ ls,
      (plain-free c row l, inl (rest, record { ending = lf ∷ []; whole = e; end = inr (refl, plain-last c row l) }, parted)),
      inr (plain-not-skipped c row l, plain-reads c row l, content),
    )

-- The definition's text is plain.

pub number-plain : (v : ℕ) → v ≤ 65535 → Decimal (digits_of v) v × NoZeros (digits_of v)
number-plain v h =
    let s = spelled v in
    (record { digits = s.digits; one = s.one; five = digits-few 4 v (omega (arith, h)); value = sym s.value; limit = h }, s.short)

-- a line without its LF
unfoldable pub line_bytes : Numbers → Line
line_bytes [] = []
line_bytes (v ∷ row) = digits_of v ++ spaced row

-- the line of a row with a number, each up to 65,535
pub line_plain : (row : Numbers) → HasLine row → PlainLine (line_bytes row) row
unfolding line_bytes spaced
line_plain [] h = absurd h
line_plain (v ∷ []) (h, hs) = subst (λ (c : Line). Decimal c v × NoZeros c) (sym (append-nil (digits_of v))) (number-plain v h)
line_plain (v ∷ w ∷ row) (h, hs) = (digits_of v, digits_of w ++ spaced row, refl, number-plain v h, line_plain (w ∷ row) hs)

line-bytes : (row : Numbers) → line_text row ≡ line_bytes row ++ (lf ∷ [])
unfolding line_bytes line_text
line-bytes [] = refl
line-bytes (v ∷ row) = sym (append_assoc (digits_of v) (spaced row) (lf ∷ []))

pub rows-plain : (rows : List Numbers) → Each HasLine rows → PlainRows (rows_text rows) rows
unfolding rows_text
rows-plain [] h = refl
rows-plain (row ∷ rows) (h, hs) = (
  line_bytes row,
  rows_text rows,
  ap (◌++ rows_text rows) (line-bytes row) ∙ append_assoc (line_bytes row) (lf ∷ []) (rows_text rows),
  line_plain row h,
  rows-plain rows hs,
)

-- No other text has the same rows.

-- a field without zeros in front is no longer than another of the same number
no_longer : (f g : List ℕ) (v : ℕ) → Decimal f v → Decimal g v → NoZeros g → length g ≤ length f
no_longer f g v x y z = stable (dec_le (length g) (length f)) (λ n. go (length g - suc (length f)) (omega (arith, n)))
  where
    go : (k : ℕ) → length g ≡ suc k + length f → ⊥
    go k e = z (omega (arith, e, x.one)) (ap (λ (l : List ℕ). get_or l 0 0) zeros)
      where
        zeros : g ≡ digit0 ∷ (replicate k digit0 ++ f)
        zeros = (zeros-before f x.digits (suc k) g 0 y.digits e (sym y.value ∙ x.value)).1

pub field-one : (f g : List ℕ) (v : ℕ) → Decimal f v × NoZeros f → Decimal g v × NoZeros g → f ≡ g
field-one f g v (x, p) (y, q) = (zeros-before g y.digits 0 f 0 x.digits same (sym x.value ∙ y.value)).1
  where
    same : length f ≡ 0 + length g
    same = omega (arith, no_longer f g v x y q, no_longer g f v y x p)

pub line-one : (c d : Line) (row : Numbers) → PlainLine c row → PlainLine d row → c ≡ d
line-one c d [] h k = absurd h
line-one c d (v ∷ []) h k = field-one c d v h k
line-one c d (v ∷ w ∷ row) (f, rest, e, h, hs) (g, other, q, k, ks) =
    let first : f ≡ g = field-one f g v h k in
    let later : rest ≡ other = line-one rest other (w ∷ row) hs ks in
    e ∙ (ap (◌++ (space ∷ rest)) first ∙ ap (λ (l : List ℕ). g ++ (space ∷ l)) later) ∙ sym q

pub rows-one : (text other : List ℕ) (rows : List Numbers) → PlainRows text rows → PlainRows other rows → text ≡ other
rows-one text other [] h k = h ∙ sym k
rows-one text other (row ∷ rows) (c, rest, e, l, h) (d, later, q, m, k) =
    e ∙ (ap (◌++ (lf ∷ rest)) (line-one c d row l m) ∙ ap (λ (t : List ℕ). d ++ (lf ∷ t)) (rows-one rest later rows h k)) ∙ sym q

-- a plain text that spells a graph has the graph's rows
plain_rows : (text : List ℕ) (g : Tables) (p : Plain text) (s : Spells text g) → p.rows ≡ s.keeps.rows
plain_rows text g p s = go (plain_lines text p.rows p.written)
  where
    go : (ls : List Line) × Lines text ls × Content ls p.rows → p.rows ≡ s.keeps.rows
    go (ls, parted, content) =
        content-unique s.lines p.rows s.keeps.rows
        (subst (λ (l : List Line). Content l p.rows) (lines_same text ls s.lines parted s.parted) content) s.keeps.content

-- PROMISE: given tables are spelled by one plain text alone
pub plain-one : (text other : List ℕ) (g : Tables) → Plain text → Spells text g → Plain other → Spells other g → text ≡ other
plain-one text other g p s q r =
    rows-one text other q.rows (subst (PlainRows text) rows p.written) q.written
  where
    rows : p.rows ≡ q.rows
    rows = plain_rows text g p s ∙ same_rows text other g s r ∙ sym (plain_rows other g q r)
