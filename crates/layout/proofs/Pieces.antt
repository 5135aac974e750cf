-- How a text falls into lines, and a line into fields: one law for each case of the definitions.
use Prim.Native.Nat.{ℕ, suc, ◌≤◌}
use mathlib.Core.Path.{◌≡◌, refl, sym, ap, ◌∙◌}
use mathlib.Core.Bool.{Bool, true, false, ◌&&◌}
use mathlib.Core.Option.{some}
use mathlib.Core.List.{List, [], ◌∷◌, ◌++◌}
use native.Mathlib.Omega.{arith}
use lib.ListN.{length}
use lib.Dec.{eqb}
use Rattle.lists.proofs.Told.{and-true}
use Rattle.layout.specs.Marks.{lf, cr, hash, Each, Line}
use Rattle.layout.specs.Reader.{starts_lf, grow, lines, blank, trim, skippable, skipped, parted, fields, row_of, push, value_of}
use Rattle.layout.specs.Scan.{line_of, after_line}

-- Lines.

module _ (b : ℕ) (s : List ℕ) where
  pub after-lf : eqb b lf ≡ true → after_line (b ∷ s) ≡ s
  unfolding after_line
  after-lf e = rw e refl

  pub after-other : eqb b lf ≡ false → after_line (b ∷ s) ≡ after_line s
  unfolding after_line
  after-other e = rw e refl

  pub line-lf : eqb b lf ≡ true → line_of (b ∷ s) ≡ []
  unfolding line_of
  line-lf e = rw e refl

  pub line-crlf : (eqb b cr && starts_lf s) ≡ true → line_of (b ∷ s) ≡ []
  unfolding line_of
  line-crlf e = go (eqb b lf) refl
    where
      go : (o : Bool) → eqb b lf ≡ o → line_of (b ∷ s) ≡ []
      go true h = rw h refl
      go false h = rw (h, e) refl

  pub line_other : eqb b lf ≡ false → (eqb b cr && starts_lf s) ≡ false → line_of (b ∷ s) ≡ b ∷ line_of s
  unfolding line_of
  line_other e f = rw (e, f) refl

pub after-nil : after_line [] ≡ []
unfolding after_line
after-nil = refl

pub line-nil : line_of [] ≡ []
unfolding line_of
line-nil = refl

after-short : (s : List ℕ) → length (after_line s) ≤ length s
after-short [] = rw after-nil (omega arith)
after-short (b ∷ s) = go (eqb b lf) refl (after-short s)
  where
    go : (o : Bool) → eqb b lf ≡ o → length (after_line s) ≤ length s → length (after_line (b ∷ s)) ≤ suc (length s)
    go true e h = rw (after-lf b s e) (omega arith)
    go false e h = rw (after-other b s e) (omega (arith, h))

-- the first line takes at least one byte
pub after-shorter : (b : ℕ) (s : List ℕ) → length (after_line (b ∷ s)) ≤ length s
after-shorter b s = go (eqb b lf) refl
  where
    go : (o : Bool) → eqb b lf ≡ o → length (after_line (b ∷ s)) ≤ length s
    go true e = rw (after-lf b s e) (omega arith)
    go false e = rw (after-other b s e) (after-short s)

module _ (b : ℕ) (s : List ℕ) where
  pub lines-lf : eqb b lf ≡ true → lines (b ∷ s) ≡ [] ∷ lines s
  unfolding lines
  lines-lf e = rw e refl

  pub lines-cr : eqb b lf ≡ false → (eqb b cr && starts_lf s) ≡ true → lines (b ∷ s) ≡ lines s
  unfolding lines
  lines-cr e f = rw (e, f) refl

  pub lines_other : eqb b lf ≡ false → (eqb b cr && starts_lf s) ≡ false → lines (b ∷ s) ≡ grow b (lines s)
  unfolding lines
  lines_other e f = rw (e, f) refl

pub lines-nil : lines [] ≡ []
unfolding lines
lines-nil = refl

-- the first line and the lines of the rest, where a step is known for every rest
module _ (b : ℕ) (s : List ℕ) (grown : grow b (lines s) ≡ (b ∷ line_of s) ∷ lines (after_line s))
    (closed : starts_lf s ≡ true → lines s ≡ [] ∷ lines (after_line s)) where
  step : (o : Bool) → eqb b lf ≡ o → (q : Bool) → (eqb b cr && starts_lf s) ≡ q → lines (b ∷ s) ≡ line_of (b ∷ s) ∷ lines (after_line (b ∷ s))
  step true e q f = rw (lines-lf b s e, line-lf b s e, after-lf b s e) refl
  step false e true f = rw (lines-cr b s e f, line-crlf b s f, after-other b s e) (closed (and-true (eqb b cr) (starts_lf s) f).1)
  step false e false f = rw (lines_other b s e f, line_other b s e f, after-other b s e) grown

-- the first line, then the lines of the rest
pub lines_step : (b : ℕ) (s : List ℕ) → lines (b ∷ s) ≡ line_of (b ∷ s) ∷ lines (after_line (b ∷ s))
lines_step b [] = step b [] (rw (lines-nil, line-nil, after-nil, lines-nil) refl) (λ e. cc) (eqb b lf) refl (eqb b cr && false) refl
lines_step b (c ∷ s) =
    step b (c ∷ s) (rw (lines_step c s) refl) (λ e. lines_step c s ∙ rw (line-lf c s e) refl) (eqb b lf) refl (eqb b cr && eqb c lf) refl

-- Fields.

module _ (b : ℕ) (c : List ℕ) where
  pub trim-blank : blank b ≡ true → trim (b ∷ c) ≡ trim c
  unfolding trim
  trim-blank e = rw e refl

  pub trim-mark : blank b ≡ false → trim (b ∷ c) ≡ b ∷ c
  unfolding trim
  trim-mark e = rw e refl

  pub fields-blank : blank b ≡ true → fields (b ∷ c) ≡ fields c
  unfolding fields
  fields-blank e = rw e refl

  pub fields-last : blank b ≡ false → parted c ≡ true → fields (b ∷ c) ≡ (b ∷ []) ∷ fields c
  unfolding fields
  fields-last e f = rw (e, f) refl

  pub fields-mark : blank b ≡ false → parted c ≡ false → fields (b ∷ c) ≡ grow b (fields c)
  unfolding fields
  fields-mark e f = rw (e, f) refl

pub trim-nil : trim [] ≡ []
unfolding trim
trim-nil = refl

pub fields-nil : fields [] ≡ []
unfolding fields
fields-nil = refl

pub skipped-is : (c : Line) → skipped c ≡ skippable (trim c)
unfolding skipped
skipped-is c = refl

pub skipped-nil : skipped [] ≡ true
skipped-nil = skipped-is [] ∙ ap skippable trim-nil

module _ (b : ℕ) (c : Line) where
  pub skipped-blank : blank b ≡ true → skipped (b ∷ c) ≡ skipped c
  skipped-blank e = skipped-is (b ∷ c) ∙ ap skippable (trim-blank b c e) ∙ sym (skipped-is c)

  pub skipped-mark : blank b ≡ false → skipped (b ∷ c) ≡ eqb b hash
  skipped-mark e = skipped-is (b ∷ c) ∙ ap skippable (trim-mark b c e)

-- blanks before a line change no field
fields-trim : (c : List ℕ) → fields (trim c) ≡ fields c
fields-trim [] = rw trim-nil refl
fields-trim (b ∷ c) = go (blank b) refl (fields-trim c)
  where
    go : (o : Bool) → blank b ≡ o → fields (trim c) ≡ fields c → fields (trim (b ∷ c)) ≡ fields (b ∷ c)
    go true e h = rw (trim-blank b c e, fields-blank b c e) h
    go false e h = rw (trim-mark b c e) refl

pub row-trim : (c : List ℕ) → row_of (trim c) ≡ row_of c
unfolding row_of
row-trim c = rw (fields-trim c) refl

-- a run of marks is a field where a blank or the line's end follows
pub fields-run : (b : ℕ) (f rest : List ℕ) → Each (λ m. blank m ≡ false) (b ∷ f) → parted rest ≡ true → fields ((b ∷ f) ++ rest) ≡ (b ∷ f) ∷ fields rest
fields-run b [] rest (m, ms) p = fields-last b rest m p
fields-run b (d ∷ f) rest (m, ms) p = rw (fields-mark b ((d ∷ f) ++ rest) m ms.0, fields-run d f rest ms p) refl

pub row-nil : row_of [] ≡ some []
unfolding row_of
row-nil = rw fields-nil refl

pub row-run : (b : ℕ) (f rest : List ℕ) → Each (λ m. blank m ≡ false) (b ∷ f) → parted rest ≡ true
    → row_of ((b ∷ f) ++ rest) ≡ push (value_of (b ∷ f)) (row_of rest)
unfolding row_of
row-run b f rest m p = rw (fields-run b f rest m p) refl
