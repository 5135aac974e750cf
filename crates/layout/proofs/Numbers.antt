-- The first field of a line at a place of a text, and the number that its digits are.
use Prim.Native.Nat.{ℕ, zero, suc, ◌+◌, ◌*◌, ◌-◌, ◌≤◌, ◌<◌, min}
use mathlib.Core.Path.{◌≡◌, refl, sym, ap, ◌∙◌}
use mathlib.Core.Bool.{Bool, true, false, not, ◌||◌}
use mathlib.Core.Option.{Option, none, some}
use mathlib.Core.Logic.{◌⊎◌, inl, inr}
use mathlib.Core.List.{List, [], ◌∷◌, ◌++◌, append_assoc}
use native.Mathlib.Omega.{arith}
use native.Mathlib.Decide.{dec_lt}
use lib.ListN.{length, get_or, length-append}
use lib.Dec.{eqb, leb, ltb}
use borrow.Author.Tests.{lt-leb, eqb-true, eqb-false, ltb-true, ltb-false, not-true, not-false}
use Rattle.lists.proofs.Apart.{unequal, true-and-false}
use Rattle.lists.proofs.Told.{and-false, or-true, or-false}
use Rattle.layout.specs.Marks.{digit0, digit9, Digit, Each, Numbers}
use Rattle.layout.specs.Layout.{decimal_from, decimal}
use Rattle.layout.specs.Reader.{blank, digit, parted, row_of, push, value_of}
use Rattle.layout.specs.Scan.{line_at, row_at, rest_at, prepend, NoField, Marked, Trimmed, EndsAt, ends, goes_on}
use Rattle.layout.specs.Scan.{Closes, closes, stays_open, Found, found, missing}
use Rattle.layout.proofs.Each.{each_append, each-inside, each_map}
use Rattle.layout.proofs.Pieces.{row-nil, row-run}
use Rattle.layout.proofs.Fields.{blank-no, no-blank, digit-mark, is_digit, number_is, number-none, row_reads}
use Rattle.layout.proofs.Places.{Stands, line-here, other-rest, plain-line, end_line, trimmed-marked, trimmed-row}

-- a byte that is no digit, and one that is, as the code tests it
odd_byte : (b : ℕ) → (ltb b digit0 || ltb digit9 b) ≡ true → digit b ≡ false
odd_byte b e = go (or-true (ltb b digit0) (ltb digit9 b) e)
  where
    go : (ltb b digit0 ≡ true) ⊎ (ltb digit9 b ≡ true) → digit b ≡ false
    go (inl q) = rw (lt-leb digit0 b (ltb-true b digit0 q)) refl
    go (inr q) = and-false (leb digit0 b) (leb b digit9) (λ w. lt-leb b digit9 (ltb-true digit9 b q))

pub digit-byte : (b : ℕ) → (ltb b digit0 || ltb digit9 b) ≡ false → Digit b
digit-byte b e =
    let w : (ltb b digit0 ≡ false) × (ltb digit9 b ≡ false) = or-false (ltb b digit0) (ltb digit9 b) e in
    (ltb-false b digit0 w.0, ltb-false digit9 b w.1)

-- a line's first marks, up to a blank or its end
record Split (c : List ℕ) : Type 0 where
  run : List ℕ
  rest : List ℕ
  whole : c ≡ run ++ rest
  marks : Each (λ m. blank m ≡ false) run
  ends : parted rest ≡ true

split : (c : List ℕ) → Split c
split [] = record { run = []; rest = []; whole = refl; marks = tt; ends = refl }
split (b ∷ c) = go (blank b) refl (split c)
  where
    go : (o : Bool) → blank b ≡ o → Split c → Split (b ∷ c)
    go true e s = record { run = []; rest = b ∷ c; whole = refl; marks = tt; ends = e }
    go false e s = record { run = b ∷ s.run; rest = s.rest; whole = ap (λ (k : List ℕ). b ∷ k) s.whole; marks = (e, s.marks); ends = s.ends }

row_first : (f rest : List ℕ) → 1 ≤ length f → Each (λ m. blank m ≡ false) f → parted rest ≡ true → row_of (f ++ rest) ≡ push (value_of f) (row_of rest)
row_first [] rest h m p = absurd (omega arith)
row_first (b ∷ f) rest h m p = row-run b f rest m p

push-one : (v : ℕ) (r : Option Numbers) → push (some v) r ≡ prepend (v ∷ []) r
push-one v none = refl
push-one v (some row) = refl

-- a line that starts with a mark has a field
marked_row : (c : List ℕ) → Marked c → ¬ (c ≡ []) → ¬ (row_of c ≡ some [])
marked_row [] m n e = n refl
marked_row (b ∷ c) m n e = blank-no b m (row_reads (b ∷ c) [] e).0

pub closing : (text : List ℕ) (at p : ℕ) (closed : Bool) (n : ℕ) → Trimmed text at p → EndsAt text p closed n → Closes text at closed n
closing text at p closed n w (ends e q r) =
    closes e (trimmed-row text at p w ∙ ap row_of q ∙ row-nil) record { inside = r.inside; rest = r.rest ∙ w.rest }
closing text at p closed n w (goes_on e q) =
    stays_open e (λ s. marked_row (line_at text p) (trimmed-marked text at p w) q (sym (trimmed-row text at p w) ∙ s))

-- Numbers.

pub finding : (text : List ℕ) (at p v n : ℕ) → Trimmed text at p → Found text p v n → Found text at v n
finding text at p v n w (found l m) =
    found l record { inside = m.inside; row = trimmed-row text at p w ∙ m.row; rest = m.rest ∙ w.rest }
finding text at p v n w (missing l m) = missing l (λ u row e. m u row (sym (trimmed-row text at p w) ∙ e))

digit-plain : (b : ℕ) → Digit b → blank b ≡ false
digit-plain b d = no-blank b (digit-mark b d)

module _ (f : List ℕ) where
  number-long : 5 < length f → value_of f ≡ none
  number-long h = number-none f (λ v d. omega (arith, h, d.five))

  number-large : 65535 < decimal f → value_of f ≡ none
  number-large h = number-none f (λ v d. omega (arith, h, d.value, d.limit))

  number-odd : (m : ℕ) (g : List ℕ) → digit m ≡ false → value_of (f ++ (m ∷ g)) ≡ none
  number-odd m g h = number-none (f ++ (m ∷ g)) (λ v d. true-and-false (is_digit m (each-inside Digit f m g d.digits)) h)

-- the line starts with no digit
abbrev pub NoDigit : List ℕ → Type 0
NoDigit [] = Unit {0}
NoDigit (b ∷ c) = digit b ≡ false

-- no digit more is read
abbrev pub Stopped : List ℕ → List ℕ → Type 0
Stopped ds c = (5 ≤ length ds) ⊎ NoDigit c

none-field : (r : Option Numbers) → r ≡ none → NoField r
none-field r e v row q = unequal cc

nil-field : (r : Option Numbers) → r ≡ some [] → NoField r
nil-field r e v row q = unequal cc

-- digits with another mark after them are no number
more-marks : (ds : List ℕ) (m : ℕ) (c : List ℕ) → Each Digit ds → Stopped ds (m ∷ c) → blank m ≡ false → row_of (ds ++ (m ∷ c)) ≡ none
more-marks ds m c e s b =
    ap row_of whole
    ∙ row_first (ds ++ (m ∷ part.run)) part.rest (omega (arith, size)) marks part.ends
    ∙ ap (λ (o : Option ℕ). push o (row_of part.rest)) (go s)
  where
    part : Split c
    part = split c

    whole : ds ++ (m ∷ c) ≡ (ds ++ (m ∷ part.run)) ++ part.rest
    whole = ap (λ (k : List ℕ). ds ++ (m ∷ k)) part.whole ∙ sym (append_assoc ds (m ∷ part.run) part.rest)

    size : length (ds ++ (m ∷ part.run)) ≡ length ds + suc (length part.run)
    size = length-append ds (m ∷ part.run)

    marks : Each (λ x. blank x ≡ false) (ds ++ (m ∷ part.run))
    marks = each_append (λ x. blank x ≡ false) ds (m ∷ part.run) (each_map digit-plain ds e) (b, part.marks)

    go : Stopped ds (m ∷ c) → value_of (ds ++ (m ∷ part.run)) ≡ none
    go (inl h) = number-long (ds ++ (m ∷ part.run)) (omega (arith, size))
    go (inr h) = number-odd ds m part.run h

no_number : (ds c : List ℕ) → Each Digit ds → Stopped ds c → parted c ≡ false → row_of (ds ++ c) ≡ none
no_number ds [] e s p = unequal cc
no_number ds (m ∷ c) e s p = more-marks ds m c e s p

module _ (ds c : List ℕ) (e : Each Digit ds) (one : 1 ≤ length ds) (p : parted c ≡ true) where
  row-digits : row_of (ds ++ c) ≡ push (value_of ds) (row_of c)
  row-digits = row_first ds c one (each_map digit-plain ds e) p

  large-number : 65535 < decimal ds → row_of (ds ++ c) ≡ none
  large-number h = row-digits ∙ ap (λ (o : Option ℕ). push o (row_of c)) (number-large ds h)

  one_number : length ds ≤ 5 → decimal ds ≤ 65535 → row_of (ds ++ c) ≡ prepend (decimal ds ∷ []) (row_of c)
  one_number h d =
      row-digits
      ∙ ap (λ (o : Option ℕ). push o (row_of c)) (number_is ds (decimal ds) (record { digits = e; one = one; five = h; value = refl; limit = d }))
      ∙ push-one (decimal ds) (row_of c)

-- a line that starts with a mark, whose first field has no digits, or too large a value
no_field : (ds c : List ℕ) → Each Digit ds → Stopped ds c → Marked (ds ++ c) → (length ds ≡ 0) ⊎ (65535 < decimal ds) → NoField (row_of (ds ++ c))
no_field [] [] e s m w = nil-field (row_of []) row-nil
no_field [] (b ∷ c) e s m w = none-field (row_of (b ∷ c)) (more-marks [] b c e s m)
no_field (d ∷ ds) c e s m (inl h) = absurd (omega arith)
no_field (d ∷ ds) c e s m (inr h) = none-field (row_of ((d ∷ ds) ++ c)) (go (parted c) refl)
  where
    go : (o : Bool) → parted c ≡ o → row_of ((d ∷ ds) ++ c) ≡ none
    go true q = large-number (d ∷ ds) c e (omega arith) q h
    go false q = no_number (d ∷ ds) c e s q

-- digits of the line, from one place to another, and their value
pub record Ran (text : List ℕ) (at p v : ℕ) : Type 0 where
  pub ds : List ℕ
  pub inside : p ≤ length text
  pub line : line_at text at ≡ ds ++ line_at text p
  pub rest : rest_at text p ≡ rest_at text at
  pub each : Each Digit ds
  pub count : at + length ds ≡ p
  pub value : v ≡ decimal ds

pub ran-start : (text : List ℕ) (at : ℕ) → at ≤ length text → Ran text at at 0
ran-start text at l = record { ds = []; inside = l; line = refl; rest = refl; each = tt; count = omega arith; value = refl }

decimal-more : (v : ℕ) (f : List ℕ) (d : ℕ) → decimal_from v (f ++ (d ∷ [])) ≡ decimal_from v f * 10 + (d - digit0)
decimal-more v [] d = refl
decimal-more v (b ∷ f) d = decimal-more (v * 10 + (b - digit0)) f d

-- the largest value with up to n digits more
abbrev nines : ℕ → ℕ → ℕ
nines m zero = m
nines m (suc n) = nines (m * 10 + 9) n

nines-up : (m n : ℕ) → m ≤ nines m n
nines-up m zero = omega arith
nines-up m (suc n) = omega (arith, nines-up (m * 10 + 9) n)

decimal-small : (n m v : ℕ) (f : List ℕ) → Each Digit f → length f ≤ n → v ≤ m → decimal_from v f ≤ nines m n
decimal-small n m v [] e l h = omega (arith, nines-up m n)
decimal-small zero m v (d ∷ f) e l h = absurd (omega arith)
decimal-small (suc n) m v (d ∷ f) (x, e) l h = decimal-small n (m * 10 + 9) (v * 10 + (d - digit0)) f e (omega arith) (omega arith)

module _ (text : List ℕ) (at p v : ℕ) (w : Ran text at p v) where
  pub ran-small : p ≤ at + 8 → v ≤ 99999999
  ran-small l = rw w.value (decimal-small 8 0 0 w.ds w.each (omega (arith, w.count)) (omega arith))

  pub ran-more : p < length text → Digit (get_or text p 0) → Ran text at (p + 1) (v * 10 + (get_or text p 0 - digit0))
  ran-more h d =
      record {
        ds = w.ds ++ (get_or text p 0 ∷ []);
        inside = omega arith;
        line = w.line
            ∙ ap (λ (k : List ℕ). w.ds ++ k) (plain-line text p h (λ e. omega arith) (λ e. omega arith))
            ∙ sym (append_assoc w.ds (get_or text p 0 ∷ []) (line_at text (p + 1)));
        rest = other-rest text p h (λ e. omega arith) ∙ w.rest;
        each = each_append Digit w.ds (get_or text p 0 ∷ []) w.each (d, tt);
        count = omega (arith, w.count, length-append w.ds (get_or text p 0 ∷ []));
        value = ap (λ (k : ℕ). k * 10 + (get_or text p 0 - digit0)) w.value ∙ sym (decimal-more 0 w.ds (get_or text p 0));
      }

  -- a byte that is no digit, five digits, or the text's end
  pub stopped-byte : p < length text → (ltb (get_or text p 0) digit0 || ltb digit9 (get_or text p 0)) ≡ true → Stopped w.ds (line_at text p)
  stopped-byte h e = go (line-here text p h)
    where
      go : Stands text p → Stopped w.ds (line_at text p)
      go (inl q) = inr (rw q tt)
      go (inr q) = inr (rw q (odd_byte (get_or text p 0) e))

  pub stopped-end : at + min (length text - at) 5 ≤ p → Stopped w.ds (line_at text p)
  stopped-end l = go (dec_lt p (length text))
    where
      go : Dec (p < length text) → Stopped w.ds (line_at text p)
      go (yes h) = inl (omega (arith, w.count))
      go (no h) = inr (rw (end_line text p (omega arith)) tt)

  -- what is found after the digits, as the code tests it
  module _ (limit : ℕ) where
    pub ran-missing : 65535 ≤ limit → Marked (line_at text at) → Stopped w.ds (line_at text p) → (eqb p at || ltb limit v) ≡ true → (n : ℕ)
        → Found text at 65536 n
    ran-missing l m s e n =
        missing (omega arith)
        (rw w.line (no_field w.ds (line_at text p) w.each s (rw w.line at m) (go (or-true (eqb p at) (ltb limit v) e))))
      where
        go : (eqb p at ≡ true) ⊎ (ltb limit v ≡ true) → (length w.ds ≡ 0) ⊎ (65535 < decimal w.ds)
        go (inl q) = inl (omega (arith, w.count, eqb-true p at q))
        go (inr q) = inr (omega (arith, w.value, ltb-true limit v q))

    pub ran-found : limit ≤ 65535 → (eqb p at || ltb limit v) ≡ false → p ≤ at + 5 → (r : Bool) → r ≡ parted (line_at text p) → not r ≡ false
        → Found text at v p
    ran-found m e l r q t =
        let o : (eqb p at ≡ false) × (ltb limit v ≡ false) = or-false (eqb p at) (ltb limit v) e in
        let h : v ≤ limit = ltb-false limit v o.1 in
        let n : ¬ (p ≡ at) = eqb-false p at o.0 in
        found (omega arith)
        record {
          inside = w.inside;
          row = ap row_of w.line
              ∙ one_number w.ds (line_at text p) w.each (omega (arith, w.count)) (sym q ∙ not-false r t)
              (omega (arith, w.count)) (omega (arith, w.value))
              ∙ ap (λ (k : ℕ). prepend (k ∷ []) (row_at text p)) (sym w.value);
          rest = w.rest;
        }

  pub ran-joined : Stopped w.ds (line_at text p) → (r : Bool) → r ≡ parted (line_at text p) → not r ≡ true → (n : ℕ) → Found text at 65536 n
  ran-joined s r e t n =
      missing (omega arith)
      (none-field (row_at text at) (ap row_of w.line ∙ no_number w.ds (line_at text p) w.each s (sym e ∙ not-true r t)))
