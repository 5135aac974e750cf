-- What stands at a place of a text: the line there, step by step, and where blanks and the line end.
use Prim.Native.Nat.{ℕ, ◌+◌, ◌-◌, ◌≤◌, ◌<◌}
use mathlib.Core.Path.{◌≡◌, refl, sym, ap, ◌∙◌}
use mathlib.Core.Bool.{Bool, true, false, not, ◌&&◌, ◌||◌}
use mathlib.Core.Logic.{◌⊎◌, inl, inr}
use mathlib.Core.List.{List, [], ◌∷◌}
use native.Mathlib.Omega.{arith}
use native.Mathlib.Decide.{dec_lt}
use native.Mathlib.Numerals.{add-one}
use lib.ListN.{length, get_or, drop, length-drop, drop_of_length-le}
use lib.Seq.{drop-cons}
use lib.Dec.{eqb}
use borrow.Author.Tests.{eq-eqb, ne_eqb, eqb-true, eqb-false, not-true, not-false}
use Rattle.lists.proofs.Apart.{unequal}
use Rattle.lists.proofs.Decided.{stable}
use Rattle.lists.proofs.Told.{and-false, or-true, or-false}
use Rattle.layout.specs.Marks.{tab, lf, cr, space, Blank}
use Rattle.layout.specs.Reader.{starts_lf, lines, blank, trim, parted, row_of}
use Rattle.layout.specs.Scan.{line_of, after_line, line_at, row_at, rest_at, Marked, Trimmed, NextLine, EndsAt, ends, goes_on}
use Rattle.layout.proofs.Pieces.{after-nil, after-lf, after-other, after-shorter, line-nil, line-lf, line-crlf, line_other, lines_step}
use Rattle.layout.proofs.Pieces.{trim-nil, trim-blank, trim-mark, row-trim}
use Rattle.layout.proofs.Fields.{blank-yes}

either-test : (a b o : Bool) → (not a && not b) ≡ not o → (a || b) ≡ o
either-test true b true e = refl
either-test true b false e = unequal cc
either-test false true true e = refl
either-test false true false e = unequal cc
either-test false false true e = unequal cc
either-test false false false e = refl

-- a blank ends no line
blank-plain : (b : ℕ) → blank b ≡ true → ¬ (b ≡ lf) × ¬ (b ≡ cr)
blank-plain b e = go (blank-yes b e)
  where
    go : Blank b → ¬ (b ≡ lf) × ¬ (b ≡ cr)
    go (inl q) = ((λ h. omega arith), λ h. omega arith)
    go (inr q) = ((λ h. omega arith), λ h. omega arith)

-- the line ends here, or this byte is its first
line-either : (b : ℕ) (s : List ℕ) → (line_of (b ∷ s) ≡ []) ⊎ (line_of (b ∷ s) ≡ b ∷ line_of s)
line-either b s = go (eqb b lf) (eqb b cr && starts_lf s) refl refl
  where
    go : (o q : Bool) → eqb b lf ≡ o → (eqb b cr && starts_lf s) ≡ q → (line_of (b ∷ s) ≡ []) ⊎ (line_of (b ∷ s) ≡ b ∷ line_of s)
    go true q e f = inl (line-lf b s e)
    go false true e f = inl (line-crlf b s f)
    go false false e f = inr (line_other b s e f)

-- the byte here is the line's next
abbrev pub Goes : List ℕ → ℕ → Type 0
Goes text p = line_at text p ≡ get_or text p 0 ∷ line_at text (p + 1)

-- the line ends here, or goes on
abbrev pub Stands : List ℕ → ℕ → Type 0
Stands text p = (line_at text p ≡ []) ⊎ Goes text p

module _ (text : List ℕ) (p : ℕ) (h : p < length text) where
  here : drop p text ≡ get_or text p 0 ∷ drop (p + 1) text
  here = rw (add-one p) (drop-cons text p 0 h)

  pub line-here : Stands text p
  line-here = rw here (line-either (get_or text p 0) (drop (p + 1) text))

  lf_line : get_or text p 0 ≡ lf → line_at text p ≡ []
  lf_line e = ap line_of here ∙ line-lf (get_or text p 0) (drop (p + 1) text) (eq-eqb (get_or text p 0) lf e)

  lf-rest : get_or text p 0 ≡ lf → drop (p + 1) text ≡ rest_at text p
  lf-rest e = sym (ap after_line here ∙ after-lf (get_or text p 0) (drop (p + 1) text) (eq-eqb (get_or text p 0) lf e))

  pub other-rest : ¬ (get_or text p 0 ≡ lf) → rest_at text (p + 1) ≡ rest_at text p
  other-rest n = sym (ap after_line here ∙ after-other (get_or text p 0) (drop (p + 1) text) (ne_eqb (get_or text p 0) lf n))

  other-line : ¬ (get_or text p 0 ≡ lf) → (eqb (get_or text p 0) cr && starts_lf (drop (p + 1) text)) ≡ false → Goes text p
  other-line n f = ap line_of here ∙ line_other (get_or text p 0) (drop (p + 1) text) (ne_eqb (get_or text p 0) lf n) f

  pub plain-line : ¬ (get_or text p 0 ≡ lf) → ¬ (get_or text p 0 ≡ cr) → Goes text p
  plain-line n m = other-line n (rw (ne_eqb (get_or text p 0) cr m) refl)

  starts-here : starts_lf (drop p text) ≡ eqb (get_or text p 0) lf
  starts-here = ap starts_lf here

-- CR, with no LF after it, and with one
module _ (text : List ℕ) (p : ℕ) (h : p < length text) where
  last_line : ¬ (get_or text p 0 ≡ lf) → length text ≤ p + 1 → Goes text p
  last_line n l = other-line text p h n (and-false (eqb (get_or text p 0) cr) (starts_lf (drop (p + 1) text)) (λ w. ap starts_lf (drop_of_length-le text l)))

  cr-line : ¬ (get_or text p 0 ≡ lf) → p + 1 < length text → ¬ (get_or text (p + 1) 0 ≡ lf) → Goes text p
  cr-line n l m =
      other-line text p h n
      (and-false (eqb (get_or text p 0) cr) (starts_lf (drop (p + 1) text)) (λ w. starts-here text (p + 1) l ∙ ne_eqb (get_or text (p + 1) 0) lf m))

  crlf-line : get_or text p 0 ≡ cr → p + 1 < length text → get_or text (p + 1) 0 ≡ lf → line_at text p ≡ []
  crlf-line e l q =
      ap line_of (here text p h)
      ∙ line-crlf (get_or text p 0) (drop (p + 1) text)
      (rw (eq-eqb (get_or text p 0) cr e) (starts-here text (p + 1) l ∙ eq-eqb (get_or text (p + 1) 0) lf q))

-- the line here, then those after it
pub lines_at : (text : List ℕ) (p : ℕ) → p < length text → lines (drop p text) ≡ line_at text p ∷ lines (rest_at text p)
lines_at text p h = rw (here text p h) (lines_step (get_or text p 0) (drop (p + 1) text))

-- the next line stands behind this one
pub next-later : (text : List ℕ) (p n : ℕ) → p < length text → NextLine text p n → p < n
next-later text p n h l = omega (arith, h, l.inside, length-drop (p + 1) text, length-drop n text, ap length l.rest, shorter)
  where
    shorter : length (rest_at text p) ≤ length (drop (p + 1) text)
    shorter = rw (here text p h) (after-shorter (get_or text p 0) (drop (p + 1) text))

-- past the text's end
pub end_line : (text : List ℕ) (p : ℕ) → length text ≤ p → line_at text p ≡ []
end_line text p l = ap line_of (drop_of_length-le text l) ∙ line-nil

end_rest : (text : List ℕ) (p : ℕ) → length text ≤ p → drop p text ≡ rest_at text p
end_rest text p l = drop_of_length-le text l ∙ sym (ap after_line (drop_of_length-le text l) ∙ after-nil)

-- The line's end.

ended : (text : List ℕ) (p n : ℕ) → line_at text p ≡ [] → n ≤ length text → drop n text ≡ rest_at text p → EndsAt text p true n
ended text p n e l r = ends refl e record { inside = l; rest = r }

opened : (text : List ℕ) (p n : ℕ) → Goes text p → EndsAt text p false n
opened text p n e = goes_on refl (λ q. unequal cc)

pub ends-out : (text : List ℕ) (p : ℕ) → p ≤ length text → length text ≤ p → EndsAt text p true p
ends-out text p h l = ended text p p (end_line text p l) h (end_rest text p l)

module _ (text : List ℕ) (p : ℕ) (h : p < length text) where
  pub ends-lf : get_or text p 0 ≡ lf → EndsAt text p true (p + 1)
  ends-lf e = ended text p (p + 1) (lf_line text p h e) (omega arith) (lf-rest text p h e)

  -- no CR, or no byte after it
  pub open-early : ¬ (get_or text p 0 ≡ lf) → (not (eqb (get_or text p 0) cr) || eqb (length text - p) 1) ≡ true → (n : ℕ) → EndsAt text p false n
  open-early m e n = opened text p n (go (or-true (not (eqb (get_or text p 0) cr)) (eqb (length text - p) 1) e))
    where
      go : (not (eqb (get_or text p 0) cr) ≡ true) ⊎ (eqb (length text - p) 1 ≡ true) → Goes text p
      go (inl q) = plain-line text p h m (eqb-false (get_or text p 0) cr (not-true (eqb (get_or text p 0) cr) q))
      go (inr q) = last_line text p h m (omega (arith, eqb-true (length text - p) 1 q))

  -- CR, and a byte after it
  module _ (e : (not (eqb (get_or text p 0) cr) || eqb (length text - p) 1) ≡ false) where
    tests : (eqb (get_or text p 0) cr ≡ true) × (eqb (length text - p) 1 ≡ false)
    tests =
        let (a, b) = or-false (not (eqb (get_or text p 0) cr)) (eqb (length text - p) 1) e in
        (not-false (eqb (get_or text p 0) cr) a, b)

    pub cr-more : p + 1 < length text
    cr-more = stable (dec_lt (p + 1) (length text)) (λ m. eqb-false (length text - p) 1 tests.1 (omega arith))

    pub open-cr : ¬ (get_or text p 0 ≡ lf) → ¬ (get_or text (p + 1) 0 ≡ lf) → (n : ℕ) → EndsAt text p false n
    open-cr m k n = opened text p n (cr-line text p h m cr-more k)

    pub ends-crlf : get_or text (p + 1) 0 ≡ lf → EndsAt text p true (p + 2)
    ends-crlf q =
        let b : get_or text p 0 ≡ cr = eqb-true (get_or text p 0) cr tests.0 in
        let two : p + 2 ≡ (p + 1) + 1 = omega arith in
        ended text p (p + 2) (crlf-line text p h b cr-more q) (omega (arith, cr-more))
        (ap (λ (k : ℕ). drop k text) two ∙ lf-rest text (p + 1) cr-more q ∙ other-rest text p h (λ z. omega arith))

-- what a closed end says, and an open one
module _ (text : List ℕ) (p : ℕ) (closed : Bool) (n : ℕ) where
  closed-line : EndsAt text p closed n → closed ≡ true → line_at text p ≡ []
  closed-line (ends e q r) t = q
  closed-line (goes_on e q) t = unequal cc

  open-line : EndsAt text p closed n → closed ≡ false → ¬ (line_at text p ≡ [])
  open-line (ends e q r) t = unequal cc
  open-line (goes_on e q) t = q

  pub open-inside : EndsAt text p closed n → closed ≡ false → p < length text
  open-inside w t = stable (dec_lt p (length text)) (λ m. open-line w t (end_line text p (omega arith)))

  open-first : EndsAt text p closed n → closed ≡ false → Goes text p
  open-first w t = go (line-here text p (open-inside w t))
    where
      go : Stands text p → Goes text p
      go (inl e) = absurd (open-line w t e)
      go (inr e) = e

  -- a test of the line is one of what stands here
  module _ (f : List ℕ → Bool) where
    pub closed-test : EndsAt text p closed n → closed ≡ true → f [] ≡ f (line_at text p)
    closed-test w t = rw (closed-line w t) refl

    pub open-test : EndsAt text p closed n → closed ≡ false → f (get_or text p 0 ∷ line_at text (p + 1)) ≡ f (line_at text p)
    open-test w t = rw (open-first w t) refl

-- Past a line.

-- a later place whose line ends where this one's does
pub record Onward (text : List ℕ) (at p : ℕ) : Type 0 where
  pub inside : p ≤ length text
  pub rest : rest_at text p ≡ rest_at text at

pub onward-start : (text : List ℕ) (at : ℕ) → at ≤ length text → Onward text at at
onward-start text at l = record { inside = l; rest = refl }

module _ (text : List ℕ) (at p : ℕ) (w : Onward text at p) where
  pub onward-more : p < length text → ¬ (get_or text p 0 ≡ lf) → Onward text at (p + 1)
  onward-more h n = record { inside = omega arith; rest = other-rest text p h n ∙ w.rest }

  pub onward-lf : p < length text → get_or text p 0 ≡ lf → NextLine text at (p + 1)
  onward-lf h e = record { inside = omega arith; rest = lf-rest text p h e ∙ w.rest }

  pub onward-end : length text ≤ p → NextLine text at p
  onward-end l = record { inside = w.inside; rest = end_rest text p l ∙ w.rest }

-- Past blanks.

-- only blanks between the two places
pub record Passed (text : List ℕ) (at p : ℕ) : Type 0 where
  pub onward : at ≤ p
  pub inside : p ≤ length text
  pub line : trim (line_at text p) ≡ trim (line_at text at)
  pub rest : rest_at text p ≡ rest_at text at

pub passed_start : (text : List ℕ) (at : ℕ) → at ≤ length text → Passed text at at
passed_start text at l = record { onward = omega arith; inside = l; line = refl; rest = refl }

-- a line that starts with no blank stays as it is
trim-marked : (c : List ℕ) → Marked c → trim c ≡ c
trim-marked [] m = trim-nil
trim-marked (b ∷ c) m = trim-mark b c m

marked-trim : (c : List ℕ) → Marked (trim c)
marked-trim [] = rw trim-nil tt
marked-trim (b ∷ c) = go (blank b) refl (marked-trim c)
  where
    go : (o : Bool) → blank b ≡ o → Marked (trim c) → Marked (trim (b ∷ c))
    go true e h = rw (trim-blank b c e) h
    go false e h = rw (trim-mark b c e) e

marked-here : (text : List ℕ) (p : ℕ) → p < length text → blank (get_or text p 0) ≡ false → Marked (line_at text p)
marked-here text p h e = go (line-here text p h)
  where
    go : Stands text p → Marked (line_at text p)
    go (inl q) = rw q tt
    go (inr q) = rw q e

-- whether a blank, or nothing, comes next
module _ (text : List ℕ) (p : ℕ) where
  pub parted-end : p ≡ length text → true ≡ parted (line_at text p)
  parted-end l = rw (end_line text p (omega (arith, l))) refl

  pub parted-blank : p ≤ length text → (p ≡ length text → ⊥) → blank (get_or text p 0) ≡ true → true ≡ parted (line_at text p)
  parted-blank l m e =
      let n : ¬ (get_or text p 0 ≡ lf) × ¬ (get_or text p 0 ≡ cr) = blank-plain (get_or text p 0) e in
      rw (plain-line text p (omega (arith, l, m)) n.0 n.1) (sym e)

  pub parted-other : (closed : Bool) (n : ℕ) → blank (get_or text p 0) ≡ false → EndsAt text p closed n → closed ≡ parted (line_at text p)
  parted-other closed n e (ends c q r) = rw (c, q) refl
  parted-other closed n e (goes_on c q) = rw (c, open-first text p closed n (goes_on c q) c) (sym e)

module _ (text : List ℕ) (at p : ℕ) (w : Passed text at p) where
  trimmed : Marked (line_at text p) → Trimmed text at p
  trimmed m = record { onward = w.onward; inside = w.inside; line = sym (trim-marked (line_at text p) m) ∙ w.line; rest = w.rest }

  pub passed-blank : p < length text → (not (eqb (get_or text p 0) space) && not (eqb (get_or text p 0) tab)) ≡ false → Passed text at (p + 1)
  passed-blank h q =
      let e : blank (get_or text p 0) ≡ true = either-test (eqb (get_or text p 0) space) (eqb (get_or text p 0) tab) true q in
      let n : ¬ (get_or text p 0 ≡ lf) × ¬ (get_or text p 0 ≡ cr) = blank-plain (get_or text p 0) e in
      record {
        onward = omega (arith, w.onward);
        inside = omega arith;
        line = sym (ap trim (plain-line text p h n.0 n.1) ∙ trim-blank (get_or text p 0) (line_at text (p + 1)) e) ∙ w.line;
        rest = other-rest text p h n.0 ∙ w.rest;
      }

  pub passed-mark : p < length text → (not (eqb (get_or text p 0) space) && not (eqb (get_or text p 0) tab)) ≡ true → Trimmed text at p
  passed-mark h q = trimmed (marked-here text p h (either-test (eqb (get_or text p 0) space) (eqb (get_or text p 0) tab) false q))

  pub passed-end : length text ≤ p → Trimmed text at p
  passed-end l = trimmed (rw (end_line text p l) tt)

module _ (text : List ℕ) (at p : ℕ) (w : Trimmed text at p) where
  pub trimmed-marked : Marked (line_at text p)
  trimmed-marked = rw w.line (marked-trim (line_at text at))

  pub trimmed-row : row_at text at ≡ row_at text p
  trimmed-row = sym (ap row_of w.line ∙ row-trim (line_at text at))
