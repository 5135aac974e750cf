-- Texts that are alike spell the same graph.
use Prim.Native.Nat.{ℕ, zero, suc, ◌≤◌}
use mathlib.Core.Path.{◌≡◌, refl, sym, ap, ◌∙◌}
use mathlib.Core.Bool.{Bool, true, false, cond}
use mathlib.Core.Logic.{inl, inr}
use mathlib.Core.Option.{none, some}
use mathlib.Core.List.{List, [], ◌∷◌, ◌++◌}
use native.Mathlib.Omega.{arith}
use lib.ListN.{length, replicate}
use lib.Dec.{leb}
use borrow.Author.Tests.{le-leb}
use Rattle.lists.proofs.Appends.{has-members}
use Rattle.layout.specs.Marks.{digit0, Digit, Each, Line, Numbers}
use Rattle.layout.specs.Tasks.{Tables}
use Rattle.layout.specs.Layout.{Skipped, decimal, Content, Keeps, Spells}
use Rattle.layout.specs.Alike.{Cut, Padded, SameField, SameFields, SameLine, SameLines, no_lines, skip-left, skip-right, both, Alike}
use Rattle.layout.specs.Reader.{skippable, skipped, value_of, numbers_of, row_of}
use Rattle.layout.proofs.Fields.{skipped-blanks, skipped-run, digits-idle, is-skipped, skipped-yes, fields-cut, is-digits, row_reads, reads-row}
use Rattle.layout.proofs.Contents.{skip-more, skip-less}
use Rattle.layout.proofs.Unique.{spells-keeps}

-- Fields.

-- zeros in front of digits
module _ (h : List ℕ) (each : Each Digit h) (filled : ¬ (h ≡ [])) where
  zeros-digits : (z : ℕ) → Each Digit (replicate z digit0 ++ h)
  zeros-digits zero = each
  zeros-digits (suc z) = ((omega arith, omega arith), zeros-digits z)

  zeros-value : (z : ℕ) → decimal (replicate z digit0 ++ h) ≡ decimal h
  zeros-value zero = refl
  zeros-value (suc z) = zeros-value z

  zeros-some : (z : ℕ) → 1 ≤ length (replicate z digit0 ++ h)
  zeros-some zero = has-members h filled
  zeros-some (suc z) = omega arith

  -- a field of such digits is no comment, and its number is theirs
  module _ (f : List ℕ) (p : Padded f h) where
    digits_of : Each Digit f
    digits_of = rw p.whole (zeros-digits p.zeros)

    some_of : 1 ≤ length f
    some_of = rw p.whole (zeros-some p.zeros)

    value-of : decimal f ≡ decimal h
    value-of = ap decimal p.whole ∙ zeros-value p.zeros

    padded-number : value_of f ≡ cond (leb (decimal h) 65535) (some (decimal h)) none
    unfolding value_of
    padded-number = rw (is-digits f digits_of, le-leb 1 (length f) some_of, le-leb (length f) 5 p.five, value-of) refl

    padded-idle : skippable f ≡ false
    padded-idle = digits-idle f digits_of some_of

same-value : (f g : List ℕ) → SameField f g → value_of f ≡ value_of g
same-value f g (inl e) = ap value_of e
same-value f g (inr s) = padded-number s.digits s.each s.some f s.left ∙ sym (padded-number s.digits s.each s.some g s.right)

same-idle : (f g : List ℕ) → SameField f g → skippable f ≡ skippable g
same-idle f g (inl e) = ap skippable e
same-idle f g (inr s) = padded-idle s.digits s.each s.some f s.left ∙ sym (padded-idle s.digits s.each s.some g s.right)

same_numbers : (fs gs : List (List ℕ)) → SameFields fs gs → numbers_of fs ≡ numbers_of gs
same_numbers [] [] s = refl
same_numbers [] (g ∷ gs) s = absurd s
same_numbers (f ∷ fs) [] s = absurd s
same_numbers (f ∷ fs) (g ∷ gs) (s, t) = rw (same-value f g s, same_numbers fs gs t) refl

-- Lines.

-- a line is skipped if it has no field or the first one starts with #
abbrev first_idle : List (List ℕ) → Bool
first_idle [] = true
first_idle (f ∷ fs) = skippable f

skipped-cut : (c : Line) (fs : List (List ℕ)) → Cut c fs → skipped c ≡ first_idle fs
skipped-cut c [] k = is-skipped c (inl k)
skipped-cut c (f ∷ fs) (rest, r, k) = ap skipped r.whole ∙ skipped-blanks r.before (f ++ rest) r.blanks ∙ skipped-run f rest r.some r.marks

same_first : (fs gs : List (List ℕ)) → SameFields fs gs → first_idle fs ≡ first_idle gs
same_first [] [] s = refl
same_first [] (g ∷ gs) s = absurd s
same_first (f ∷ fs) [] s = absurd s
same_first (f ∷ fs) (g ∷ gs) (s, t) = same-idle f g s

same-skipped : (c d : Line) → SameLine c d → skipped c ≡ skipped d
same-skipped c d (inl e) = ap skipped e
same-skipped c d (inr s) =
    skipped-cut c s.left s.cut_left ∙ same_first s.left s.right s.same ∙ sym (skipped-cut d s.right s.cut_right)

same_row : (c d : Line) → SameLine c d → row_of c ≡ row_of d
unfolding row_of
same_row c d (inl e) = ap row_of e
same_row c d (inr s) =
    ap numbers_of (fields-cut c s.left s.cut_left) ∙ same_numbers s.left s.right s.same
    ∙ sym (ap numbers_of (fields-cut d s.right s.cut_right))

same-content : (ls ms : List Line) → SameLines ls ms → (rows : List Numbers) → Content ls rows → Content ms rows
same-content ls ms no_lines rows h = h
same-content ls ms (skip-left {c = c} {ls = later} s t) rows h = same-content later ms t rows (skip-less c later rows s h)
same-content ls ms (skip-right {d = d} {ms = later} s t) rows h = skip-more d later rows s (same-content ls later t rows h)
same-content ls ms (both {c = c} {d = d} {ls = left} {ms = right} s t) rows h = go rows h (same-content left right t)
  where
    skips : Skipped c → Skipped d
    skips q = skipped-yes d (sym (same-skipped c d s) ∙ is-skipped c q)

    skips-back : Skipped d → Skipped c
    skips-back q = skipped-yes c (same-skipped c d s ∙ is-skipped d q)

    go : (rs : List Numbers) → Content (c ∷ left) rs → ((more : List Numbers) → Content left more → Content right more) → Content (d ∷ right) rs
    go [] (q, k) f = (skips q, f [] k)
    go (row ∷ rs) (inl (q, k)) f = inl (skips q, f (row ∷ rs) k)
    go (row ∷ rs) (inr (n, r, k)) f = inr (λ q. n (skips-back q), row_reads d row (sym (same_row c d s) ∙ reads-row c row r), f rs k)

-- Texts.

pub alike-spell : (text other : List ℕ) (g : Tables) → Alike text other → Spells text g → Spells other g
alike-spell text other g a s = record {
  lines = a.right;
  tasks = s.tasks;
  parted = a.lines-right;
  keeps = record { rows = k.rows; content = same-content a.left a.right a.same k.rows k.content; job = k.job };
  tables = s.tables;
}
  where
    k : Keeps a.left s.tasks
    k = spells-keeps text a.left g a.lines_left s

-- The same the other way round.

field-sym : (f g : List ℕ) → SameField f g → SameField g f
field-sym f g (inl e) = inl (sym e)
field-sym f g (inr s) = inr (record { digits = s.digits; each = s.each; some = s.some; left = s.right; right = s.left })

fields-sym : (fs gs : List (List ℕ)) → SameFields fs gs → SameFields gs fs
fields-sym [] [] s = tt
fields-sym [] (g ∷ gs) s = s
fields-sym (f ∷ fs) [] s = s
fields-sym (f ∷ fs) (g ∷ gs) (s, t) = (field-sym f g s, fields-sym fs gs t)

line-sym : (c d : Line) → SameLine c d → SameLine d c
line-sym c d (inl e) = inl (sym e)
line-sym c d (inr s) = inr (record {
  left = s.right;
  right = s.left;
  cut_left = s.cut_right;
  cut_right = s.cut_left;
  same = fields-sym s.left s.right s.same;
})

lines-sym : {ls ms : List Line} → SameLines ls ms → SameLines ms ls
lines-sym no_lines = no_lines
lines-sym (skip-left s t) = skip-right s (lines-sym t)
lines-sym (skip-right s t) = skip-left s (lines-sym t)
lines-sym (both {c = c} {d = d} s t) = both (line-sym c d s) (lines-sym t)

pub alike-sym : (text other : List ℕ) → Alike text other → Alike other text
alike-sym text other a = record {
  left = a.right;
  right = a.left;
  lines_left = a.lines-right;
  lines-right = a.lines_left;
  same = lines-sym a.same;
}
