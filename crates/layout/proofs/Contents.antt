-- The rows of lists of lines.
use Prim.Native.Nat.{ℕ}
use mathlib.Core.Path.{◌≡◌, refl, sym, ap, ◌∙◌}
use mathlib.Core.Logic.{inl, inr}
use mathlib.Core.Option.{some}
use mathlib.Core.List.{List, [], ◌∷◌, ◌++◌}
use Rattle.layout.specs.Marks.{Line, Numbers}
use Rattle.layout.specs.Layout.{Skipped, Reads, Content}
use Rattle.layout.specs.Reader.{row_of}
use Rattle.layout.proofs.Fields.{reads-row, reads-not-skipped}

-- a skipped line more or less
pub skip-more : (c : Line) (ls : List Line) (rows : List Numbers) → Skipped c → Content ls rows → Content (c ∷ ls) rows
skip-more c ls [] s h = (s, h)
skip-more c ls (row ∷ rows) s h = inl (s, h)

pub skip-less : (c : Line) (ls : List Line) (rows : List Numbers) → Skipped c → Content (c ∷ ls) rows → Content ls rows
skip-less c ls [] s (q, h) = h
skip-less c ls (row ∷ rows) s (inl (q, h)) = h
skip-less c ls (row ∷ rows) s (inr (n, r, h)) = absurd (n s)

reads-unique : (c : Line) (row row' : Numbers) → Reads c row → Reads c row' → row ≡ row'
reads-unique c row row' r q =
    let e : row_of c ≡ some row = reads-row c row r in
    let f : row_of c ≡ some row' = reads-row c row' q in
    cc

pub content-unique : (ls : List Line) (rows rows' : List Numbers) → Content ls rows → Content ls rows' → rows ≡ rows'
content-unique [] rows rows' h k = h ∙ sym k
content-unique (c ∷ ls) [] rows' (s, h) k = content-unique ls [] rows' h (skip-less c ls rows' s k)
content-unique (c ∷ ls) (row ∷ rows) rows' (inl (s, h)) k = content-unique ls (row ∷ rows) rows' h (skip-less c ls rows' s k)
content-unique (c ∷ ls) (row ∷ rows) [] (inr (n, r, h)) (s, k) = absurd (n s)
content-unique (c ∷ ls) (row ∷ rows) (row' ∷ rows') (inr (n, r, h)) (inl (s, k)) = absurd (n s)
content-unique (c ∷ ls) (row ∷ rows) (row' ∷ rows') (inr (n, r, h)) (inr (m, q, k)) =
    cc (reads-unique c row row' r q, content-unique ls rows rows' h k)

pub content-append : (ls ms : List Line) (a b : List Numbers) → Content ls a → Content ms b → Content (ls ++ ms) (a ++ b)
content-append [] ms a b h k = rw h k
content-append (c ∷ ls) ms [] b (s, h) k = skip-more c (ls ++ ms) b s (content-append ls ms [] b h k)
content-append (c ∷ ls) ms (row ∷ a) b (inl (s, h)) k = inl (s, content-append ls ms (row ∷ a) b h k)
content-append (c ∷ ls) ms (row ∷ a) b (inr (n, r, h)) k = inr (n, r, content-append ls ms a b h k)

pub content-split : (ls ms : List Line) (rows : List Numbers) → Content (ls ++ ms) rows
    → (a : List Numbers) × (b : List Numbers) × Content ls a × Content ms b × (rows ≡ a ++ b)
content-split [] ms rows h = ([], rows, refl, h, refl)
content-split (c ∷ ls) ms [] (s, h) =
    let (a, b, x, y, e) = content-split ls ms [] h in
    (a, b, skip-more c ls a s x, y, e)
content-split (c ∷ ls) ms (row ∷ rows) (inl (s, h)) =
    let (a, b, x, y, e) = content-split ls ms (row ∷ rows) h in
    (a, b, skip-more c ls a s x, y, e)
content-split (c ∷ ls) ms (row ∷ rows) (inr (n, r, h)) =
    let (a, b, x, y, e) = content-split ls ms rows h in
    (row ∷ a, b, inr (n, r, x), y, ap (row ∷◌) e)

pub content-skip : (c : Line) → Skipped c → Content (c ∷ []) []
content-skip c s = (s, refl)

pub content-row : (c : Line) (v : ℕ) (row : Numbers) → Reads c (v ∷ row) → Content (c ∷ []) ((v ∷ row) ∷ [])
content-row c v row r = inr (reads-not-skipped c v row r, r, refl)
