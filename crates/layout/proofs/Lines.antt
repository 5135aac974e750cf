-- The lines of a text: `lines` gives them, and there are no others.
use Prim.Native.Nat.{ℕ}
use mathlib.Core.Path.{◌≡◌, refl, sym, ap, ◌∙◌}
use mathlib.Core.Bool.{Bool, true, false, ◌&&◌}
use mathlib.Core.Logic.{inl, inr}
use mathlib.Core.List.{List, [], ◌∷◌, ◌++◌}
use lib.Dec.{eqb}
use borrow.Author.Tests.{eqb-true, eqb-false, eq-eqb, ne_eqb}
use Rattle.lists.proofs.Apart.{cons-not-nil, true-and-false}
use Rattle.lists.proofs.Told.{and-true, and-false}
use Rattle.layout.specs.Marks.{lf, cr, Each, Line}
use Rattle.layout.specs.Layout.{End, NoLf, Lines}
use Rattle.layout.specs.Reader.{starts_lf, grow, lines}
use Rattle.layout.proofs.Pieces.{lines-nil, lines-lf, lines-cr, lines_other}

-- `lines` gives the lines.

-- a byte before a line that LF ends: the end stays what it is, unless the byte is CR and LF comes next
grow-end : (b : ℕ) (c : Line) (e rest : List ℕ) → (b ≡ cr → ¬ (starts_lf (c ++ (e ++ rest)) ≡ true)) → End c e → End (b ∷ c) e
grow-end b c e rest m (inl q) = inl q
grow-end b c e rest m (inr (q, n)) = inr (q, go)
  where
    go : (d : List ℕ) → ¬ (b ∷ c ≡ d ++ (cr ∷ []))
    go [] w =
        let empty : c ≡ [] = cc in
        let last : b ≡ cr = cc in
        m last (rw (empty, q) refl)
    go (x ∷ d) w = n d (cc)

grow-lines : (b : ℕ) (s : List ℕ) (ls : List Line) → ¬ (b ≡ lf) → (b ≡ cr → ¬ (starts_lf s ≡ true)) → Lines s ls → Lines (b ∷ s) (grow b ls)
grow-lines b s [] n m h = ((n, tt), inr (record { whole = ap (b ∷◌) h; some = cons-not-nil b []; last = refl }))
grow-lines b s (c ∷ ls) n m (f, inl (rest, e, l)) =
    let end : End (b ∷ c) e.ending = grow-end b c e.ending rest (rw e.whole at m) e.end in
    ((n, f), inl (rest, record { ending = e.ending; whole = ap (b ∷◌) e.whole; end = end }, l))
grow-lines b s (c ∷ ls) n m (f, inr u) =
    ((n, f), inr (record { whole = ap (b ∷◌) u.whole; some = cons-not-nil b c; last = u.last }))

-- a byte before a text whose lines are known, also behind a CR and its LF
module _ (b : ℕ) (s : List ℕ) (h : Lines s (lines s)) (closed : starts_lf s ≡ true → Lines (cr ∷ s) (lines s)) where
  add-byte : (o : Bool) → eqb b lf ≡ o → (q : Bool) → (eqb b cr && starts_lf s) ≡ q → Lines (b ∷ s) (lines (b ∷ s))
  add-byte true e q f =
      rw (lines-lf b s e, eqb-true b lf e) (tt, inl (s, record { ending = lf ∷ []; whole = refl; end = inr (refl, none) }, h))
    where
      none : (d : List ℕ) → ¬ ([] ≡ d ++ (cr ∷ []))
      none [] w = cons-not-nil cr [] (sym w)
      none (x ∷ d) w = cons-not-nil x (d ++ (cr ∷ [])) (sym w)
  add-byte false e true f =
      let (b-cr, s-lf) = and-true (eqb b cr) (starts_lf s) f in
      rw (lines-cr b s e f, eqb-true b cr b-cr) (closed s-lf)
  add-byte false e false f = rw (lines_other b s e f) (grow-lines b s (lines s) (eqb-false b lf e) other h)
    where
      other : b ≡ cr → ¬ (starts_lf s ≡ true)
      other w t =
          let both : (eqb b cr && starts_lf s) ≡ true = rw (eq-eqb b cr w, t) refl in
          true-and-false both f

pub lines_are : (text : List ℕ) → Lines text (lines text)
lines_are [] = rw lines-nil refl
lines_are (b ∷ []) = add-byte b [] (rw lines-nil refl) (λ e. true-and-false e refl) (eqb b lf) refl (eqb b cr && false) refl
lines_are (b ∷ x ∷ s) = add-byte b (x ∷ s) (lines_are (x ∷ s)) (closed (lines_are s)) (eqb b lf) refl (eqb b cr && eqb x lf) refl
  where
    closed : Lines s (lines s) → eqb x lf ≡ true → Lines (cr ∷ x ∷ s) (lines (x ∷ s))
    closed h e =
        rw (lines-lf x s e, eqb-true x lf e) (tt, inl (s, record { ending = cr ∷ lf ∷ []; whole = refl; end = inl refl }, h))

-- There are no others.

-- no end of a line starts in front of its last byte
inside-line : (b : ℕ) (c : Line) (e rest : List ℕ) → NoLf c → End (b ∷ c) e → b ≡ cr → starts_lf (c ++ (e ++ rest)) ≡ false
inside-line b [] e rest f (inl q) w = rw q refl
inside-line b [] e rest f (inr (q, n)) w = absurd (n [] (rw w refl))
inside-line b (x ∷ c) e rest (n, f) h w = ne_eqb x lf n

end-tail : (b : ℕ) (c : Line) (e : List ℕ) → End (b ∷ c) e → End c e
end-tail b c e (inl q) = inl q
end-tail b c e (inr (q, n)) = inr (q, λ d w. n (b ∷ d) (rw w refl))

-- a line with its end
lines-line : (c : Line) (e rest : List ℕ) → NoLf c → End c e → lines (c ++ (e ++ rest)) ≡ c ∷ lines rest
lines-line [] e rest f (inl q) = rw q (lines-cr cr (lf ∷ rest) refl refl ∙ lines-lf lf rest refl)
lines-line [] e rest f (inr (q, n)) = rw q (lines-lf lf rest refl)
lines-line (b ∷ c) e rest (n, f) h =
    lines_other b (c ++ (e ++ rest)) (ne_eqb b lf n)
    (and-false (eqb b cr) (starts_lf (c ++ (e ++ rest))) (λ w. inside-line b c e rest f h (eqb-true b cr w)))
    ∙ ap (grow b) (lines-line c e rest f (end-tail b c e h))

-- a last line without its end
lines-last : (b : ℕ) (c : Line) → NoLf (b ∷ c) → lines (b ∷ c) ≡ (b ∷ c) ∷ []
lines-last b [] (n, f) = lines_other b [] (ne_eqb b lf n) (and-false (eqb b cr) false (λ w. refl)) ∙ ap (grow b) lines-nil
lines-last b (x ∷ c) (n, f) =
    lines_other b (x ∷ c) (ne_eqb b lf n) (and-false (eqb b cr) (eqb x lf) (λ w. ne_eqb x lf f.0)) ∙ ap (grow b) (lines-last x c f)

pub lines-unique : (text : List ℕ) (ls : List Line) → Lines text ls → ls ≡ lines text
lines-unique text [] h = rw (h, lines-nil) refl
lines-unique text (c ∷ ls) (f, inl (rest, e, l)) =
    ap (c ∷◌) (lines-unique rest ls l) ∙ sym (ap lines e.whole ∙ lines-line c e.ending rest f e.end)
lines-unique text (c ∷ ls) (f, inr u) = ap (c ∷◌) u.last ∙ sym (ap lines u.whole ∙ last c f u.some)
  where
    last : (d : Line) → NoLf d → ¬ (d ≡ []) → lines d ≡ d ∷ []
    last [] g n = absurd (n refl)
    last (b ∷ d) g n = lines-last b d g

pub lines_same : (text : List ℕ) (ls ms : List Line) → Lines text ls → Lines text ms → ls ≡ ms
lines_same text ls ms h k = lines-unique text ls h ∙ sym (lines-unique text ms k)

pub lines-free : (text : List ℕ) (ls : List Line) → Lines text ls → Each NoLf ls
lines-free text [] h = tt
lines-free text (c ∷ ls) (f, inl (rest, e, l)) = (f, lines-free rest ls l)
lines-free text (c ∷ ls) (f, inr u) = (f, rw u.last tt)

-- each line with CR LF after it
abbrev pub join_lines : List Line → List ℕ
join_lines [] = []
join_lines (c ∷ ls) = c ++ (cr ∷ lf ∷ join_lines ls)

pub lines-joined : (ls : List Line) → Each NoLf ls → Lines (join_lines ls) ls
lines-joined [] h = refl
lines-joined (c ∷ ls) (f, h) = (f, inl (join_lines ls, record { ending = cr ∷ lf ∷ []; whole = refl; end = inl refl }, lines-joined ls h))
