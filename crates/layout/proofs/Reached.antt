-- A place in a text's lines, with the rows of the lines before it: what those rows tell of the lines up to there.
use Prim.Native.Nat.{ℕ, suc, ◌+◌, ◌≤◌}
use mathlib.Core.Path.{◌≡◌, refl, sym, ap, ◌∙◌}
use mathlib.Core.Bool.{true, false}
use mathlib.Core.Logic.{inl, inr}
use mathlib.Core.Option.{some}
use mathlib.Core.List.{List, [], ◌∷◌, ◌++◌, append-nil}
use native.Mathlib.Omega.{arith}
use lib.ListN.{length, take, drop, length-append, take-append-drop}
use lib.Seq.{append_snoc, take-append-le, take_at}
use Rattle.layout.specs.Marks.{Line, Numbers}
use Rattle.layout.specs.Tasks.{Task}
use Rattle.layout.specs.Layout.{Reads, Content, Job}
use Rattle.layout.specs.Reader.{skipped, row_of}
use Rattle.layout.specs.Tables.{Beyond, Fits, Exceeds}
use Rattle.layout.proofs.Fields.{skipped-yes, skipped-no, reads-row}
use Rattle.layout.proofs.Contents.{content-unique, content-append, content-split, content-skip}
use Rattle.layout.proofs.TaskRows.{beyond-more}
use Rattle.layout.proofs.Begun.{Start}

-- the lines `pre` are read and have these rows; line l and those after it are ls
pub record At (whole : List Line) (l : ℕ) (ls : List Line) (rows : List Numbers) : Type 0 where
  pub pre : List Line
  pub parts : whole ≡ pre ++ ls
  pub next : l ≡ suc (length pre)
  pub content : Content pre rows

pub at-start : (ls : List Line) → At ls 1 ls []
at-start ls = record { pre = []; parts = refl; next = refl; content = refl }

-- all lines are read
pub at_all : {whole : List Line} {l : ℕ} {rows : List Numbers} → At whole l [] rows → Content whole rows
at_all a = rw (a.parts, append-nil a.pre) a.content

abbrev pub at_last : (ls : List Line) {rows : List Numbers} → Content ls rows → At ls (suc (length ls)) [] rows
at_last ls c = record { pre = ls; parts = sym (append-nil ls); next = refl; content = c }

module _ {whole : List Line} {l : ℕ} {ls : List Line} {rows : List Numbers} (a : At whole l ls rows) where
  pub pre-length : length a.pre + length ls ≡ length whole
  pre-length = omega (arith, ap length a.parts, length-append a.pre ls)

  abbrev pub pre-fits : Start rows → Fits (take (length a.pre) whole)
  pre-fits s = record {
    rows = rows;
    content = rw (a.parts, take_at a.pre ls (length a.pre) refl) a.content;
    later = s.later;
    tasks = s.tasks;
    job = s.job;
  }

  pub pre-exceeds : Start rows → Beyond rows → Exceeds whole (length a.pre)
  pre-exceeds s b = record { there = omega (arith, pre-length); fits = pre-fits s; beyond = b }

  -- the rows of fewer lines are the first of these rows
  pub pre-within : ¬ (Beyond rows) → (m : ℕ) → m ≤ length a.pre → ¬ (Exceeds whole m)
  pre-within w m h p = go (content-split (take m a.pre) (drop m a.pre) rows (rw (take-append-drop m a.pre) a.content))
    where
      fewer : Content (take m a.pre) p.fits.rows
      fewer = rw (ap (take m) a.parts ∙ take-append-le m a.pre ls h) at p.fits.content

      go : (f : List Numbers) × (r : List Numbers) × Content (take m a.pre) f × Content (drop m a.pre) r × (rows ≡ f ++ r) → ⊥
      go (f, r, cf, cr, e) =
          w (rw (e, ← content-unique (take m a.pre) p.fits.rows f fewer cf) (beyond-more p.fits.rows r p.beyond))

module _ {whole : List Line} {l : ℕ} {c : Line} {ls : List Line} {rows : List Numbers} (a : At whole l (c ∷ ls) rows) where
  pub at_next : (new : List Numbers) → Content (c ∷ []) new → At whole (suc l) ls (rows ++ new)
  at_next new h = record {
    pre = a.pre ++ (c ∷ []);
    parts = a.parts ∙ sym (append_snoc a.pre c ls);
    next = omega (arith, a.next, length-append a.pre (c ∷ []));
    content = content-append a.pre (c ∷ []) rows new a.content h;
  }

  pub at-skip : skipped c ≡ true → At whole (suc l) ls rows
  at-skip e = rw (append-nil rows) at (at_next [] (content-skip c (skipped-yes c e)))

-- a line that is not skipped has one row
one-row : (c : Line) (new : List Numbers) → skipped c ≡ false → Content (c ∷ []) new → (row : Numbers) × Reads c row × (new ≡ row ∷ [])
one-row c [] e (s, h) = absurd (skipped-no c e s)
one-row c (row ∷ new) e (inl (s, h)) = absurd (skipped-no c e s)
one-row c (row ∷ new) e (inr (m, r, h)) = (row, r, ap (λ (k : List Numbers). row ∷ k) h)

-- the row of line l is none that may follow
module _ {whole : List Line} {l : ℕ} {c : Line} {ls : List Line} {rows : List Numbers} (a : At whole l (c ∷ ls) rows) (e : skipped c ≡ false)
    (n : (row : Numbers) (later : List Numbers) (xs : List Task) → row_of c ≡ some row → ¬ (Job (rows ++ (row ∷ later)) xs)) where
  cut : take (suc (length a.pre)) whole ≡ a.pre ++ (c ∷ [])
  cut =
      rw (a.parts, ← append_snoc a.pre c ls)
      (take_at (a.pre ++ (c ∷ [])) ls (suc (length a.pre)) (omega (arith, length-append a.pre (c ∷ []))))

  pub not-fits : ¬ (Fits (take (suc (length a.pre)) whole))
  not-fits f = go (content-split a.pre (c ∷ []) f.rows (rw cut at f.content))
    where
      go : (b : List Numbers) × (new : List Numbers) × Content a.pre b × Content (c ∷ []) new × (f.rows ≡ b ++ new) → ⊥
      go (b, new, cb, cn, q) = last (one-row c new e cn)
        where
          last : (row : Numbers) × Reads c row × (new ≡ row ∷ []) → ⊥
          last (row, r, z) =
              n row f.later f.tasks (reads-row c row r)
              (rw (q, content-unique a.pre b rows cb a.content, z, append_snoc rows row f.later) at f.job)
