-- The promises about the reader's answers.
use Prim.Native.Nat.{ℕ, suc, ◌≤◌, ◌<◌}
use mathlib.Core.Path.{◌≡◌, refl, sym, ap, subst, ◌∙◌}
use mathlib.Core.Logic.{◌⊎◌, inl, inr}
use mathlib.Core.List.{List, [], ◌∷◌}
use native.Mathlib.Omega.{arith}
use native.Mathlib.Decide.{ℕ_discrete, dec_lt}
use lib.ListN.{length, get_or, take}
use Rattle.std.specs.Prelude.{Err}
use Rattle.task.specs.declared.refusal.Refusal as why
use Rattle.task.specs.declared.refusal.Refusal.TheVariants.{BeyondLimit, BrokenLayout, WrongLength}
use Rattle.lists.proofs.Apart.{unequal}
use Rattle.lists.proofs.Decided.{stable}
use Rattle.task.specs.Refusals.{Said, refused, graph_read, wrong_length, beyond_limit, broken_layout, read_says, ReadAnswer}
use Rattle.task.specs.Rows.{Refusal, row, only, Follows}
use Rattle.task.proofs.Rows.{follows-none, follows-given, follows-passed}
use Rattle.layout.specs.Marks.{Line, Numbers}
use Rattle.layout.specs.Tasks.{Task, Tables, edges_of, tables_of}
use Rattle.layout.specs.Layout.{NoLf, Lines, Keeps, Spells}
use Rattle.layout.specs.Reader.{Verdict, spelled, broken, over, verdict, Read, read_as, laid, read_text}
use Rattle.layout.specs.Tables.{Begins, Breaks, Beyond, Fits, Exceeds, LentWrong, reader_rows}
use Rattle.layout.proofs.Each.{each_take}
use Rattle.layout.proofs.Unique.{spells-keeps}
use Rattle.layout.proofs.Lines.{lines-unique, lines-free}
use Rattle.layout.proofs.Judged.{Judged, as-spelled, as-broken, as-over, judged}
use Rattle.layout.proofs.Begins.{fits-take, begins-take, keeps-fits, begins-fits, fits-begins}
use Rattle.layout.proofs.Answers.{Answered, wrong-length, too_long, as-judged, answered, lent-right, laid-spelled, laid-broken, laid-over}
use Rattle.layout.proofs.Accepted.{keeps-within}

-- n is small where no limit is passed
within-small : (rows : List Numbers) → ¬ (Beyond rows) → get_or (get_or rows 0 []) 0 0 < 65535
within-small [] h = omega arith
within-small (first ∷ rows) h = stable (dec_lt (get_or first 0 0) 65535) (λ m. h (inl (omega arith)))

-- the text's lines
module _ (text : List ℕ) (ls : List Line) (parted : Lines text ls) where
  -- the row of 13
  abbrev Broken : ℕ → Type 0
  Broken l = Breaks text ls l × ((k : ℕ) → k ≤ l → ¬ (Exceeds ls k))

  -- why line l, after so many, breaks the layout: in terms of texts, and in terms of rows
  abbrev Stops : ℕ → ℕ → Type 0
  Stops before l = ((l ≤ length ls) × ¬ (Begins (take l ls))) ⊎ ((before ≡ length ls) × ((g : Tables) → ¬ (Spells text g)))

  abbrev Misfits : ℕ → Type 0
  Misfits k = ((k < length ls) × ¬ (Fits (take (suc k) ls))) ⊎ ((k ≡ length ls) × ((xs : List Task) → ¬ (Keeps ls xs)))

  -- first lines that fit and pass no limit begin a text
  fitting-begins : (l : ℕ) → l ≤ length ls → Fits (take l ls) → ¬ (Exceeds ls l) → Begins (take l ls)
  fitting-begins l h f n =
      fits-begins (take l ls) (each_take NoLf l ls (lines-free text ls parted)) f
      (within-small f.rows (λ b. n (record { there = h; fits = f; beyond = b })))

  -- a text whose lines keep the layout breaks it nowhere
  kept-unbroken : (xs : List Task) → Keeps ls xs → (l : ℕ) → ¬ (Broken l)
  kept-unbroken xs k l (b, n) = go b.breaks
    where
      go : ¬ (Stops b.before l)
      go (inl h) = h.1 (fitting-begins l h.0 (keeps-fits ls xs l k) (n l (omega arith)))
      go (inr h) = h.1 (tables_of xs) (record { lines = ls; tasks = xs; parted = parted; keeps = k; tables = refl })

  -- one that passes a limit does not break it before that
  passed-unbroken : (m : ℕ) → Exceeds ls m → (l : ℕ) → ¬ (Broken l)
  passed-unbroken m h l (b, n) = go b.breaks
    where
      early : l < m
      early = stable (dec_lt l m) (λ q. n m (omega arith) h)

      go : ¬ (Stops b.before l)
      go (inl q) = q.1 (fitting-begins l q.0 (fits-take ls l m (omega (arith, early)) h.fits) (n l (omega arith)))
      go (inr q) = omega (arith, early, h.there, b.next, q.0)

  -- the first k lines fit and pass no limit, and with the next one they don't fit
  module _ (k : ℕ) (fits : Fits (take k ls)) (misfits : Misfits k) (within : (m : ℕ) → m ≤ k → ¬ (Exceeds ls m)) where
    inside : k ≤ length ls
    inside = go misfits
      where
        go : Misfits k → k ≤ length ls
        go (inl h) = omega (arith, h.0)
        go (inr h) = omega (arith, h.0)

    begun : Begins (take k ls)
    begun = fitting-begins k inside fits (within k (omega arith))

    stops : Misfits k → Stops k (suc k)
    stops (inl h) = inl (h.0, λ b. h.1 (begins-fits (take (suc k) ls) b))
    stops (inr h) = inr (h.0, λ g t. h.1 t.tasks (spells-keeps text ls g parted t))

    -- later lines neither begin a text nor pass a limit
    unbegun : (m : ℕ) → k < m → m ≤ length ls → ¬ (Fits (take m ls))
    unbegun m l q f = go misfits
      where
        go : ¬ (Misfits k)
        go (inl h) = h.1 (fits-take ls (suc k) m l f)
        go (inr h) = omega (arith, h.0)

    breaks-there : Broken (suc k)
    breaks-there = (record { before = k; next = refl; begins = begun; breaks = stops misfits }, λ m l h. go m h (dec_lt k m))
      where
        go : (m : ℕ) → Exceeds ls m → ¬ (Dec (k < m))
        go m h (yes q) = unbegun m q h.there h.fits
        go m h (no q) = within m (omega arith) h

    breaks-only : (l : ℕ) → Broken l → l ≡ suc k
    breaks-only l (b, n) = stable (ℕ_discrete l (suc k)) (λ q. go q (dec_lt b.before k) b.breaks)
      where
        reach : Stops b.before l → b.before ≤ length ls
        reach (inl r) = omega (arith, b.next, r.0)
        reach (inr r) = omega (arith, r.0)

        go : ¬ (l ≡ suc k) → Dec (b.before < k) → ¬ (Stops b.before l)
        go q (yes h) (inl r) = r.1 (begins-take ls l k (omega (arith, b.next)) begun)
        go q (yes h) (inr r) = omega (arith, r.0, inside)
        go q (no h) r = unbegun b.before (omega (arith, b.next)) (reach r) (begins-fits (take b.before ls) b.begins)

  -- the rows on the lines, by the verdict
  abbrev breaking : Refusal
  breaking = row broken_layout Broken

  abbrev passing : Refusal
  passing = row beyond_limit (only 0 ((l : ℕ) × Exceeds ls l))

  verdict-follows : (w s p : List ℕ) (v : Verdict) → Judged ls v → Follows (breaking ∷ passing ∷ []) (read_says (laid v w s p).answer)
  verdict-follows w s p v (as-spelled xs e k few edges) =
      let said : Said = graph_read (length xs) (edges_of xs) in
      rw (e, laid-spelled w s p xs)
      (follows-passed breaking (passing ∷ []) said (kept-unbroken xs k)
      (follows-passed passing [] said (λ d c. keeps-within ls xs k few edges c.1.0 c.1.1) (follows-none said tt)))
  verdict-follows w s p v (as-broken k e f h m) =
      rw (e, laid-broken w s p (suc k)) (follows-given breaking (passing ∷ []) (suc k) (breaks-there k f h m) (breaks-only k f h m))
  verdict-follows w s p v (as-over m e h) =
      rw (e, laid-over w s p)
      (follows-passed breaking (passing ∷ []) (refused beyond_limit 0) (passed-unbroken m h) (follows-given passing [] 0 (refl, (m, h)) (λ d c. c.0)))

-- the reader's answer follows the published table
pub read-follows : (text : List ℕ) (ls : List Line) (w s p : List ℕ) → Lines text ls
    → Follows (reader_rows text ls w s p) (read_says (read_text text w s p).answer)
read-follows text ls w s p h = go (answered text w s p)
  where
    wrong : Refusal
    wrong = row wrong_length (only 0 (LentWrong w s p))

    long : Refusal
    long = row beyond_limit (only 0 (65536 < length text))

    later : List Refusal
    later = breaking text ls h ∷ passing text ls h ∷ []

    go : Answered text w s p → Follows (wrong ∷ long ∷ later) (read_says (read_text text w s p).answer)
    go (wrong-length c e) = rw e (follows-given wrong (long ∷ later) 0 (refl, c) (λ d x. x.0))
    go (too_long n c e) =
        rw e (follows-passed wrong (long ∷ later) (refused beyond_limit 0) (λ d x. n x.1) (follows-given long later 0 (refl, c) (λ d x. x.0)))
    go (as-judged l e) =
        let said : Said = read_says (laid (verdict text) w s p).answer in
        let j : Judged ls (verdict text) = subst (λ (c : List Line). Judged c (verdict text)) (sym (lines-unique text ls h)) (judged text) in
        rw e (follows-passed wrong (long ∷ later) said (λ d x. lent-right text w s p l x.1)
        (follows-passed long later said (λ d x. omega (arith, x.1, l.short)) (verdict-follows text ls h w s p (verdict text) j)))

-- a refused text leaves the lists
pub refused-same : (text w s p : List ℕ) (why : why.Refusal) → (read_text text w s p).answer ≡ Err why
    → read_text text w s p ≡ read_as (Err why) w s p
refused-same text w s p why e = go (answered text w s p)
  where
    left : (a : ReadAnswer) → read_text text w s p ≡ read_as a w s p → read_text text w s p ≡ read_as (Err why) w s p
    left a q = q ∙ ap (λ (b : ReadAnswer). read_as b w s p) (sym (ap (λ (r : Read). r.answer) q) ∙ e)

    judging : (v : Verdict) → read_text text w s p ≡ laid v w s p → read_text text w s p ≡ read_as (Err why) w s p
    judging (spelled xs) q = unequal (cc (ap (λ (r : Read). r.answer) (q ∙ laid-spelled w s p xs)))
    judging (broken l) q = left (Err (BrokenLayout l)) (q ∙ laid-broken w s p l)
    judging over q = left (Err BeyondLimit) (q ∙ laid-over w s p)

    go : Answered text w s p → read_text text w s p ≡ read_as (Err why) w s p
    go (wrong-length c q) = left (Err WrongLength) q
    go (too_long c l q) = left (Err BeyondLimit) q
    go (as-judged l q) = judging (verdict text) q
