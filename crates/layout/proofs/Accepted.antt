-- A text is accepted exactly if it spells a graph within the limits.
use Prim.Native.Nat.{ℕ, suc, ◌≤◌}
use mathlib.Core.Path.{◌≡◌, refl, sym, ap, subst, ◌∙◌}
use mathlib.Core.Logic.{inl, inr}
use mathlib.Core.List.{List}
use native.Mathlib.Omega.{arith}
use lib.ListN.{length}
use Rattle.std.specs.Prelude.{Err, Ok}
use Rattle.task.specs.declared.refusal.Refusal.{Refusal}
use Rattle.lists.proofs.Apart.{unequal}
use Rattle.task.specs.declared.refusal.Refusal.TheVariants.{BeyondLimit, BrokenLayout, WrongLength}
use Rattle.layout.specs.Marks.{Line}
use Rattle.layout.specs.Tasks.{Task, edges_of, Tables, tables_of}
use Rattle.layout.specs.Layout.{Keeps, Spells}
use Rattle.layout.specs.Reader.{lines, spelled, verdict, read_as, onto, laid, read_text}
use Rattle.layout.specs.Tables.{Beyond, Exceeds, Lent, Within}
use Rattle.layout.proofs.Tables.{weights-length}
use Rattle.layout.proofs.Lines.{lines_are}
use Rattle.layout.proofs.Unique.{keeps-unique, spells-keeps}
use Rattle.layout.proofs.Begun.{rows-within}
use Rattle.layout.proofs.Reached.{at_last, pre-within}
use Rattle.layout.proofs.Judged.{Judged, as-spelled, as-broken, as-over, judged}
use Rattle.layout.proofs.Begins.{keeps-fits}
use Rattle.layout.proofs.Answers.{Answered, wrong-length, too_long, as-judged, answered, lent-judged, laid-spelled, laid-broken, laid-over}

-- lines that keep the layout with tasks within the limits pass none
pub keeps-within : (ls : List Line) (xs : List Task) → Keeps ls xs → length xs ≤ 1024 → edges_of xs ≤ 8192 → (l : ℕ) → ¬ (Exceeds ls l)
keeps-within ls xs k few edges l h = pre-within (at_last ls k.content) within l h.there h
  where
    within : ¬ (Beyond k.rows)
    within = rw k.job.written (rows-within k.job.n xs (omega (arith, k.job.size)) edges)

-- the graph is read: N and E are answered, and the lists start with its tables and end as they did
abbrev pub ReadAs : (text w s p : List ℕ) → Tables → Type 0
ReadAs text w s p g =
    read_text text w s p ≡ read_as (Ok (length g.weights, length g.preds)) (onto g.weights w) (onto g.starts s) (onto g.preds p)

-- the verdict on lines that keep the layout within the limits
verdict-spelled : (text : List ℕ) (xs : List Task) → Keeps (lines text) xs → length xs ≤ 1024 → edges_of xs ≤ 8192 → verdict text ≡ spelled xs
verdict-spelled text xs k few edges = go (judged text)
  where
    go : Judged (lines text) (verdict text) → verdict text ≡ spelled xs
    go (as-spelled ys e h f g) = e ∙ ap spelled (keeps-unique (lines text) ys xs h k)
    go (as-broken l e f (inl h) n) = absurd (h.1 (keeps-fits (lines text) xs (suc l) k))
    go (as-broken l e f (inr h) n) = absurd (h.1 xs k)
    go (as-over m e h) = absurd (keeps-within (lines text) xs k few edges m h)

read-tasks : (text w s p : List ℕ) (xs : List Task) → Lent text w s p → Keeps (lines text) xs → length xs ≤ 1024 → edges_of xs ≤ 8192
    → ReadAs text w s p (tables_of xs)
read-tasks text w s p xs lent k few edges =
    lent-judged text w s p lent (verdict-spelled text xs k few edges) ∙ rw (laid-spelled w s p xs, weights-length xs) refl

-- a text that spells g within the limits is read as g
pub read-spelled : (text w s p : List ℕ) (g : Tables) → Lent text w s p → Spells text g → Within g → ReadAs text w s p g
read-spelled text w s p g lent spells within =
    subst (ReadAs text w s p) (sym spells.tables)
    (read-tasks text w s p spells.tasks lent (spells-keeps text (lines text) g (lines_are text) spells)
    (omega (arith, inside.0, weights-length spells.tasks)) inside.1)
  where
    inside : Within (tables_of spells.tasks)
    inside = subst Within spells.tables within

kept-spells : (text : List ℕ) (xs : List Task) → Keeps (lines text) xs → Spells text (tables_of xs)
kept-spells text xs k = record { lines = lines text; tasks = xs; parted = lines_are text; keeps = k; tables = refl }

-- what the verdict reads, the text spells
pub spells-verdict : (text : List ℕ) (xs : List Task) → verdict text ≡ spelled xs → Spells text (tables_of xs)
spells-verdict text xs q = go (judged text)
  where
    go : Judged (lines text) (verdict text) → Spells text (tables_of xs)
    go (as-spelled ys v k few edges) = kept-spells text xs (subst (Keeps (lines text)) same k)
      where
        same : ys ≡ xs
        same = cc (sym v ∙ q)
    go (as-broken k v f h m) = unequal cc
    go (as-over m v h) = unequal cc

-- and every accepted text is such a one
pub read-accepted : (text w s p : List ℕ) (n e : ℕ) → (read_text text w s p).answer ≡ Ok (n, e)
    → (g : Tables) × Lent text w s p × Spells text g × Within g × ReadAs text w s p g
read-accepted text w s p n e a = go (answered text w s p)
  where
    -- a refusal is no acceptance
    not-refused : (why : Refusal) → ¬ (read_text text w s p ≡ read_as (Err why) w s p)
    not-refused why q = unequal (cc (ap (λ r. r.answer) q))

    tasks : Lent text w s p → read_text text w s p ≡ laid (verdict text) w s p → Judged (lines text) (verdict text)
        → (g : Tables) × Lent text w s p × Spells text g × Within g × ReadAs text w s p g
    tasks l q (as-spelled xs v k few edges) = (
      tables_of xs,
      l,
      kept-spells text xs k,
      (omega (arith, weights-length xs), edges),
      read-tasks text w s p xs l k few edges,
    )
    tasks l q (as-broken k v f h m) = absurd (not-refused (BrokenLayout (suc k)) (q ∙ rw v (laid-broken w s p (suc k))))
    tasks l q (as-over m v h) = absurd (not-refused BeyondLimit (q ∙ rw v (laid-over w s p)))

    go : Answered text w s p → (g : Tables) × Lent text w s p × Spells text g × Within g × ReadAs text w s p g
    go (wrong-length h q) = absurd (not-refused WrongLength q)
    go (too_long h l q) = absurd (not-refused BeyondLimit q)
    go (as-judged l q) = tasks l q (judged text)
