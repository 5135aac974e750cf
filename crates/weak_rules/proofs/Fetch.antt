-- Fetch follows its rows of the table.
use Prim.Native.Nat.{ℕ}
use mathlib.Core.Path.{◌≡◌, sym, ap, ◌∙◌}
use lib.ListN.{drop}
use Rattle.task.specs.declared.refusal.Refusal.TheVariants.{Damaged, NothingThere}
use Rattle.lists.proofs.Told.{lt-told, only-told}
use Rattle.weak_task.specs.Types.{Copy}
use Rattle.weak_task.specs.Says.{outcome_says}
use Rattle.ring.specs.Ring.{Empty}
use Rattle.choice.specs.Search.{Found, unsound, none, at}
use Rattle.weak_rules.specs.Memory.{Mem, ring_number, head_item, pointer_in}
use Rattle.weak_rules.specs.Steps.{scan, fetch_copy, fetch_from, fetch_rule}
use Rattle.weak_rules.specs.Tables.{scanned, scanned_ends, NextCopy, fetch_rows}
use Rattle.weak_rules.proofs.Words.{copy_told}
use Rattle.weak_rules.proofs.Plans.{PlanFollows, given-row, passed-row, checked-row, counted-row}
use Rattle.plans.proofs.Searches.{Looked, stop-unique, all-not-bad, stop-not-bad, stop-not-all, scan-looked}

module _ (p k i : ℕ) (m : Mem) where
  -- two first rings that aren't empty are the same
  next-unique : (c d : Copy) → NextCopy p k i m c → NextCopy p k i m d → c ≡ d
  next-unique c d (x, a, h) (y, b, l) = sym h ∙ ap (λ (e : ℕ). head_item k m (scanned p i m e)) (stop-unique p k Empty (scanned_ends p i m) a b) ∙ l

  -- the rows after 10, where c is the next copy
  copy-follows : (j : ℕ) (c : Copy) → NextCopy p k i m c → PlanFollows (drop 3 (fetch_rows p k i m)) (fetch_copy p k i m j c)
  unfolding fetch_copy
  copy-follows j c n =
      checked-row outcome_says _ _ _ (only-told _ c n (λ d h. next-unique d c h n) (copy_told m c)) (λ _. counted-row m _ _)

  -- the rows after the pointer's, by what the scan finds
  from-follows : (f : Found) → Looked p k Empty (scanned_ends p i m) (pointer_in m i) f
      → PlanFollows (drop 1 (fetch_rows p k i m)) (fetch_from p k i m f)
  unfolding fetch_from
  from-follows unsound bad = given-row Damaged _ bad
  from-follows none all =
      passed-row outcome_says Damaged _ (fetch_from p k i m none) (all-not-bad p k Empty (scanned_ends p i m) all)
      (given-row NothingThere _ all)
  from-follows (at j) (e, s, q) =
      passed-row outcome_says Damaged _ (fetch_from p k i m (at j)) (stop-not-bad p k Empty (scanned_ends p i m) s)
      (passed-row outcome_says NothingThere _ (fetch_from p k i m (at j)) (stop-not-all p k Empty (scanned_ends p i m) s)
      (copy-follows j (head_item k m (ring_number p i j)) (e, s, ap (λ (o : ℕ). head_item k m (ring_number p i o)) (sym q))))

pub fetch-follows : (p k i : ℕ) (m : Mem) → PlanFollows (fetch_rows p k i m) (fetch_rule p k i m)
unfolding fetch_rule
fetch-follows p k i m =
    checked-row outcome_says _ _ _ (lt-told (pointer_in m i) p) (λ _. from-follows p k i m (scan p k i m) (scan-looked p k i m))
