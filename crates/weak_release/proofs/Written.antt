-- What is asked of the writes, and that they make the plan's updates.
use Prim.Native.Nat.{ℕ, ◌+◌, ◌*◌, ◌≤◌, ◌<◌}
use mathlib.Core.Path.{◌≡◌, refl, ap, ◌∙◌}
use mathlib.Core.Bool.{true}
use mathlib.Core.List.{List}
use native.Mathlib.Omega.{arith}
use lib.ListN.{length, get_or, set}
use lib.IntN.{ℤ, pos, ◌+ℤ◌}
use borrow.Author.Tests.{eq-eqb, ne_eqb}
use Rattle.task.specs.declared.Ends.{Ends}
use Rattle.task.specs.declared.TaskId.{TaskId}
use Rattle.weak_task.specs.Types.{Copy, copy}
use Rattle.weak_task.specs.Rows.{with_places}
use Rattle.weak_task.specs.declared.WeakRow.{WeakRow}
use Rattle.ring.specs.Ring.{Sound, ends_at, Rings, rings_of, appended_at, Inside}
use Rattle.ring.proofs.Inside.{ring-inside}
use Rattle.memory.specs.Updates.{updated, written}
use Rattle.weak_rules.specs.Words.{counter_fits}
use Rattle.weak_rules.specs.Steps.{advanced}
use Rattle.weak_release.specs.Release.{words_of}
use Rattle.weak_release.specs.Written.{advanced_row, Placeable, Raises, with_words, WritesLater, WritesFirst}

-- The row after a successor.
module _ (row : WeakRow) (count read cursor : ℕ) where
  pub advance-last : row.cursor + 1 ≡ count → read ≡ row.read + 1 → cursor ≡ 0
      → with_places read row.write cursor row ≡ advanced_row count row
  unfolding advanced
  advance-last e f g = rw (f, g, eq-eqb _ _ e)

  pub advance-on : ¬ (row.cursor + 1 ≡ count) → read ≡ row.read → cursor ≡ row.cursor + 1
      → with_places read row.write cursor row ≡ advanced_row count row
  unfolding advanced
  advance-on n f g = rw (f, g, ne_eqb _ _ n)

-- Ring q is that of owner o filled by worker i, `both` are its ends.
module _ (p k i : ℕ) (row : WeakRow) (count o : ℕ) (both : Ends) (accepted : ℕ) (rings : List Copy) (ends run : List ℕ)
    (z : Placeable p k i row count o both accepted rings ends run) (q : ℕ) (hq : (q ≡ o * p + i) × (q < p * p)) where
  pub ring-ready : Inside k q (rings_of rings ends) × ((both ≡ ends_at ends q) × Sound k both)
  ring-ready = (ring-inside k (p * p) q rings ends z.few_slots z.all_rings z.all_ends hq.1, (rw hq.0 z.reads, z.sound))

  pub later-written : (t done : TaskId) (rings' : List Copy) (ends' : List ℕ)
      → rings_of rings' ends' ≡ appended_at k q (copy t.0 done.0) (rings_of rings ends)
      → (r : WeakRow) → r ≡ advanced_row count row
      → WritesLater p k i row t done count o rings rings' ends ends' run (set run 1 (accepted + 1)) r
  unfolding WritesLater written updated appended_at
  later-written t done rings' ends' hr r l m h v =
      rw (
        z.accepted_word,
        ap (λ (x : Rings Copy). x.slots) hr,
        ap (λ (x : Rings Copy). x.ends) hr,
        hq.0,
        l,
        ← v.task,
        ← v.completed,
        ← v.count,
        ← h,
      )
      refl

  module _ (weight : ℕ) (counters : List ℤ) (y : Raises p i o weight counters) where
    pub ring-counter : (q < length counters) × ((counter_fits (get_or counters q (pos 0)) ≡ true) × (weight ≤ 65535))
    ring-counter = (omega (arith, y.all_counters, hq.1), (rw hq.0 y.counter, y.light))

    pub first-written : (t done : TaskId) (fixed fixed' : List ℕ) → fixed' ≡ set fixed t.0 o
        → (counters' : List ℤ) → counters' ≡ set counters q (get_or counters q (pos 0) +ℤ pos weight)
        → (rings' : List Copy) (ends' run' : List ℕ) (r : WeakRow) → WritesLater p k i row t done count o rings rings' ends ends' run run' r
        → WritesFirst p k i row t done count o weight (words_of fixed rings ends counters run) (words_of fixed' rings' ends' counters' run') r
    unfolding WritesLater WritesFirst written updated
    first-written t done fixed fixed' a counters' b rings' ends' run' r writes m h v w =
        writes (with_words m (words_of fixed' rings ends counters' run) m.rows) h
        (record { task = v.task; completed = v.completed; count = v.count })
        ∙ rw (a, b, hq.0, ← w, ← v.task) refl
