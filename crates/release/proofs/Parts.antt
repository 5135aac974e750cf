-- The writes.
use Prim.Native.Nat.{ℕ, ◌+◌, ◌*◌, ◌≤◌, ◌<◌}
use mathlib.Core.Path.{◌≡◌, refl}
use mathlib.Core.Bool.{true}
use mathlib.Core.List.{List}
use native.Mathlib.Omega.{arith}
use lib.ListN.{length, get_or, set}
use lib.IntN.{ℤ, pos, ◌+ℤ◌}
use borrow.Author.Tests.{eq-eqb, ne_eqb}
use Rattle.std.specs.Prelude.{Ok}
use Rattle.task.specs.declared.Ends.{Ends}
use Rattle.task.specs.declared.Row.{Row}
use Rattle.task.specs.declared.TaskId.{TaskId}
use Rattle.task.specs.declared.WorkerId.{WorkerId}
use Rattle.task.specs.declared.StepOutcome.TheVariants.{Released}
use Rattle.task.specs.declared.ReleaseOutcome.TheVariants.{DegreeLeft, Placed}
use Rattle.ring.specs.Ring.{Sound, ends_at, rings_of, appended_at, Inside}
use Rattle.ring.proofs.Inside.{ring-inside}
use Rattle.rules.specs.Memory.{with_places}
use Rattle.rules.specs.Words.{counter_fits}
use Rattle.rules.specs.Steps.{advanced}
use Rattle.release.specs.Release.{Words, words_of}
use Rattle.release.specs.Parts.{advanced_row, Lowered, Placeable, Joined}

-- The row after a successor.
module _ (row : Row) (count read cursor : ℕ) where
  pub advance-last : row.cursor + 1 ≡ count → read ≡ row.read + 1 → cursor ≡ 0
      → with_places read row.write cursor row ≡ advanced_row count row
  unfolding advanced
  advance-last e f g = rw (f, g, eq-eqb _ _ e)

  pub advance-on : ¬ (row.cursor + 1 ≡ count) → read ≡ row.read → cursor ≡ row.cursor + 1
      → with_places read row.write cursor row ≡ advanced_row count row
  unfolding advanced
  advance-on n f g = rw (f, g, ne_eqb _ _ n)

-- The degree stays above 0.
pub lower-made : (row : Row) (t : TaskId) (count left accepted : ℕ) (d run : List ℕ) (after : Row) → after ≡ advanced_row count row
    → Lowered row t count left accepted d run (set d t.0 left) (set run 1 (accepted + 1)) (Ok ((Released (DegreeLeft left)), after))
unfolding Lowered
lower-made row t count left accepted d run after f = (refl, (refl, rw f refl))

-- The task joins ring y, that of owner o filled by worker i.
module _ (p k i : ℕ) (row : Row) (t : TaskId) (count : ℕ) (o : WorkerId) (both : Ends) (weight accepted : ℕ) (x : Words)
    (z : Placeable p k i row t.0 count o.0 both weight accepted x) (y : ℕ) (made : (y ≡ o.0 * p + i) × (y < p * p)) where
  pub ring-ready : Inside k y (rings_of x.rings x.ends) × ((both ≡ ends_at x.ends y) × Sound k both)
  ring-ready = (
    ring-inside k (p * p) y x.rings x.ends z.few_slots z.rings z.all_ends made.1,
    (rw made.0 z.ends, z.sound),
  )

  pub ring-counter : (y < length x.counters) × ((counter_fits (get_or x.counters y (pos 0)) ≡ true) × (weight ≤ 65535))
  ring-counter = (omega (arith, z.counters, made.1), (rw made.0 z.counter, z.light))

  pub place-made : (rings ends : List ℕ) → rings_of rings ends ≡ appended_at k y t.0 (rings_of x.rings x.ends)
      → (counters : List ℤ) → counters ≡ set x.counters y (get_or x.counters y (pos 0) +ℤ pos weight)
      → (after : Row) → after ≡ advanced_row count row
      → Joined p k i row t count o weight accepted x
      (words_of (set x.degrees t.0 0) rings ends counters (set x.run 1 (accepted + 1))) (Ok ((Released (Placed t o)), after))
  unfolding Joined
  place-made rings ends hr counters hc after f = (refl, (rw (← made.0) hr, (rw (← made.0) hc, (refl, rw f refl))))
