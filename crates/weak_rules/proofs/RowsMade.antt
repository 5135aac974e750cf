-- The row that an accepted step leaves its worker: its parts together.
use Prim.Native.Nat.{ℕ, ◌+◌, ◌%◌}
use mathlib.Core.Path.{◌≡◌, refl}
use mathlib.Core.List.{List}
use lib.ListN.{set}
use Rattle.task.specs.declared.Step.{Step}
use Rattle.task.specs.declared.Step.TheVariants.{Fetch, Start, Complete, Release}
use Rattle.task.specs.Types.{nil}
use Rattle.weak_task.specs.Types.{Copy, copy, idle}
use Rattle.weak_task.specs.declared.WeakRow.{WeakRow}
use Rattle.weak_task.specs.declared.WeakOutcome.{WeakOutcome}
use Rattle.memory.specs.Family.{Places}
use Rattle.memory.specs.Updates.{updated, written}
use Rattle.memory.proofs.Fields.{set-again}
use Rattle.weak_rules.specs.Memory.{weak, Mem, row_in, held}
use Rattle.weak_rules.specs.Updates.{Update}
use Rattle.weak_rules.specs.Plans.{with_count}
use Rattle.weak_rules.specs.Moves.{copies, sink, inner, first, later, Made}

-- a row with another phase and held copy, another pointer, other buffer places
abbrev pub with_hand : ℕ → Copy → WeakRow → WeakRow
with_hand phase held r = weak.with_hand (record { phase = phase; held = held }) r

abbrev pub with_pointer : ℕ → WeakRow → WeakRow
with_pointer x r = weak.with_pointer x r

abbrev pub moved_to : Places → WeakRow → WeakRow
moved_to to r = weak.with_places to r

abbrev let_go : WeakRow → WeakRow
let_go r = with_hand 0 (copy nil.0 nil.0) r

module _ (p k i : ℕ) (m : Mem) (o : WeakOutcome) (us : List Update) where
  -- the places once a task has joined the buffer
  abbrev joined : Places
  joined = record { read = (row_in m i).read; write = (row_in m i).write + 1; cursor = (row_in m i).cursor }

  abbrev pub row_made : (s : Step) → Made s p k i m o us → WeakRow
  row_made Fetch f = with_pointer ((f.filler + 1) % p) (with_hand 1 f.item (row_in m i))
  row_made Start f = with_hand 2 (held m i) (row_in m i)
  row_made Complete (copies f) = let_go (row_in m i)
  row_made Complete (sink f) = let_go (row_in m i)
  row_made Complete (inner f) = let_go (moved_to joined (row_in m i))
  row_made Release (first f) = moved_to f.to (row_in m i)
  row_made Release (later f) = moved_to f.to (row_in m i)

  pub rows_made : (s : Step) (f : Made s p k i m o us) → (written (with_count m us) m).rows ≡ set m.rows i (row_made s f)
  unfolding written updated
  rows_made Fetch f = rw f.updates (set-again m.rows i _ idle (with_pointer ((f.filler + 1) % p)))
  rows_made Start f = rw f.updates refl
  rows_made Complete (copies f) = rw f.updates refl
  rows_made Complete (sink f) = rw f.updates refl
  rows_made Complete (inner f) = rw f.updates (set-again m.rows i _ idle (moved_to joined))
  rows_made Release (first f) = rw f.updates refl
  rows_made Release (later f) = rw f.updates refl
