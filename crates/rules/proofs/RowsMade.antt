-- The row that an accepted step leaves its worker: its parts together.
use Prim.Native.Nat.{ℕ, ◌+◌, ◌%◌}
use mathlib.Core.Path.{◌≡◌, refl}
use mathlib.Core.List.{List}
use lib.ListN.{set}
use Rattle.task.specs.Types.{nil, idle}
use Rattle.task.specs.declared.Row.{Row}
use Rattle.task.specs.declared.Step.{Step}
use Rattle.task.specs.declared.Step.TheVariants.{Fetch, Start, Complete, Release}
use Rattle.task.specs.declared.StepOutcome.{StepOutcome}
use Rattle.memory.specs.Updates.{updated, written}
use Rattle.memory.proofs.Fields.{set-again}
use Rattle.rules.specs.Memory.{Mem, row_in, with_hand, with_pointer, with_places, moved_to}
use Rattle.rules.specs.Updates.{Update}
use Rattle.rules.specs.Plans.{with_count}
use Rattle.rules.specs.Moves.{sink, inner, waiting, placed, Made}

module _ (p k i : ℕ) (m : Mem) (o : StepOutcome) (us : List Update) where
  abbrev pub row_made : (s : Step) → Made s p k i m o us → Row
  row_made Fetch f = with_pointer ((f.filler + 1) % p) (with_hand 1 (record { 0 = f.task }) (row_in m i))
  row_made Start f = with_hand 2 (row_in m i).held (row_in m i)
  row_made Complete (sink f) = with_hand 0 nil (row_in m i)
  row_made Complete (inner f) = with_hand 0 nil (with_places (row_in m i).read ((row_in m i).write + 1) (row_in m i).cursor (row_in m i))
  row_made Release (waiting f) = moved_to f.to (row_in m i)
  row_made Release (placed f) = moved_to f.to (row_in m i)

  pub rows_made : (s : Step) (f : Made s p k i m o us) → (written (with_count m us) m).rows ≡ set m.rows i (row_made s f)
  unfolding written updated
  rows_made Fetch f = rw f.updates (set-again m.rows i _ idle (with_pointer ((f.filler + 1) % p)))
  rows_made Start f = rw f.updates refl
  rows_made Complete (sink f) = rw f.updates refl
  rows_made Complete (inner f) = rw f.updates (set-again m.rows i _ idle (with_places (row_in m i).read ((row_in m i).write + 1) (row_in m i).cursor))
  rows_made Release (waiting f) = rw f.updates refl
  rows_made Release (placed f) = rw f.updates refl
