-- What a planned Fetch of a weak job writes: the memory that it leaves is that with the updates of its plan.
use Rattle.std.specs.Prelude.{ℕ, ◌≤◌, ◌<◌, ◌≡◌, List, length, get_or, set}
use Rattle.lists.specs.Circles.{after}
use Rattle.task.specs.Types.{engine}
use Rattle.task.specs.declared.Ends.{Ends}
use Rattle.task.specs.declared.Step.TheVariants as step-name
use Rattle.weak_task.specs.Types.{Copy}
use Rattle.weak_task.specs.Rows.{with_hand, with_pointer}
use Rattle.weak_task.specs.declared.TaskCopy.{TaskCopy}
use Rattle.weak_task.specs.declared.WeakRow.{WeakRow}
use Rattle.ring.specs.Ring.{Sound, Empty, ends_at}
use Rattle.memory.specs.Field as list
use Rattle.memory.specs.Shape.{fixed_length}
use Rattle.memory.specs.Updates.{written}
use Rattle.weak_rules.specs.Memory.{weak, Mem, ring_number, row_in}
use Rattle.weak_rules.specs.Plans.{with_count}
use Rattle.weak_admission.specs.Admission.{entered}
use Rattle.weak_fetch.specs.Fetch.{lent}
use Rattle.weak_fetch.specs.Plan.{take_updates}

-- the row after a Fetch from the ring filled by j
abbrev pub taken_row : ℕ → ℕ → TaskCopy → WeakRow → WeakRow
taken_row p j held row = with_pointer (after p j) (with_hand row.phase held row)

-- the lists that are written, of their lengths, and what lets the head of the ring filled by j be taken: its ends, and the accepted word
pub record Takeable (p k i : ℕ) (ends run : List ℕ) (j : ℕ) (both : Ends) (accepted : ℕ) : Type 0 where
  pub few_workers : p ≤ engine.workers
  pub few_slots : k ≤ engine.slots
  pub worker : i < p
  pub filler : j < p
  pub all_ends : length ends ≡ fixed_length weak p k list.ends
  pub all_words : length run ≡ fixed_length weak p k list.run
  pub reads : both ≡ ends_at ends (ring_number p i j)
  pub sound : Sound k both
  pub waits : ¬ (Empty both)
  pub accepted_word : accepted ≡ get_or run 1 0
  pub few : accepted ≤ 65535

-- whatever the other lists hold, `row` being worker i's in the phase that Fetch leads to
unfoldable pub WritesFetch : ℕ → ℕ → ℕ → WeakRow → ℕ → Copy → List ℕ → List ℕ → List ℕ → List ℕ → WeakRow → Type 0
WritesFetch p k i row j c ends ends' run run' r =
    (m : Mem) → row ≡ entered step-name.Fetch (row_in m i)
    → lent m m.rings ends' run' (set m.rows i r)
    ≡ written
    (with_count (lent m m.rings ends run m.rows) (take_updates p k i j c (lent m m.rings ends run m.rows)))
    (lent m m.rings ends run m.rows)
