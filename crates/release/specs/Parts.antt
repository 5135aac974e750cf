-- What the writes of Release ask for, and what they leave.
use Rattle.std.specs.Prelude.{ℕ, ◌+◌, ◌≤◌, ◌<◌, ◌≡◌, true, List, length, get_or, set, pos, ◌+ℤ◌, Ok}
use Rattle.admission.specs.Admission.{Stepped}
use Rattle.task.specs.Types.{engine}
use Rattle.task.specs.declared.Ends.{Ends}
use Rattle.task.specs.declared.Row.{Row}
use Rattle.task.specs.declared.TaskId.{TaskId}
use Rattle.task.specs.declared.WorkerId.{WorkerId}
use Rattle.task.specs.declared.StepOutcome.TheVariants.{Released}
use Rattle.task.specs.declared.ReleaseOutcome.TheVariants.{DegreeLeft, Placed}
use Rattle.ring.specs.Ring.{Sound, ends_at, rings_of, appended_at}
use Rattle.memory.specs.Field as list
use Rattle.memory.specs.Shape.{fixed_length}
use Rattle.rules.specs.Memory.{plain, ring_number, moved_to}
use Rattle.rules.specs.Words.{counter_fits}
use Rattle.rules.specs.Steps.{advanced}
use Rattle.release_plan.specs.Picks.{Cursor}
use Rattle.release.specs.Release.{Words}

-- the row after a successor: its places advance
abbrev pub advanced_row : ℕ → Row → Row
advanced_row count row = moved_to (advanced count row) row

-- a degree among n can be lowered, and the accepted word, one of so many words, counted
pub record Lowerable (r : Row) (t count accepted n words : ℕ) : Type 0 where
  pub at : Cursor r t count n
  pub few : accepted ≤ 65535
  pub run : words ≡ fixed_length plain 0 0 list.run

-- the degree that is left, one step more, and the row after the successor
unfoldable pub Lowered : Row → TaskId → (count left accepted : ℕ) → (d run d' run' : List ℕ) → Stepped → Type 0
Lowered row t count left accepted d run d' run' r =
    (d' ≡ set d t.0 left) × ((run' ≡ set run 1 (accepted + 1)) × (r ≡ Ok (Released (DegreeLeft left), advanced_row count row)))

-- the task can join the ring of owner o filled by worker i, whose ends are `both`, and its weight that ring's counter
pub record Placeable (p k i : ℕ) (r : Row) (t count o : ℕ) (both : Ends) (weight accepted : ℕ) (x : Words) : Type 0 where
  pub worker : i < p
  pub few_workers : p ≤ engine.workers
  pub few_slots : k ≤ engine.slots
  pub rings : length x.rings ≡ fixed_length plain p k list.rings
  pub all_ends : length x.ends ≡ fixed_length plain p k list.ends
  pub counters : length x.counters ≡ fixed_length plain p k list.counters
  pub run : length x.run ≡ fixed_length plain p k list.run
  pub at : Cursor r t count (length x.degrees)
  pub owner : o < p
  pub ends : both ≡ ends_at x.ends (ring_number p o i)
  pub sound : Sound k both
  pub counter : counter_fits (get_or x.counters (ring_number p o i) (pos 0)) ≡ true
  pub light : weight ≤ 65535
  pub few : accepted ≤ 65535

-- the degree is 0, the task the ring's last, its weight in that ring's counter; one step more, and the row after the successor
unfoldable pub Joined : (p k i : ℕ) → Row → TaskId → ℕ → WorkerId → (weight accepted : ℕ) → Words → Words → Stepped → Type 0
Joined p k i row t count o weight accepted x x' r =
    (x'.degrees ≡ set x.degrees t.0 0)
    × ((rings_of x'.rings x'.ends ≡ appended_at k (ring_number p o.0 i) t.0 (rings_of x.rings x.ends))
    × ((x'.counters ≡ set x.counters (ring_number p o.0 i) (get_or x.counters (ring_number p o.0 i) (pos 0) +ℤ pos weight))
    × ((x'.run ≡ set x.run 1 (accepted + 1)) × (r ≡ Ok (Released (Placed t o), advanced_row count row)))))
