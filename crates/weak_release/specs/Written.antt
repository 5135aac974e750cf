-- What a planned Release of a weak job writes: the memory that it leaves is that with the updates of its plan.
use Rattle.std.specs.Prelude.{ℕ, ◌*◌, ◌≤◌, ◌<◌, ◌≡◌, true, List, length, get_or, set, ℤ, pos}
use Rattle.task.specs.Types.{engine}
use Rattle.task.specs.declared.Ends.{Ends}
use Rattle.task.specs.declared.TaskId.{TaskId}
use Rattle.weak_task.specs.Types.{Copy}
use Rattle.weak_task.specs.Rows.{with_places}
use Rattle.weak_task.specs.declared.WeakRow.{WeakRow}
use Rattle.ring.specs.Ring.{Sound, ends_at}
use Rattle.memory.specs.Field as list
use Rattle.memory.specs.Memory.{put}
use Rattle.memory.specs.Shape.{fixed_length}
use Rattle.memory.specs.Updates.{written}
use Rattle.weak_rules.specs.Memory.{weak_shape, weak, Mem, ring_number, weight_in, row_in}
use Rattle.weak_rules.specs.Words.{counter_fits}
use Rattle.weak_rules.specs.Updates.{Update}
use Rattle.weak_rules.specs.Plans.{with_count}
use Rattle.weak_rules.specs.Steps.{advanced}
use Rattle.weak_release.specs.Release.{Words, words_of}
use Rattle.weak_release.specs.Plan.{Next, first_updates, later_updates}

-- the row after a successor: its places advance
abbrev pub advanced_row : ℕ → WeakRow → WeakRow
advanced_row count row = with_places (advanced count row).read (advanced count row).write (advanced count row).cursor row

-- the lists that are written, of their lengths, and what lets a copy join the ring of owner o: its ends, the row's places, the accepted word
pub record Placeable (p k i : ℕ) (row : WeakRow) (count o : ℕ) (both : Ends) (accepted : ℕ) (rings : List Copy) (ends run : List ℕ) : Type 0 where
  pub worker : i < p
  pub few_workers : p ≤ engine.workers
  pub few_slots : k ≤ engine.slots
  pub all_rings : length rings ≡ fixed_length weak p k list.rings
  pub all_ends : length ends ≡ fixed_length weak p k list.ends
  pub all_words : length run ≡ weak_shape.run_words
  pub owner : o < p
  pub reads : both ≡ ends_at ends (ring_number p o i)
  pub sound : Sound k both
  pub place : row.read < row.write
  pub cursor : row.cursor < count
  pub accepted_word : accepted ≡ get_or run 1 0
  pub few : accepted ≤ 65535

-- a weight can join the counter of that ring
pub record Raises (p i o weight : ℕ) (counters : List ℤ) : Type 0 where
  pub all_counters : length counters ≡ p * p
  pub counter : counter_fits (get_or counters (ring_number p o i) (pos 0)) ≡ true
  pub light : weight ≤ 65535

-- a memory with these words and rows
abbrev pub with_words : Mem → Words → List WeakRow → Mem
with_words m x rows =
    put list.fixed x.fixed
    (put list.rings x.rings
    (put list.ends x.ends
    (put list.counters x.counters
    (put list.run x.run
    (put list.rows rows m)))))

-- with these updates, and the step counted, memory m becomes m'
abbrev pub Becomes : (Mem → List Update) → Mem → Mem → Type 0
Becomes us m m' = m' ≡ written (with_count m (us m)) m

-- whatever the other lists hold, where the successor at worker i's cursor is this: a later copy joins the ring of owner o
unfoldable pub WritesLater : ℕ → ℕ → ℕ → WeakRow → TaskId → TaskId → ℕ → ℕ → List Copy → List Copy → List ℕ → List ℕ → List ℕ → List ℕ → WeakRow → Type 0
WritesLater p k i row t done count o rings rings' ends ends' run run' r =
    (m : Mem) → row_in m i ≡ row → Next i t.0 done.0 count m
    → Becomes (later_updates p k i o) (with_words m (words_of m.fixed rings ends m.counters run) m.rows)
    (with_words m (words_of m.fixed rings' ends' m.counters run') (set m.rows i r))

-- a first copy, of a task of this weight
unfoldable pub WritesFirst : ℕ → ℕ → ℕ → WeakRow → TaskId → TaskId → ℕ → ℕ → ℕ → Words → Words → WeakRow → Type 0
WritesFirst p k i row t done count o weight x x' r =
    (m : Mem) → row_in m i ≡ row → Next i t.0 done.0 count m → weight_in m t.0 ≡ weight
    → Becomes (first_updates p k i o) (with_words m x m.rows) (with_words m x' (set m.rows i r))
