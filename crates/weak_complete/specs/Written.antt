-- What a planned Complete of a weak job writes: the memory that it leaves is that with the updates of its plan.
use Rattle.std.specs.Prelude.{ℕ, ◌+◌, ◌-◌, ◌*◌, ◌≤◌, ◌<◌, ◌≡◌, true, List, [], ◌∷◌, length, get_or, set, ℤ, pos}
use Rattle.task.specs.Types.{engine}
use Rattle.task.specs.declared.Step.TheVariants.{Complete}
use Rattle.weak_task.specs.Types.{Copy, no_copy}
use Rattle.weak_task.specs.Rows.{with_hand, with_places}
use Rattle.weak_task.specs.declared.WeakRow.{WeakRow}
use Rattle.memory.specs.Updates.{store_words, written}
use Rattle.weak_rules.specs.Memory.{Mem, tasks, ring_number, weight_in, row_in}
use Rattle.weak_rules.specs.Words.{counter_fits}
use Rattle.weak_rules.specs.Updates.{Update}
use Rattle.weak_rules.specs.Plans.{with_count}
use Rattle.weak_admission.specs.Admission.{entered}
use Rattle.weak_complete.specs.Complete.{lent}
use Rattle.weak_complete.specs.Planned.{copy_updates, sink_updates, inner_updates}

-- the row after Complete: an empty hand, and this write place
abbrev pub let_go_row : ℕ → WeakRow → WeakRow
let_go_row write row = with_hand row.phase no_copy (with_places row.read write row.cursor row)

-- what lets an entry be written, of the lengths, the task's degree and the run words
pub record Recordable (degrees places words task degree entries accepted : ℕ) : Type 0 where
  pub task_fits : task < degrees
  pub lowers : 1 ≤ degree
  pub three_words : words ≡ 3
  pub entry : 3 * entries + 2 < places
  pub few : entries < engine.edges + engine.tasks
  pub step : accepted < 4 * engine.edges + 3 * engine.tasks

-- the task's degree is lowered, an entry is written and counted, and the step is counted
pub record Records (entries accepted degree : ℕ) (copy : Copy) (worker : ℕ) (degrees degrees' executed executed' run run' : List ℕ) : Type 0 where
  pub lowered : degrees' ≡ set degrees copy.task (degree - 1)
  pub entry : executed' ≡ store_words executed (3 * entries) (copy.task ∷ copy.predecessor ∷ worker ∷ [])
  pub counted : run' ≡ set (set run 1 (accepted + 1)) 0 (entries + 1)

-- an entry can be written, and these are the task's degree and the run words
pub record Enterable (task degree entries accepted : ℕ) (degrees executed run : List ℕ) : Type 0 where
  pub recordable : Recordable (length degrees) (length executed) (length run) task degree entries accepted
  pub degree_word : degree ≡ get_or degrees task 0
  pub entries_word : entries ≡ get_or run 0 0
  pub accepted_word : accepted ≡ get_or run 1 0

-- a weight can leave counter q
abbrev pub Lightens : ℕ → ℕ → List ℤ → Type 0
Lightens q weight counters = (q < length counters) × ((counter_fits (get_or counters q (pos 0)) ≡ true) × (weight ≤ 65535))

-- a task, of n, can join worker i's buffer at this place, of so many places in all
pub record Joinable (i n write places : ℕ) : Type 0 where
  pub inside : i * n + write < places
  pub few : places ≤ engine.workers * engine.tasks
  pub place : write < engine.tasks

-- a memory with the lists that are written
abbrev pub with_lists : Mem → List ℕ → List ℤ → List ℕ → List ℕ → List ℕ → List WeakRow → Mem
with_lists m degrees counters buffers executed run rows = lent m m.weights m.succ_starts degrees counters buffers executed run rows

-- with these updates, and the step counted, memory m becomes m'
abbrev pub Becomes : (Mem → List Update) → Mem → Mem → Type 0
Becomes us m m' = m' ≡ written (with_count m (us m)) m

-- whatever the other lists hold, `row` being worker i's in the phase that Complete leads to: a copy that isn't its task's last
unfoldable pub WritesCopy : ℕ → WeakRow → List ℕ → List ℕ → List ℕ → List ℕ → List ℕ → List ℕ → WeakRow → Type 0
WritesCopy i row degrees degrees' executed executed' run run' r =
    (m : Mem) → row ≡ entered Complete (row_in m i)
    → Becomes (copy_updates i) (with_lists m degrees m.counters m.buffers executed run m.rows)
    (with_lists m degrees' m.counters m.buffers executed' run' (set m.rows i r))

-- the last copy of a sink of this weight; `own` is the number of the worker's own counter
unfoldable pub WritesSink : ℕ → ℕ → ℕ → WeakRow → List ℕ → List ℕ → List ℤ → List ℤ → List ℕ → List ℕ → List ℕ → List ℕ → WeakRow → Type 0
WritesSink i own weight row degrees degrees' counters counters' executed executed' run run' r =
    (p : ℕ) (m : Mem) → own ≡ ring_number p i i → row ≡ entered Complete (row_in m i) → weight_in m row.held.task.0 ≡ weight
    → Becomes (sink_updates p i) (with_lists m degrees counters m.buffers executed run m.rows)
    (with_lists m degrees' counters' m.buffers executed' run' (set m.rows i r))

-- of another task, among n
unfoldable pub WritesInner : ℕ → ℕ → ℕ → ℕ → WeakRow → List ℕ → List ℕ → List ℤ → List ℤ → List ℕ → List ℕ → List ℕ → List ℕ → List ℕ → List ℕ
    → WeakRow → Type 0
WritesInner i n own weight row degrees degrees' counters counters' buffers buffers' executed executed' run run' r =
    (p : ℕ) (m : Mem) → own ≡ ring_number p i i → row ≡ entered Complete (row_in m i) → tasks m ≡ n → weight_in m row.held.task.0 ≡ weight
    → Becomes (inner_updates p i) (with_lists m degrees counters buffers executed run m.rows)
    (with_lists m degrees' counters' buffers' executed' run' (set m.rows i r))
