-- Any lent memory, read as a state of Algorithm 1: total, and each part from its own words alone.
use Rattle.std.specs.Prelude.{ℕ, ◌+◌, ◌*◌, cond, List, [], get_or, leb}
use Rattle.lists.specs.Lists.{tabulate}
use Rattle.task.specs.Entries.{Entry, entry_of}
use Rattle.rules.specs.Memory.{Mem, tasks, entries_in}
pub use Rattle.split_lists.specs.Reading.{queue_in, successors_in}
unfoldable pub use Rattle.split_lists.specs.Reading.{buffer_in, thread_in}
use Rattle.split_lists.specs.Reading.{state_from}
use Rattle.algorithm1.specs.State.{State}

-- entry n of the record, and as many as the entries word says; none where that is over N
abbrev pub entry_in : Mem → ℕ → Entry ℕ
entry_in m n = entry_of (get_or m.executed (2 * n) 0) (get_or m.executed (2 * n + 1) 0)

unfoldable pub record_in : Mem → List (Entry ℕ)
record_in m = cond (leb (entries_in m) (tasks m)) (tabulate (entries_in m) (entry_in m)) []

unfoldable pub state_of : ℕ → ℕ → Mem → State
state_of p k m = state_from p k m (record_in m)
