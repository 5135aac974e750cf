-- Any lent memory of a weak job, read as a state of Algorithm 1: total, and each part from its own words alone.
use Rattle.std.specs.Prelude.{ℕ, ◌+◌, ◌*◌, cond, List, [], get_or, leb}
use Rattle.lists.specs.Lists.{tabulate}
use Rattle.task.specs.Entries.{Entry, entry_of}
use Rattle.weak_task.specs.Types.{Copy, copy}
use Rattle.split_lists.specs.Reading.{state_from}
use Rattle.weak_rules.specs.Memory.{Mem, edges, roots_word, entries_in}
use Rattle.weak_algorithm.specs.State as state

-- entry n of the record, "three words per copy (task, predecessor, worker)", and as many as the entries word says; none where that is over E + R
abbrev pub entry_in : Mem → ℕ → Entry Copy
entry_in m n = entry_of (copy (get_or m.executed (3 * n) 0) (get_or m.executed (3 * n + 1) 0)) (get_or m.executed (3 * n + 2) 0)

unfoldable pub record_in : Mem → List (Entry Copy)
record_in m = cond (leb (entries_in m) (edges m + roots_word m)) (tabulate (entries_in m) (entry_in m)) []

unfoldable pub state_of : ℕ → ℕ → Mem → state.State
state_of p k m = state.state_of (state_from p k m (record_in m)) m.fixed
