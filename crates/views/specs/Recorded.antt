-- The record told from a run's calls and answers: "one entry for each of these Completes, in their order: the task that the worker's last accepted Fetch
-- before it answered, and that worker."
use Rattle.std.specs.Prelude.{ℕ, cond, ◌&&◌, List, [], ◌∷◌, ◌++◌}
use Rattle.task.specs.Entries.{Entry, entry_of}
use Rattle.task.specs.Refusals.{Said}
use Rattle.machine.specs.Machine.{Event, accepted_said}
use Rattle.machine.specs.Jobs.{Call, fetch_by, is_complete, worker_of}

-- of a family whose rings hold items, tasks or copies: `item_in` is the item that an accepted Fetch answers, or else the one given, and `no_item` stands
-- where there was none
module _ {A : Type 0} (item_in : Said → A → A) (no_item : A) where
  -- the item that the worker's last accepted Fetch answered
  unfoldable pub last_fetched : ℕ → List (Event Call) → A
  last_fetched i [] = no_item
  last_fetched i (e ∷ es) = cond (fetch_by i e.call) (item_in e.said (last_fetched i es)) (last_fetched i es)

  -- the entry of an accepted Complete: that item, and the worker
  unfoldable pub entry_by : Event Call → List (Event Call) → List (Entry A)
  entry_by e es = cond (is_complete e.call && accepted_said e.said) (entry_of (last_fetched (worker_of e.call) es) (worker_of e.call) ∷ []) []

  -- one for each accepted Complete, in their order
  unfoldable pub entries_of : List (Event Call) → List (Entry A)
  entries_of [] = []
  entries_of (e ∷ es) = entries_of es ++ entry_by e es
