-- The words of a run, told from its calls and answers.
use Rattle.std.specs.Prelude.{ℕ, ◌-◌, ◌*◌, ◌≡◌, cond, List, [], ◌∷◌, ◌++◌, length, get_or, replicate, eqb}
use Rattle.task.specs.Types.{nil}
use Rattle.task.specs.Entries.{Entry}
use Rattle.task.specs.Refusals.{Said, refused, answered}
use Rattle.rules.specs.Memory.{Mem, tasks}
use Rattle.views.specs.Recorded as told
use Rattle.runs.specs.Calls.{Call, Event, View}
use Rattle.runs.specs.Demand.{accepted_steps, accepted_completes}

-- the task that an accepted Fetch answers (kind 1, `task_fetched`), or else the one given
abbrev pub task_in : Said → ℕ → ℕ
task_in (refused n d) t = t
task_in (answered k vs) t = cond (eqb k 1) (get_or vs 0 0) t

-- one entry for each accepted Complete, in their order: the task that the worker's last accepted Fetch before it answered, and that worker
abbrev pub entries_of : List Event → List (Entry ℕ)
entries_of = told.entries_of task_in nil.0

-- the words of a list of entries
unfoldable pub words_of : List (Entry ℕ) → List ℕ
words_of [] = []
words_of (e ∷ es) = e.item ∷ e.worker ∷ words_of es

-- PROMISE, of what every run shows (`run-words`): "After every list of a run's calls the accepted word is the number of its accepted steps, the
-- entries word that of its accepted Completes. The record begins with one entry for each of these Completes, in their order: the task that the
-- worker's last accepted Fetch before it answered, and that worker." The words behind them are begin's zeros.
pub record RunWords (v : View Mem Call) : Type 0 where
  -- "Two run words: entries recorded, steps accepted."
  pub run : v.memory.run ≡ accepted_completes v.events ∷ accepted_steps v.events ∷ []
  pub recorded : v.memory.executed
      ≡ words_of (entries_of v.events) ++ replicate (2 * tasks v.lent - 2 * accepted_completes v.events) 0
  -- "Execution record 2N (task, worker)."
  pub record-size : length v.memory.executed ≡ 2 * tasks v.lent
  -- weights and predecessor tables are begin's
  pub weights : v.memory.weights ≡ v.lent.weights
  pub pred_starts : v.memory.pred_starts ≡ v.lent.pred_starts
  pub preds : v.memory.preds ≡ v.lent.preds
