-- The words of a weak run, told from its calls and answers.
use Rattle.std.specs.Prelude.{ℕ, ◌+◌, ◌-◌, ◌*◌, ◌≡◌, cond, List, [], ◌∷◌, ◌++◌, length, get_or, replicate, eqb}
use Rattle.task.specs.Types.{nil}
use Rattle.task.specs.Entries.{Entry}
use Rattle.task.specs.Refusals.{Said, refused, answered}
use Rattle.weak_task.specs.Types.{Copy, copy}
use Rattle.weak_rules.specs.Memory.{Mem, tasks, edges}
use Rattle.views.specs.Recorded as told
use Rattle.weak_runs.specs.Calls.{Call, accepted_steps, accepted_completes, Event, View, roots_of}

-- the copy that an accepted Fetch answers (kind 6, `copy_fetched`), or else the one given
abbrev pub copy_in : Said → Copy → Copy
copy_in (refused n d) c = c
copy_in (answered k vs) c = cond (eqb k 6) (copy (get_or vs 0 0) (get_or vs 1 0)) c

-- one entry for each accepted Complete, in their order: the copy that the worker's last accepted Fetch before it answered, and that worker
abbrev pub entries_of : List Event → List (Entry Copy)
entries_of = told.entries_of copy_in (copy nil.0 nil.0)

-- the words of a list of entries: "three words per copy (task, predecessor, worker)"
unfoldable pub words_of : List (Entry Copy) → List ℕ
words_of [] = []
words_of (e ∷ es) = e.item.task ∷ e.item.predecessor ∷ e.worker ∷ words_of es

-- PROMISE, of what every run shows (`run-words`): the accepted word is the number of the run's accepted steps, the entries word that of its accepted
-- Completes, and the third is R. The record begins with one entry for each of these Completes, in their order: the copy that the worker's last
-- accepted Fetch before it answered, and that worker. The words behind them are begin's zeros.
pub record RunWords (v : View Mem Call) : Type 0 where
  pub run : v.memory.run ≡ accepted_completes v.events ∷ accepted_steps v.events ∷ roots_of v ∷ []
  pub recorded : v.memory.executed
      ≡ words_of (entries_of v.events) ++ replicate (3 * (edges v.lent + tasks v.lent) - 3 * accepted_completes v.events) 0
  -- "length 3(E + N)"
  pub record-size : length v.memory.executed ≡ 3 * (edges v.lent + tasks v.lent)
  -- weights and predecessor tables are begin's
  pub weights : v.memory.weights ≡ v.lent.weights
  pub pred_starts : v.memory.pred_starts ≡ v.lent.pred_starts
  pub preds : v.memory.preds ≡ v.lent.preds
