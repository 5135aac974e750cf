-- "The first copy of a task .. fixes the task's worker ..; later copies go only to that worker's ring". "A copy's Complete alone lowers the degree".
use Rattle.std.specs.Prelude.{ℕ, ◌<◌, ◌≡◌, ◌⊎◌, List}
use Rattle.lists.specs.Lists.{tabulate, occ_of}
use Rattle.weak_task.specs.Types.{unfixed}
use Rattle.machine.specs.Machine.{begins}
use Rattle.system.specs.System.{missing}
use Rattle.copies.specs.Copies.{Copy, same_copy, task_copies}
use Rattle.weak_rules.specs.Memory.{Mem, tasks, degree_in, fixed_in, row_in, held}
use Rattle.weak_runs.specs.Calls.{accepted_completes, Call, weak, View, Run, memory_of, longer, graph_of}
use Rattle.weak_runs.specs.Demand.{copy_words, worker_word}
use Rattle.weak_runs.specs.Fairness.{queue_in}

-- no copy of the task waits, is in hand or is recorded
pub record NoCopy (v : View Mem Call) (t : ℕ) : Type 0 where
  pub waiting : (i j : ℕ) (c : Copy) → i < v.workers → j < v.workers → c.task ≡ t
      → ◌≡◌ {A = ℕ} (occ_of same_copy c (queue_in v.workers v.slots v.memory i j)) 0
  pub in_hand : (i : ℕ) → i < v.workers → ¬ (◌≡◌ {A = ℕ} (row_in v.memory i).phase 0) → ¬ ((held v.memory i).task ≡ t)
  pub recorded : (x : ℕ) → x < accepted_completes v.events → ¬ ((copy_words v.memory x).task ≡ t)

-- PROMISE, of what every run shows (`fixed-workers`): after every list of its calls
pub record FixedWorkers (v : View Mem Call) : Type 0 where
  -- "65,535 before, else below P"
  pub words : (t : ℕ) → t < tasks v.lent → (fixed_in v.memory t ≡ unfixed.0) ⊎ (fixed_in v.memory t < v.workers)
  -- it is 65,535 as long as the task has no copy
  pub before : (t : ℕ) → t < tasks v.lent → NoCopy v t → fixed_in v.memory t ≡ unfixed.0
  -- the recorded copies of a task, those that wait and the one in hand are its worker's
  pub recorded : (x : ℕ) → x < accepted_completes v.events → worker_word v.memory x ≡ fixed_in v.memory (copy_words v.memory x).task
  pub waiting : (i j : ℕ) (c : Copy) → i < v.workers → j < v.workers
      → 0 < occ_of same_copy c (queue_in v.workers v.slots v.memory i j) → fixed_in v.memory c.task ≡ i
  pub in_hand : (i : ℕ) → i < v.workers → ¬ (◌≡◌ {A = ℕ} (row_in v.memory i).phase 0) → fixed_in v.memory (held v.memory i).task ≡ i
  -- a degree counts the copies that are still to be completed: with the last one the task is complete
  pub degrees : (t : ℕ) → t < tasks v.lent
      → degree_in v.memory t ≡ missing same_copy (task_copies (graph_of v) t) (tabulate (accepted_completes v.events) (copy_words v.memory))

-- PROMISE: "fixes the task's worker": it stays until another begin, whatever is called
pub record StaysFixed (r : Run) : Type 0 where
  pub stays : (further : List Call) (t : ℕ) → ◌≡◌ {A = ℕ} (begins weak further (memory_of r)) 0 → fixed_in (memory_of r) t < r.workers
      → fixed_in (memory_of (longer r further)) t ≡ fixed_in (memory_of r) t
