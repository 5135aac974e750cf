-- The state of Algorithm 1 of source document 000: that of the split lists and counters, over copies, and the thread ID of each task.
use Rattle.std.specs.Prelude.{ℕ, List, get_or}
use Rattle.task.specs.Types.{nil}
use Rattle.weak_task.specs.Types.{Copy, copy}
use Rattle.split_lists.specs.Items as items

abbrev pub Thread : Type 0
Thread = items.Thread Copy

-- "an empty hand NIL twice"
abbrev pub no_item : Copy
no_item = copy nil.0 nil.0

pub record State : Type 0 where
  -- GL with its dependency degrees, weights and successors, LL_t, W_t, the threads and the record
  pub lists : items.State Copy
  -- tid_T: "The thread ID shows the thread in which the task is executing", NIL before its first copy is allocated
  pub tids : List ℕ

abbrev pub state_of : items.State Copy → List ℕ → State
state_of s t = record { lists = s; tids = t }

abbrev pub thread_of : State → ℕ → Thread
thread_of s i = items.thread_of no_item s.lists i

abbrev pub tid_of : State → ℕ → ℕ
tid_of s t = get_or s.tids t 0
