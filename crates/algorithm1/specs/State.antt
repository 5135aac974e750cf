-- The state of Algorithm 1 in a plain job: the items are its tasks, by number, and NIL stands for none.
use Rattle.std.specs.Prelude.{ℕ}
use Rattle.task.specs.Types.{nil}
use Rattle.split_lists.specs.Items as items
pub use Rattle.split_lists.specs.Items.{thread_with, state_with, weight_of, degree_of, successors_of, queue_of, counter_of, workload}
unfoldable pub use Rattle.split_lists.specs.Items.{waiting_for}

abbrev pub Thread : Type 0
Thread = items.Thread ℕ

abbrev pub State : Type 0
State = items.State ℕ

-- "held becomes NIL"
abbrev pub fresh : Thread
fresh = items.fresh nil.0

abbrev pub thread_of : State → ℕ → Thread
thread_of = items.thread_of nil.0
