-- The state over items of any type, of which State.antt is the instance of plain jobs.
pub use Rattle.split_lists.specs.Items.{Thread, thread_with, State, state_with, weight_of, degree_of, successors_of, queue_of, counter_of, workload, fresh, thread_of}
unfoldable pub use Rattle.split_lists.specs.Items.{waiting_for}
