-- What the state that a plain job's memory is read as holds at each place.
use Prim.Native.Nat.{ℕ, ◌<◌}
use mathlib.Core.Path.{◌≡◌, refl}
use Rattle.task.specs.Types.{nil}
use Rattle.choice.specs.Least.{load}
use Rattle.rules.specs.Memory.{Mem, tasks, ring_number, counter_in, degree_in, row_in}
use Rattle.split_lists.proofs.Readings as readings
pub use Rattle.split_lists.proofs.Readings.{state-same, length-successors, successor-at}
use Rattle.algorithm1.specs.State.{degree_of, successors_of, queue_of, counter_of, workload, thread_of}
use Rattle.algorithm1.specs.Reading.{queue_in, thread_in, record_in, successors_in, state_of}

module _ (p k : ℕ) (m : Mem) where
  pub degree-at : (t : ℕ) → degree_of (state_of p k m) t ≡ degree_in m t
  unfolding state_of
  degree-at t = refl

  pub successors-at : (t : ℕ) → t < tasks m → successors_of (state_of p k m) t ≡ successors_in m t
  unfolding state_of
  successors-at = readings.successors-at p k m (record_in m)

  pub queue-at : (i j : ℕ) → i < p → j < p → queue_of (state_of p k m) i j ≡ queue_in p k m i j
  unfolding state_of
  queue-at = readings.queue-at p k m (record_in m)

  pub counter_at : (i j : ℕ) → i < p → j < p → counter_of (state_of p k m) i j ≡ counter_in m (ring_number p i j)
  unfolding state_of
  counter_at = readings.counter_at p k m (record_in m)

  pub thread-at : (i : ℕ) → i < p → thread_of (state_of p k m) i ≡ thread_in m i
  unfolding state_of
  thread-at = readings.thread-at p k m (record_in m) nil.0

  pub phase-at : (i : ℕ) → i < p → (thread_of (state_of p k m) i).phase ≡ (row_in m i).phase
  unfolding state_of
  phase-at = readings.phase-at p k m (record_in m) nil.0

  -- the sum of a worker's counters, as the rules read it
  pub workload-at : (i : ℕ) → i < p → workload p (state_of p k m) i ≡ load p m.counters i
  unfolding state_of
  workload-at = readings.workload-at p k m (record_in m)
