-- Any lent memory of a family, read as a state of the split lists and counters: total, and each part from its own words alone.
use Rattle.std.specs.Prelude.{ℕ, ◌+◌, ◌-◌, cond, ◌&&◌, List, [], get_or, leb}
use Rattle.lists.specs.Lists.{tabulate}
use Rattle.lists.specs.Squares.{square}
use Rattle.task.specs.Entries.{Entry}
use Rattle.graph.specs.Graph.{part}
use Rattle.ring.specs.Ring.{queue}
use Rattle.memory.specs.Family.{Family}
use Rattle.memory.specs.Memory.{Mem}
use Rattle.plans.specs.Memory.{tasks, ring_number, rings_in, counter_in, buffer_at, phase_in, held, pointer_in, places_in}
use Rattle.split_lists.specs.Items.{Thread, thread_with, State, state_with}

module _ {F : Family} where
  -- Q_i^j: the list that the ring of owner i filled by worker j holds; none where its ends are damaged
  abbrev pub queue_in : ℕ → ℕ → Mem F → ℕ → ℕ → List F.Item
  queue_in p k m i j = queue F.no_item k (rings_in m) (ring_number p i j)

  -- worker i's completed buffer: the words from read up to write of its own N places; none unless read ≤ write ≤ N
  unfoldable pub buffer_in : Mem F → ℕ → List ℕ
  buffer_in m i =
      cond (leb (places_in m i).read (places_in m i).write && leb (places_in m i).write (tasks m))
      (tabulate ((places_in m i).write - (places_in m i).read) (λ x. get_or m.buffers (buffer_at m i ((places_in m i).read + x)) 0))
      []

  -- the other words of the row as they are
  unfoldable pub thread_in : Mem F → ℕ → Thread F.Item
  thread_in m i = thread_with (buffer_in m i) (places_in m i).cursor (phase_in m i) (held m i) (pointer_in m i)

  -- task t's successors: its part of the lent successor table; none where the range falls, and of one past the table what the table has
  abbrev pub successors_in : Mem F → ℕ → List ℕ
  successors_in m t = part m.succ_starts m.succs t

  -- the entries of the record are given: how they are read is the family's
  abbrev pub state_from : ℕ → ℕ → Mem F → List (Entry F.Item) → State F.Item
  state_from p k m entries =
      state_with m.weights (tabulate (tasks m) (successors_in m)) m.degrees
      (square p (queue_in p k m))
      (square p (λ i j. counter_in m (ring_number p i j)))
      (tabulate p (thread_in m))
      entries
