-- Where the words of a family's lent memory stand.
use Rattle.std.specs.Prelude.{ℕ, ◌+◌, ◌-◌, ◌*◌, length, get_or, ℤ, pos}
use Rattle.task.specs.declared.Ends.{Ends}
use Rattle.graph.specs.Graph.{Graph, graph_of}
use Rattle.ring.specs.Ring.{slot_at, ends_at, Rings, rings_of}
use Rattle.memory.specs.Family.{Family, Places}
use Rattle.memory.specs.Memory.{Mem}

-- "the ring of owner i filled by worker j": its number among the P·P rings, and that of its counter
abbrev pub ring_number : ℕ → ℕ → ℕ → ℕ
ring_number p i j = i * p + j

module _ {F : Family} where
  -- "N and E are the lengths of weights and predecessors"
  abbrev pub tasks : Mem F → ℕ
  tasks m = length m.weights

  abbrev pub edges : Mem F → ℕ
  edges m = length m.preds

  abbrev pub graph_in : Mem F → Graph
  graph_in m = graph_of (tasks m) m.pred_starts m.preds

  abbrev pub ends_in : Mem F → ℕ → Ends
  ends_in m q = ends_at m.ends q

  abbrev pub rings_in : Mem F → Rings F.Item
  rings_in m = rings_of m.rings m.ends

  -- the item at the head of ring q
  abbrev pub head_item : ℕ → Mem F → ℕ → F.Item
  head_item k m q = get_or m.rings (slot_at k q (ends_in m q).head) F.no_item

  abbrev pub counter_in : Mem F → ℕ → ℤ
  counter_in m q = get_or m.counters q (pos 0)

  abbrev pub weight_in : Mem F → ℕ → ℕ
  weight_in m t = get_or m.weights t 0

  abbrev pub degree_in : Mem F → ℕ → ℕ
  degree_in m t = get_or m.degrees t 0

  -- "task t's predecessors run from start t up to but not including start t+1"; successors are of the "same shape"
  abbrev pub first_succ : Mem F → ℕ → ℕ
  first_succ m t = get_or m.succ_starts t 0

  abbrev pub past_succ : Mem F → ℕ → ℕ
  past_succ m t = get_or m.succ_starts (t + 1) 0

  abbrev pub succ_count : Mem F → ℕ → ℕ
  succ_count m t = past_succ m t - first_succ m t

  -- place x of worker i's completed buffer
  abbrev pub buffer_at : Mem F → ℕ → ℕ → ℕ
  buffer_at m i x = i * tasks m + x

  abbrev pub row_in : Mem F → ℕ → F.Row
  row_in m i = get_or m.rows i F.no_row

  -- the parts of worker i's row: its phase, the item in its hand, its ring pointer, its buffer's places
  abbrev pub phase_in : Mem F → ℕ → ℕ
  phase_in m i = (F.hand (row_in m i)).phase

  abbrev pub held : Mem F → ℕ → F.Item
  held m i = (F.hand (row_in m i)).held

  abbrev pub pointer_in : Mem F → ℕ → ℕ
  pointer_in m i = F.pointer (row_in m i)

  abbrev pub places_in : Mem F → ℕ → Places
  places_in m i = F.places (row_in m i)

  abbrev pub entries_in : Mem F → ℕ
  entries_in m = get_or m.run 0 0

  abbrev pub accepted_in : Mem F → ℕ
  accepted_in m = get_or m.run 1 0

  -- "the oldest task in i's buffer", and "its successor s at the cursor"
  abbrev pub oldest : Mem F → ℕ → ℕ
  oldest m i = get_or m.buffers (buffer_at m i (places_in m i).read) 0

  abbrev pub successor : Mem F → ℕ → ℕ
  successor m i = get_or m.succs (first_succ m (oldest m i) + (places_in m i).cursor) 0
