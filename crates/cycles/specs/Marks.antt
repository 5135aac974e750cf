-- What the walk back from a task keeps: marks, and a queue of the marked tasks.
use Rattle.std.specs.Prelude.{ℕ, ◌≤◌, ◌<◌, ◌≡◌, ◌⊎◌, List, length, take, get_or}
use Rattle.lists.specs.Lists.{occ}
use Rattle.graph.specs.Graph.{Among, Graph, Edge, Leads}

-- task u has a mark
abbrev pub Has : List ℕ → ℕ → Type 0
Has seen u = 0 < get_or seen u 0

-- the queue's first tail words are the marked tasks, each once
pub record Marked (seen queue : List ℕ) (tail : ℕ) : Type 0 where
  pub seen_size : length seen ≡ 1024
  pub queue-size : length queue ≡ 1024
  pub tail-fits : tail ≤ 1024
  pub flags : (u : ℕ) → get_or seen u 0 ≤ 1
  pub once : (u : ℕ) → occ u (take tail queue) ≡ get_or seen u 0

-- the words are marked besides, and nothing else; what was queued keeps its place
pub record Grown (words seen queue : List ℕ) (tail : ℕ) (seen' queue' : List ℕ) (tail' : ℕ) : Type 0 where
  pub marked : Marked seen' queue' tail'
  pub longer : tail ≤ tail'
  pub front : take tail queue' ≡ take tail queue
  pub kept : (u : ℕ) → Has seen u → Has seen' u
  pub added : (u : ℕ) → Among u words → Has seen' u
  pub only : (u : ℕ) → Has seen' u → Has seen u ⊎ Among u words

-- the walk back from t: marked are only tasks that lead to t, and all that have an edge to t or to one of the first head of the queue
pub record Walked (g : Graph) (t : ℕ) (seen queue : List ℕ) (head tail : ℕ) : Type 0 where
  pub marked : Marked seen queue tail
  pub passed : head ≤ tail
  pub leads : (u : ℕ) → Has seen u → Leads (Edge g) u t
  pub direct : (u : ℕ) → Edge g u t → Has seen u
  pub closed : (u v : ℕ) → Among v (take head queue) → Edge g u v → Has seen u
