-- The task graph that the lent tables spell.
use Rattle.std.specs.Prelude.{ℕ, ◌+◌, ◌-◌, ◌<◌, List, length, take, drop, get_or}
use Rattle.lists.specs.Lists.{occ}

-- u stands in the list
abbrev pub Among : ℕ → List ℕ → Type 0
Among u l = 0 < occ u l

-- "task t's predecessors run from start t up to but not including start t+1"; successors have the same shape
unfoldable pub part : List ℕ → List ℕ → ℕ → List ℕ
part starts words t = take (get_or starts (t + 1) 0 - get_or starts t 0) (drop (get_or starts t 0) words)

-- N tasks and the predecessor tables; E is the length of the predecessors
pub record Graph : Type 0 where
  pub tasks : ℕ
  pub starts : List ℕ
  pub preds : List ℕ

abbrev pub graph_of : ℕ → List ℕ → List ℕ → Graph
graph_of n s p = record { tasks = n; starts = s; preds = p }

abbrev pub edge_count : Graph → ℕ
edge_count g = length g.preds

abbrev pub preds_of : Graph → ℕ → List ℕ
preds_of g t = part g.starts g.preds t

-- "an edge leads from a predecessor to its task"
pub record Edge (g : Graph) (u t : ℕ) : Type 0 where
  pub task : t < g.tasks
  pub predecessor : Among u (preds_of g t)

-- "a path of edges leads from one to the other": a path of at least one edge, over items of any type
pub data Leads {A : Type 0} (E : A → A → Type 0) : A → A → Type 0 where
  edge : {u t : A} → E u t → Leads E u t
  via : {u v t : A} → E u v → Leads E v t → Leads E u t
