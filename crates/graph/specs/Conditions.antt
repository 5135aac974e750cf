-- The conditions of refusals 2 to 5 on a graph, in the words of the table.
use Rattle.std.specs.Prelude.{ℕ, ◌+◌, ◌≤◌, ◌<◌, ◌≡◌, ◌⊎◌, List, length, get_or}
use Rattle.lists.specs.Lists.{occ}
use Rattle.task.specs.Types.{engine, capped}
use Rattle.task.specs.declared.Limits.{Limits}
use Rattle.graph.specs.Graph.{Among, part, Graph, graph_of, edge_count, preds_of, Edge, Leads}

-- no weight is beyond its limit: "Weights 0..65,535"
abbrev pub Light : List ℕ → Type 0
Light weights = (t : ℕ) → t < length weights → get_or weights t 0 ≤ 65535

-- task t's part of a table whose words are numbers below n: "start t ≤ start t+1 ≤ E", and no word ≥ n
pub record Good (n : ℕ) (starts words : List ℕ) (t : ℕ) : Type 0 where
  pub rises : get_or starts t 0 ≤ get_or starts (t + 1) 0
  pub inside : get_or starts (t + 1) 0 ≤ length words
  pub below : (u : ℕ) → Among u (part starts words t) → u < n

-- "start t ≤ start t+1 ≤ E fails, or a predecessor ≥ N"
abbrev pub Bad : Graph → ℕ → Type 0
Bad g t = ¬ (Good g.tasks g.starts g.preds t)

-- "start 0 not 0 or start N not E", turned round
pub record EndsFit (g : Graph) : Type 0 where
  pub first : ◌≡◌ {A = ℕ} (get_or g.starts 0 0) 0
  pub last : get_or g.starts g.tasks 0 ≡ edge_count g

-- "a predecessor twice in one task"
abbrev pub Twice : Graph → ℕ → Type 0
Twice g t = (u : ℕ) × (2 ≤ occ u (preds_of g t))

-- "a cycle, a loop on one task included": a path of edges leads from the task back to itself
abbrev pub OnCycle : Graph → ℕ → Type 0
OnCycle g t = Leads (Edge g) t t

-- on a cycle or with a path of edges to one
abbrev pub ToCycle : Graph → ℕ → Type 0
ToCycle g t = OnCycle g t ⊎ ((c : ℕ) × (Leads (Edge g) t c × OnCycle g c))

-- a graph that no row of 3 to 5 refuses
pub record Acceptable (g : Graph) : Type 0 where
  pub good : (t : ℕ) → t < g.tasks → Good g.tasks g.starts g.preds t
  pub ends : EndsFit g
  pub once : (t u : ℕ) → t < g.tasks → occ u (preds_of g t) ≤ 1
  pub acyclic : (t : ℕ) → ¬ (OnCycle g t)

-- lengths and limits under which the leaves of the check run: starts of N+1 words, N and E within the engine's limits
pub record Sized (g : Graph) : Type 0 where
  pub tasks : g.tasks ≤ engine.tasks
  pub edges : edge_count g ≤ engine.edges
  pub starts : length g.starts ≡ g.tasks + 1

-- a graph of the engine's size that row 3 does not refuse
pub record Sound (g : Graph) : Type 0 where
  pub sized : Sized g
  pub good : (t : ℕ) → t < g.tasks → Good g.tasks g.starts g.preds t
  pub ends : EndsFit g

-- a graph that the whole check accepts
pub record GraphFits (limits : Limits) (weights starts preds : List ℕ) : Type 0 where
  pub tasks : length weights ≤ (capped limits).tasks
  pub edges : length preds ≤ (capped limits).edges
  pub light : Light weights
  pub lengths : length starts ≡ length weights + 1
  pub graph : Acceptable (graph_of (length weights) starts preds)
