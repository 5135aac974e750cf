-- Runs and their graphs: the limits that a run keeps, and runs of one graph.
use Rattle.std.specs.Prelude.{ℕ, ◌≡◌, ◌↔◌}
use Rattle.task.specs.declared.Limits.{Limits}
use Rattle.machine.specs.Runs.{View}
use Rattle.graph.specs.Graph.{Edge}
use Rattle.memory.specs.Family.{Family}
use Rattle.memory.specs.Memory.{Mem}
use Rattle.plans.specs.Memory.{tasks, edges, graph_in}
use Rattle.plans.specs.Sizes.{KeepsLimits}

module _ {F : Family} {C : Type 0} where
  -- N, E, P and K of the run keep these limits
  abbrev pub KeptBy : Limits → View (Mem F) C → Type 0
  KeptBy limits v = KeepsLimits limits v.workers v.slots (tasks v.lent) (edges v.lent)

-- "Two runs are of one graph if N and the edges agree.": in the tables that their begins were lent
pub record Agree {F : Family} (m m' : Mem F) : Type 0 where
  pub same_tasks : tasks m ≡ tasks m'
  pub same_edges : (u t : ℕ) → Edge (graph_in m) u t ↔ Edge (graph_in m') u t

module _ {F : Family} {C : Type 0} where
  abbrev pub OneGraph : View (Mem F) C → View (Mem F) C → Type 0
  OneGraph v v' = Agree v.lent v'.lent
