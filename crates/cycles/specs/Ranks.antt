-- What ranks of the tasks left tell of cycles.
use Rattle.std.specs.Prelude.{ℕ, ◌≤◌, ◌<◌, List, get_or}
use Rattle.graph.specs.Graph.{Among, Graph, Edge}
use Rattle.graph.specs.Conditions.{OnCycle, ToCycle}

-- no task below t is on a cycle
abbrev pub NoneBelow : Graph → ℕ → Type 0
NoneBelow g t = (k : ℕ) → k < t → ¬ (OnCycle g k)

-- no word has a lower rank
pub record Lows (words rank : List ℕ) (low : ℕ) : Type 0 where
  pub least : (u : ℕ) → Among u words → low ≤ get_or rank u 0

-- if task t is left, no task before it has a lower rank
pub record LowestBefore (g : Graph) (rank : List ℕ) (t low : ℕ) : Type 0 where
  pub lowest : ToCycle g t → (u : ℕ) → Edge g u t → low ≤ get_or rank u 0

-- of the tasks from t on that are left: no rank rises along an edge to one, and each falls along an edge to one below first
pub record Levels (g : Graph) (rank : List ℕ) (t first : ℕ) : Type 0 where
  pub rises-none : (k : ℕ) → t ≤ k → ToCycle g k → (u : ℕ) → Edge g u k → get_or rank k 0 ≤ get_or rank u 0
  pub falls : (k : ℕ) → t ≤ k → k < first → ToCycle g k → (u : ℕ) → Edge g u k → get_or rank k 0 < get_or rank u 0
