-- The graph that a task text spells: its tasks in order, and the three tables that the reader writes.
use Rattle.std.specs.Prelude.{ℕ, ◌+◌, List, [], ◌∷◌, ◌++◌, length}

-- a task's time and its predecessors
pub record Task : Type 0 where
  pub time : ℕ
  pub preds : List ℕ

abbrev pub task : ℕ → List ℕ → Task
task time preds = record { time = time; preds = preds }

-- time 0 and no predecessors
abbrev pub empty_task : Task
empty_task = task 0 []

-- "Weights N"
unfoldable pub weights_of : List Task → List ℕ
weights_of [] = []
weights_of (x ∷ xs) = x.time ∷ weights_of xs

-- "Predecessor starts N+1 and predecessors E: task t's predecessors run from start t up to but not including start t+1"
unfoldable pub starts_from : ℕ → List Task → List ℕ
starts_from s [] = s ∷ []
starts_from s (x ∷ xs) = s ∷ starts_from (s + length x.preds) xs

abbrev pub starts_of : List Task → List ℕ
starts_of = starts_from 0

unfoldable pub preds_of : List Task → List ℕ
preds_of [] = []
preds_of (x ∷ xs) = x.preds ++ preds_of xs

abbrev pub edges_of : List Task → ℕ
edges_of xs = length (preds_of xs)

-- weights, predecessor starts and predecessors
pub record Tables : Type 0 where
  pub weights : List ℕ
  pub starts : List ℕ
  pub preds : List ℕ

abbrev pub tables : List ℕ → List ℕ → List ℕ → Tables
tables weights starts preds = record { weights = weights; starts = starts; preds = preds }

abbrev pub tables_of : List Task → Tables
tables_of xs = tables (weights_of xs) (starts_of xs) (preds_of xs)
