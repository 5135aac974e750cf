-- Document 01's table of refused calls for the calls on a graph, row by row in the calls' orders. No row looks at how an
-- answer is found.
use Rattle.std.specs.Prelude.{ℕ, ◌+◌, ◌≤◌, ◌<◌, ◌≡◌, ◌⊎◌, List, [], ◌∷◌, length, get_or}
use Rattle.lists.specs.Decided.{Smallest}
use Rattle.task.specs.Types.{capped, engine}
use Rattle.task.specs.Refusals.{wrong_length, beyond_limit, bad_table, duplicate, cycle}
use Rattle.task.specs.Rows.{Refusal, row, only}
use Rattle.task.specs.declared.Limits.{Limits}
use Rattle.task.specs.declared.Side.{Side}
use Rattle.graph.specs.Graph.{Graph, graph_of, edge_count}
use Rattle.graph.specs.Conditions.{Good, Bad, Twice, OnCycle}
use Rattle.graph.specs.Lookup.{Lent, starts_on, words_on}

-- "N, E .. beyond its limit"
abbrev pub Beyond : Limits → ℕ → ℕ → Type 0
Beyond l n e = ((capped l).tasks < n) ⊎ ((capped l).edges < e)

-- "(begin) a weight beyond its limit"; the writer too "checks as begin does"
abbrev pub Heavy : List ℕ → Type 0
Heavy weights = (t : ℕ) × ((t < length weights) × (65535 < get_or weights t 0))

-- 3: "smallest such task, N for a wrong first or last start alone"; 4 and 5: "smallest such task", "smallest task on any cycle"
abbrev pub table_rows : Graph → List Refusal
table_rows g =
    row bad_table (Smallest (λ t. (t < g.tasks) × Bad g t))
    ∷ row bad_table (only g.tasks (¬ (◌≡◌ {A = ℕ} (get_or g.starts 0 0) 0) ⊎ ¬ (get_or g.starts g.tasks 0 ≡ edge_count g)))
    ∷ row duplicate (Smallest (λ t. (t < g.tasks) × Twice g t))
    ∷ row cycle (Smallest (OnCycle g))
    ∷ []

-- The check that every call on a graph shares. A call adds its own conditions: `Far`, that another of its numbers is beyond its
-- limit, and `Odd`, that another of its lists hasn't its length.
abbrev pub check_rows : Limits → Type 0 → Type 0 → List ℕ → List ℕ → List ℕ → List Refusal
check_rows limits Far Odd weights starts preds =
    row beyond_limit (only 0 ((Far ⊎ Beyond limits (length weights) (length preds)) ⊎ Heavy weights))
    ∷ row wrong_length (only 0 (¬ (length starts ≡ length weights + 1) ⊎ Odd))
    ∷ table_rows (graph_of (length weights) starts preds)

-- the filling call is lent successor starts, successors and degrees
abbrev pub Unfit : List ℕ → List ℕ → List ℕ → List ℕ → List ℕ → Type 0
Unfit weights preds succ_starts succs degrees =
    ¬ (length succ_starts ≡ length weights + 1) ⊎ (¬ (length succs ≡ length preds) ⊎ ¬ (length degrees ≡ length weights))

-- "lookup: its range or a number in it is bad, or task ≥ N"; the detail is "the task"
abbrev pub lookup_rows : Side → Lent → ℕ → List Refusal
lookup_rows side l t =
    row beyond_limit (only 0 (Beyond engine (length l.weights) (length l.preds)))
    ∷ row wrong_length (only 0 (¬ (length l.pred_starts ≡ length l.weights + 1) ⊎ (¬ (length l.succ_starts ≡ length l.weights + 1)
    ⊎ ¬ (length l.succs ≡ length l.preds))))
    ∷ row bad_table (only t ((length l.weights ≤ t) ⊎ ¬ (Good (length l.weights) (starts_on side l) (words_on side l) t)))
    ∷ []
