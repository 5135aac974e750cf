-- The graph check: 2, 1, 3, 4, 5 in begin's order.
use Rattle.task.specs.declared.refusal.Refusal.TheVariants.{BadTable, BeyondLimit, Cycle, Duplicate, WrongLength}
use Rattle.std.specs.Prelude.{ℕ, ◌+◌, Bool, not, ◌&&◌, List, length, ltb, leb, eqb, Ok}
use Rattle.lists.specs.Decided.{holds, first_below}
use Rattle.task.specs.Types.{capped}
use Rattle.task.specs.Refusals.{refused_if, Answer}
use Rattle.task.specs.declared.Limits.{Limits}
use Rattle.graph.specs.Graph.{Graph, graph_of}
use Rattle.graph.specs.Decide.{light?, bad?, ends_fit?, twice?, on_cycle?}

-- N and E within the limits; a limit above the engine's counts as the engine's
unfoldable pub sizes_fit : Limits → ℕ → ℕ → Bool
sizes_fit l n e = leb n (capped l).tasks && leb e (capped l).edges

-- "smallest such task", or N where there is none
unfoldable pub first_bad : Graph → ℕ
first_bad g = first_below g.tasks (bad? g)

unfoldable pub first_twice : Graph → ℕ
first_twice g = first_below g.tasks (twice? g)

-- "smallest task on any cycle"
unfoldable pub first_on_cycle : Graph → ℕ
first_on_cycle g = first_below g.tasks (on_cycle? g)

-- 3, 4 and 5; "N for a wrong first or last start alone"
unfoldable pub tables_answer : Graph → Answer
tables_answer g =
    refused_if (ltb (first_bad g) g.tasks) (BadTable (first_bad g))
    (refused_if (not (holds (ends_fit? g))) (BadTable g.tasks)
    (refused_if (ltb (first_twice g) g.tasks) (Duplicate (first_twice g))
    (refused_if (ltb (first_on_cycle g) g.tasks) (Cycle (first_on_cycle g))
    (Ok tt))))

-- The whole check of weights and predecessor tables, shared by every call on a graph. `within` says that the call's other
-- numbers are within their limits, `others` that its other lists have their lengths.
unfoldable pub check_answer : Limits → Bool → Bool → List ℕ → List ℕ → List ℕ → Answer
check_answer limits within others weights starts preds =
    refused_if (not ((within && sizes_fit limits (length weights) (length preds)) && holds (light? weights))) BeyondLimit
    (refused_if (not (eqb (length starts) (length weights + 1) && others)) WrongLength
    (tables_answer (graph_of (length weights) starts preds)))
