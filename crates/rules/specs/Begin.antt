-- Begin: the checks "2, 1, 3, 4, 5, 6" (`begin_answer`), then the memory is laid down.
use Rattle.task.specs.Refusals.{Answer}
use Rattle.std.specs.Prelude.{ℕ, List, [], length, replicate, pos}
use Rattle.task.specs.Types.{idle}
use Rattle.task.specs.declared.Limits.{Limits}
use Rattle.graph.specs.Successors.{succ_starts_of, succ_words, degree_list, roots}
pub use Rattle.plans.specs.Begin.{begin_result}
unfoldable pub use Rattle.plans.specs.Begin.{roots_answer, begin_answer}
unfoldable pub use Rattle.plans.specs.Laying.{roots_laid}
use Rattle.rules.specs.Memory.{Mem, mem_of, graph_in}
use Rattle.rules.specs.Plans.{Result}

-- "Everything is zeroed but weights and the predecessor tables; held tasks become NIL. Successors are filled, degrees are numbers
-- of predecessors."
unfoldable pub cleared : Mem → Mem
cleared m =
    mem_of m.weights m.pred_starts m.preds (succ_starts_of (graph_in m)) (succ_words (graph_in m)) (degree_list (graph_in m))
    (replicate (length m.rings) 0)
    (replicate (length m.ends) 0)
    (replicate (length m.counters) (pos 0))
    (replicate (length m.buffers) 0)
    (replicate (length m.executed) 0)
    (replicate (length m.run) 0)
    (replicate (length m.rows) idle)

-- the roots, numbered from n, each a task that joins a ring
abbrev pub roots_placed : ℕ → ℕ → ℕ → List ℕ → Mem → Mem
roots_placed p k n ts m = roots_laid p k (λ t. t) (λ x t. []) n ts m

unfoldable pub begun : ℕ → ℕ → Mem → Mem
begun p k m = roots_placed p k 0 (roots (graph_in m)) (cleared m)

unfoldable pub begin : Limits → ℕ → ℕ → Mem → Result Answer
begin limits p k m = begin_result (begin_answer limits p k m) (begun p k m) m
