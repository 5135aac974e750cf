-- Begin of a weak job: the checks "2, 1, 3, 4, 5, 6" (`begin_answer`), then the memory is laid down.
use Rattle.task.specs.Refusals.{Answer}
use Rattle.std.specs.Prelude.{ℕ, ◌%◌, max, List, [], ◌∷◌, length, replicate, set, pos}
use Rattle.lists.specs.Lists.{tabulate}
use Rattle.task.specs.Types.{nil}
use Rattle.task.specs.declared.Limits.{Limits}
use Rattle.graph.specs.Graph.{Graph, preds_of}
use Rattle.graph.specs.Successors.{succ_starts_of, succ_words, roots}
use Rattle.weak_task.specs.Types.{copy, idle, unfixed}
use Rattle.plans.specs.Laying.{roots_laid}
pub use Rattle.plans.specs.Begin.{begin_result}
unfoldable pub use Rattle.plans.specs.Begin.{roots_answer, begin_answer}
use Rattle.weak_rules.specs.Memory.{Mem, mem_of, graph_in}
use Rattle.weak_rules.specs.Updates.{put_fixed}
use Rattle.weak_rules.specs.Plans.{Result}

-- "degrees are numbers of predecessors", "a root being begun with degree 1"
unfoldable pub weak_degrees : Graph → List ℕ
weak_degrees g = tabulate g.tasks (λ t. max 1 (length (preds_of g t)))

-- "Everything is zeroed but weights and the predecessor tables"; the fixed words are "65,535 before", "an empty hand NIL twice", and the "third run
-- word .. keeps R"
unfoldable pub cleared : Mem → Mem
cleared m =
    mem_of m.weights m.pred_starts m.preds (succ_starts_of (graph_in m)) (succ_words (graph_in m)) (weak_degrees (graph_in m))
    (replicate (length m.fixed) unfixed.0)
    (replicate (length m.rings) (copy 0 0))
    (replicate (length m.ends) 0)
    (replicate (length m.counters) (pos 0))
    (replicate (length m.buffers) 0)
    (replicate (length m.executed) 0)
    (set (replicate (length m.run) 0) 2 (length (roots (graph_in m))))
    (replicate (length m.rows) idle)

-- "root number m, from 0, goes to the ring of owner and filler m mod P, and its weight to that counter": "a root has one copy with NIL", which is its
-- first copy and "fixes the task's worker"
unfoldable pub begun : ℕ → ℕ → Mem → Mem
begun p k m = roots_laid p k (λ t. copy t nil.0) (λ n t. put_fixed t (n % p) ∷ []) 0 (roots (graph_in m)) (cleared m)

unfoldable pub begin : Limits → ℕ → ℕ → Mem → Result Answer
begin limits p k m = begin_result (begin_answer limits p k m) (begun p k m) m
