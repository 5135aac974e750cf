-- Begin's answer: the checks "2, 1, 3, 4, 5, 6".
use Rattle.task.specs.declared.refusal.Refusal.TheVariants.{TooManyRoots}
use Rattle.std.specs.Prelude.{ℕ, ◌*◌, length, ltb, Err, Ok}
use Rattle.task.specs.Refusals.{refused_if, and_then, Answer}
use Rattle.task.specs.declared.Limits.{Limits}
use Rattle.graph.specs.Check.{check_answer}
use Rattle.graph.specs.Successors.{roots}
use Rattle.ring.specs.Ring.{capacity}
use Rattle.memory.specs.Family.{Family}
use Rattle.memory.specs.Memory.{Mem}
use Rattle.plans.specs.Memory.{graph_in}
use Rattle.plans.specs.Sizes.{numbers_fit, others_fit}
use Rattle.plans.specs.Plans.{Result}

module _ {F : Family} where
  -- 6: "The roots' limit becomes P·K."; the detail is "their number"
  unfoldable pub roots_answer : ℕ → ℕ → Mem F → Answer
  roots_answer p k m = refused_if (ltb (p * capacity k) (length (roots (graph_in m)))) (TooManyRoots (length (roots (graph_in m)))) (Ok tt)

  unfoldable pub begin_answer : Limits → ℕ → ℕ → Mem F → Answer
  begin_answer limits p k m =
      and_then (check_answer limits (numbers_fit limits p k) (others_fit p k m) m.weights m.pred_starts m.preds) (roots_answer p k m)

  -- a refused begin leaves the memory as it was; `begun` is what an accepted one leaves
  abbrev pub begin_result : Answer → Mem F → Mem F → Result (Mem F) Answer
  begin_result (Err why) begun m = record { answer = Err why; memory = m }
  begin_result (Ok u) begun m = record { answer = Ok tt; memory = begun }
