-- PROMISES: begin is refused under the table's conditions and no others; so it accepts exactly what fits and has room for its roots.
use Prim.Native.Nat.{ℕ, ◌*◌, ◌≤◌}
use mathlib.Core.Path.{◌≡◌}
use mathlib.Core.Logic.{◌↔◌}
use Rattle.task.specs.Refusals.{accepted, answer_says}
use Rattle.task.specs.Rows.{Follows}
use Rattle.task.specs.declared.Limits.{Limits}
use Rattle.graph.specs.Conditions.{GraphFits}
use Rattle.plans.proofs.Begin.{answer-follows, answer-accepted, result_answers}
use Rattle.weak_rules.specs.Memory.{Mem}
use Rattle.plans.specs.Sizes.{Fits}
use Rattle.weak_rules.specs.Begin.{begin_answer, begun, begin}
use Rattle.weak_rules.specs.Tables.{root_count, begin_rows}

answer-given : (limits : Limits) (p k : ℕ) (m : Mem) → (begin limits p k m).answer ≡ begin_answer limits p k m
unfolding begin
answer-given limits p k m = result_answers (begun p k m) m (begin_answer limits p k m)

pub begin-follows : (limits : Limits) (p k : ℕ) (m : Mem) → Follows (begin_rows limits p k m) (answer_says (begin limits p k m).answer)
begin-follows limits p k m = rw (answer-given limits p k m) (answer-follows limits p k m)

pub begin-accepted : (limits : Limits) (p k : ℕ) (m : Mem)
    → (answer_says (begin limits p k m).answer ≡ accepted)
    ↔ (Fits limits p k m × GraphFits limits m.weights m.pred_starts m.preds × (root_count m ≤ p * k))
begin-accepted limits p k m = rw (answer-given limits p k m) (answer-accepted limits p k m)
