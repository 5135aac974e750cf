-- PROMISE: what a contract says of rows it says of their cells, which are the lent words: a refused call leaves every word of every cell, and for each
-- call and input one content of the cells is permitted. A cell has six words, as the type of the lent list says.
use Prim.Native.Nat.{ℕ}
use mathlib.Core.Path.{◌≡◌, sym, ap, ◌∙◌}
use mathlib.Core.List.{List}
use Rattle.std.specs.Prelude.{Err}
use Rattle.task.specs.declared.refusal.Refusal.{Refusal}
use Rattle.task.specs.Refusals.{answer_says, step_says, Answer, StepAnswer, refusal_number, refusal_detail}
use Rattle.task.specs.declared.Limits.{Limits}
use Rattle.task.specs.declared.Step.{Step}
use Rattle.rules.specs.Memory.{Mem}
use Rattle.rules.specs.Begin.{begin}
use Rattle.rules.specs.Plans.{Result, result_of}
use Rattle.rules.specs.Steps.{step}
use Rattle.rules.proofs.Untouched.{refused-step, refused-begin}
use Rattle.rows.specs.Rows.{rows_of}
use Rattle.rows.proofs.Laws.{Sixes, rows_words}

-- two memories whose rows are cells of six words: for lists at entry and at exit both equations are `refl`, by `cell_mem`
module _ (m m' : Mem) (cells cells' : List (List ℕ)) (rows : m.rows ≡ rows_of cells) (rows' : m'.rows ≡ rows_of cells') (six : Sixes cells)
    (six' : Sixes cells') where
  same-cells : m' ≡ m → (m' ≡ m) × (cells' ≡ cells)
  same-cells e = (e, rows_words cells' cells six' six (sym rows' ∙ ap (λ (x : Mem). x.rows) e ∙ rows))

  -- "all lent memory keeps its words": the contracts here, which hand out the answer itself; of the exports `untouched` (`crates/hosts/proofs/Untouched.antt`)
  pub refused-step-cells : (limits : Limits) (p k i : ℕ) (s : Step) (why : Refusal) → result_of (Err why) m' ≡ step limits p k i s m
      → (m' ≡ m) × (cells' ≡ cells)
  refused-step-cells limits p k i s why contract =
      same-cells
      (ap (λ (r : Result StepAnswer). r.memory) contract
      ∙ refused-step limits p k i s m (refusal_number why) (refusal_detail why) (ap (λ (r : Result StepAnswer). step_says r.answer) (sym contract)))

  pub refused-begin-cells : (limits : Limits) (p k : ℕ) (why : Refusal) → result_of (Err why) m' ≡ begin limits p k m → (m' ≡ m) × (cells' ≡ cells)
  refused-begin-cells limits p k why contract =
      same-cells
      (ap (λ (r : Result Answer). r.memory) contract
      ∙ refused-begin limits p k m (refusal_number why) (refusal_detail why) (ap (λ (r : Result Answer). answer_says r.answer) (sym contract)))

  -- "For each call and input one result and one content of the lent words is permitted": two that keep to one contract are the same
  pub one-content : {A : Type 0} (a a' : A) (result : Result A) → result_of a m ≡ result → result_of a' m' ≡ result
      → (a' ≡ a) × ((m' ≡ m) × (cells' ≡ cells))
  one-content {A = A} a a' result contract contract' =
      let same : result_of a' m' ≡ result_of a m = contract' ∙ sym contract in
      (ap (λ (r : Result A). r.answer) same, same-cells (ap (λ (r : Result A). r.memory) same))
