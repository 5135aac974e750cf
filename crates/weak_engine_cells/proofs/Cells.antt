-- PROMISE: what a contract says of slots and rows it says of their cells, which are the lent words: a refused call leaves every word of every cell,
-- and for each call and input one content of the cells is permitted. A slot has two words and a row seven, as the types of the lent lists say.
use Prim.Native.Nat.{ℕ}
use mathlib.Core.Path.{◌≡◌, sym, ap, ◌∙◌}
use mathlib.Core.List.{List}
use Rattle.std.specs.Prelude.{Err}
use Rattle.task.specs.declared.refusal.Refusal.{Refusal}
use Rattle.task.specs.Refusals.{refusal_number, refusal_detail, answer_says, Answer}
use Rattle.task.specs.declared.Limits.{Limits}
use Rattle.task.specs.declared.Step.{Step}
use Rattle.weak_task.specs.Says.{WeakAnswer, step_says}
use Rattle.weak_rules.specs.Memory.{Mem}
use Rattle.weak_rules.specs.Begin.{begin}
use Rattle.weak_rules.specs.Plans.{Result, result_of}
use Rattle.weak_rules.specs.Steps.{step}
use Rattle.weak_rules.proofs.Untouched.{refused-step, refused-begin}
use Rattle.weak_rows.specs.Rows.{rows_of}
use Rattle.weak_rows.specs.Copies.{copies_of}
use Rattle.weak_rows.proofs.Cells.{CellsOf}
use Rattle.weak_rows.proofs.Laws.{rows_words}
use Rattle.weak_rows.proofs.Copies.{copies-words}

-- a memory's slots and rows are these cells: for lists at entry and at exit both equations are `refl`, by `weak_cell_mem`
pub record Lent (m : Mem) (slots cells : List (List ℕ)) : Type 0 where
  pub rings_are : m.rings ≡ copies_of slots
  pub rows_are : m.rows ≡ rows_of cells
  pub two : CellsOf 2 slots
  pub seven : CellsOf 7 cells

-- equal memories, and equal words of their cells
abbrev pub Same : (m m' : Mem) (slots slots' cells cells' : List (List ℕ)) → Type 0
Same m m' slots slots' cells cells' = (m' ≡ m) × ((slots' ≡ slots) × (cells' ≡ cells))

module _ (m m' : Mem) (slots slots' cells cells' : List (List ℕ)) (l : Lent m slots cells) (l' : Lent m' slots' cells') where
  same-cells : m' ≡ m → Same m m' slots slots' cells cells'
  same-cells e = (
    e,
    (
      copies-words slots' slots l'.two l.two (sym l'.rings_are ∙ ap (λ (x : Mem). x.rings) e ∙ l.rings_are),
      rows_words cells' cells l'.seven l.seven (sym l'.rows_are ∙ ap (λ (x : Mem). x.rows) e ∙ l.rows_are),
    ),
  )

  -- "all lent memory keeps its words": the contracts here, which hand out the answer itself; of the exports `untouched`
  -- (`crates/weak_hosts/proofs/Untouched.antt`)
  pub refused-step-cells : (limits : Limits) (p k i : ℕ) (s : Step) (why : Refusal) → result_of (Err why) m' ≡ step limits p k i s m
      → Same m m' slots slots' cells cells'
  refused-step-cells limits p k i s why contract =
      same-cells
      (ap (λ (r : Result WeakAnswer). r.memory) contract
      ∙ refused-step limits p k i s m (refusal_number why) (refusal_detail why) (ap (λ (r : Result WeakAnswer). step_says r.answer) (sym contract)))

  pub refused-begin-cells : (limits : Limits) (p k : ℕ) (why : Refusal) → result_of (Err why) m' ≡ begin limits p k m → Same m m' slots slots' cells cells'
  refused-begin-cells limits p k why contract =
      same-cells
      (ap (λ (r : Result Answer). r.memory) contract
      ∙ refused-begin limits p k m (refusal_number why) (refusal_detail why) (ap (λ (r : Result Answer). answer_says r.answer) (sym contract)))

  -- "For each call and input one result and one content of the lent words is permitted": two that keep to one contract are the same
  pub one-content : {A : Type 0} (a a' : A) (result : Result A) → result_of a m ≡ result → result_of a' m' ≡ result
      → (a' ≡ a) × Same m m' slots slots' cells cells'
  one-content {A = A} a a' result contract contract' =
      let same : result_of a' m' ≡ result_of a m = contract' ∙ sym contract in
      (ap (λ (r : Result A). r.answer) same, same-cells (ap (λ (r : Result A). r.memory) same))
