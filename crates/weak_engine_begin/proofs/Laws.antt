-- Begin over all lists, its slots and rows lent as cells: on the lists but the rows, which are cleared after it.
use Prim.Native.Nat.{ℕ}
use mathlib.Core.Path.{◌≡◌}
use mathlib.Core.List.{List}
use lib.ListN.{length}
use lib.IntN.{ℤ}
use Rattle.task.specs.declared.Limits.{Limits}
use Rattle.weak_task.specs.Types.{Copy}
use Rattle.weak_task.specs.declared.WeakRow.{WeakRow}
use Rattle.weak_rules.specs.Memory.{mem_of}
use Rattle.weak_rules.specs.Plans.{result_of}
use Rattle.weak_rules.specs.Begin.{begin}
use Rattle.weak_rows.specs.Rows.{rows_of, cleared_rows}
use Rattle.weak_rows.specs.Copies.{copies_of}
use Rattle.weak_rows.proofs.Laws.{length-rows}
use Rattle.weak_begin.specs.Begin.{Begins}
use Rattle.begin.specs.declared.Begun.{Begun}
use Rattle.weak_engine_cells.specs.Cells.{weak_cell_mem}

module _ (w ps p' ss s d f : List ℕ) (slots : List (List ℕ)) (e : List ℕ) (c : List ℤ) (b x n : List ℕ) (cells : List (List ℕ)) where
  pub begin-made : (limits : Limits) (p k : ℕ) (rows' : List WeakRow) (a : Begun) (ss' s' d' f' : List ℕ) (r' : List Copy) (e' : List ℕ) (c' : List ℤ)
      (b' x' n' : List ℕ) → rows' ≡ cleared_rows a.rows (rows_of cells)
      → Begins limits p k (length cells) (mem_of w ps p' ss s d f (copies_of slots) e c b x n) (mem_of w ps p' ss' s' d' f' r' e' c' b' x' n') a
      → result_of a.answer (mem_of w ps p' ss' s' d' f' r' e' c' b' x' n' rows') ≡ begin limits p k (weak_cell_mem w ps p' ss s d f slots e c b x n cells)
  begin-made limits p k rows' a ss' s' d' f' r' e' c' b' x' n' cleared t = rw cleared (t.0 (rows_of cells) (length-rows cells))
