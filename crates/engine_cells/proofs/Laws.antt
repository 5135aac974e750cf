-- The rows as cells: the lengths of the lent lists, and the end of a step.
use Prim.Native.Nat.{ℕ, ◌<◌}
use mathlib.Core.Path.{◌≡◌, refl, ap, ◌∙◌}
use mathlib.Core.List.{List}
use lib.ListN.{length, get_or}
use lib.IntN.{ℤ}
use Rattle.std.specs.Prelude.{Ok}
use Rattle.task.specs.Types.{idle}
use Rattle.task.specs.declared.Row.{Row}
use Rattle.task.specs.declared.StepOutcome.{StepOutcome}
use Rattle.rows.specs.Rows.{rows_of, with_next, with_cursor, changed}
use Rattle.rows.proofs.Laws.{length-rows, one-changed, two-changed}
use Rattle.admission.specs.Admission.{sizes_of, answer_of, rows_after, Stepped}
use Rattle.admission.specs.declared.Sizes.{Sizes}
use Rattle.engine_cells.specs.Cells.{cell_mem}

-- a row is six words
module _ (w ps p' ss s d r e : List ℕ) (c : List ℤ) (b x n : List ℕ) (cells : List (List ℕ)) where
  pub sizes-made :
      record {
        weights = length w;
        pred_starts = length ps;
        preds = length p';
        succ_starts = length ss;
        succs = length s;
        degrees = length d;
        rings = length r;
        ends = length e;
        counters = length c;
        buffers = length b;
        executed = length x;
        run = length n;
        rows = length cells;
      }
      ≡ sizes_of (cell_mem w ps p' ss s d r e c b x n cells)
  sizes-made = rw (length-rows cells)

-- as many rows as cells
pub there : (w ps p' ss s d r e : List ℕ) (c : List ℤ) (b x n : List ℕ) (cells : List (List ℕ)) (sizes : Sizes) → sizes ≡ sizes_of (cell_mem w ps p' ss s d r e c b x n cells)
    → sizes.rows ≡ length cells
there w ps p' ss s d r e c b x n cells sizes e' = ap (λ (z : Sizes). z.rows) e' ∙ length-rows cells

-- the end of an accepted step, whose row is stored by one part or two
module _ (cells : List (List ℕ)) (i : ℕ) (row : Row) (h : i < length cells) (loaded : row ≡ get_or (rows_of cells) i idle)
    (a : Stepped) (o : StepOutcome) (after : Row) (v : a ≡ Ok (o, after)) where
  pub one-stored : (f : Row → Row) → after ≡ f row → (last : List Row) → last ≡ changed f i (rows_of cells)
      → (Ok o ≡ answer_of a) × (last ≡ rows_after (rows_of cells) i a)
  one-stored f kept last l = rw v (refl, l ∙ one-changed (rows_of cells) i row loaded f f after kept)

  -- where the read place stays the cursor alone is stored
  pub cursor-stored : after ≡ with_next after.read after.cursor row → after.read ≡ row.read → (last : List Row)
      → last ≡ changed (with_cursor after.cursor) i (rows_of cells) → (Ok o ≡ answer_of a) × (last ≡ rows_after (rows_of cells) i a)
  cursor-stored kept same = one-stored (with_cursor after.cursor) (kept ∙ ap (λ (n : ℕ). with_next n after.cursor row) same)

  pub two-stored : (f g : Row → Row) → after ≡ g (f row) → (mid last : List Row) → mid ≡ changed f i (rows_of cells) → last ≡ changed g i mid
      → (Ok o ≡ answer_of a) × (last ≡ rows_after (rows_of cells) i a)
  two-stored f g kept mid last m l =
      rw v (refl, rw (l, m) (two-changed (rows_of cells) i row loaded f g after (rw (length-rows cells) h) kept))
