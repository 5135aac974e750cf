-- What the calls on records share: the lengths of their lists are the sizes that are judged, and the row that is stored is the worker's.
use Prim.Native.Nat.{ℕ}
use mathlib.Core.Path.{◌≡◌, refl}
use mathlib.Core.List.{List}
use lib.ListN.{length, get_or, set}
use lib.IntN.{ℤ}
use Rattle.task.specs.Types.{idle}
use Rattle.task.specs.declared.Row.{Row}
use Rattle.rules.specs.Memory.{mem_of}
use Rattle.admission.specs.Admission.{sizes_of, row_after, rows_after, Stepped}
use Rattle.admission.specs.declared.Sizes.{Sizes}
use Rattle.admission.proofs.Rows.{row-stored}

module _ (w ps p' ss s d r e : List ℕ) (c : List ℤ) (b x n : List ℕ) (rows : List Row) where
  abbrev pub sizes : Sizes
  sizes =
      record {
        weights = length w;
        pred_starts = length ps;
        preds = length p';
        succ_starts = length ss;
        succs = length s;
        degrees = length d;
        rings = length r;
        ends = length e;
        counters = length c;
        buffers = length b;
        executed = length x;
        run = length n;
        rows = length rows;
      }

  pub measured : sizes ≡ sizes_of (mem_of w ps p' ss s d r e c b x n rows)
  measured = refl

pub stored : (rows rows' : List Row) (i : ℕ) (row after : Row) (a : Stepped) → row ≡ get_or rows i idle → after ≡ row_after row a
    → rows' ≡ set rows i after → rows' ≡ rows_after rows i a
stored rows rows' i row after a loaded e h = rw (h, e) (row-stored rows i row loaded a)
