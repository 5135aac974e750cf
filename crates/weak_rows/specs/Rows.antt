-- The lent words of a weak job's worker rows, read as rows: phase, held task, held predecessor, ring pointer, buffer read place, buffer write place,
-- cursor.
use Rattle.std.specs.Prelude.{ℕ, List, ◌++◌, get_or, set, drop, replicate}
use Rattle.weak_task.specs.Types.{idle}
use Rattle.weak_task.specs.Rows.{with_hand, with_places}
use Rattle.weak_task.specs.declared.WeakRow.{WeakRow}
use Rattle.weak_rows.specs.Cells.{read_as}

abbrev pub row_of : List ℕ → WeakRow
row_of cells =
    record {
      phase = get_or cells 0 0;
      held = record { task = record { 0 = get_or cells 1 0 }; predecessor = record { 0 = get_or cells 2 0 } };
      pointer = record { 0 = get_or cells 3 0 };
      read = get_or cells 4 0;
      write = get_or cells 5 0;
      cursor = get_or cells 6 0;
    }

abbrev pub rows_of : List (List ℕ) → List WeakRow
rows_of l = read_as row_of l

-- a row with another phase alone, another write place, another read place and cursor, another cursor alone
abbrev pub with_phase : ℕ → WeakRow → WeakRow
with_phase phase row = with_hand phase row.held row

abbrev pub with_write : ℕ → WeakRow → WeakRow
with_write write row = with_places row.read write row.cursor row

abbrev pub with_next : ℕ → ℕ → WeakRow → WeakRow
with_next read cursor row = with_places read row.write cursor row

abbrev pub with_cursor : ℕ → WeakRow → WeakRow
with_cursor cursor row = with_next row.read cursor row

-- worker i's row changed, where there is one
unfoldable pub changed : (WeakRow → WeakRow) → ℕ → List WeakRow → List WeakRow
changed f i rows = set rows i (f (get_or rows i idle))

-- the first n rows are those of idle workers
unfoldable pub cleared_rows : ℕ → List WeakRow → List WeakRow
cleared_rows n rows = replicate n idle ++ drop n rows
