-- The lent words of the worker rows, read as rows: "phase, held task, ring pointer, buffer read place, buffer write place, cursor".
use Rattle.std.specs.Prelude.{ℕ, List, [], ◌∷◌, ◌++◌, get_or, set, drop, replicate}
use Rattle.task.specs.Types.{idle}
use Rattle.task.specs.declared.Row.{Row}
use Rattle.rules.specs.Memory.{with_hand, with_places}

abbrev pub row_of : List ℕ → Row
row_of cells =
    record {
      phase = get_or cells 0 0;
      held = record { 0 = get_or cells 1 0 };
      pointer = record { 0 = get_or cells 2 0 };
      read = get_or cells 3 0;
      write = get_or cells 4 0;
      cursor = get_or cells 5 0;
    }

unfoldable pub rows_of : List (List ℕ) → List Row
rows_of [] = []
rows_of (cells ∷ rest) = row_of cells ∷ rows_of rest

-- a row with another phase alone, another write place, another read place and cursor, another cursor alone
abbrev pub with_phase : ℕ → Row → Row
with_phase phase row = with_hand phase row.held row

abbrev pub with_write : ℕ → Row → Row
with_write write row = with_places row.read write row.cursor row

abbrev pub with_next : ℕ → ℕ → Row → Row
with_next read cursor row = with_places read row.write cursor row

abbrev pub with_cursor : ℕ → Row → Row
with_cursor cursor row = with_next row.read cursor row

-- worker i's row changed, where there is one
unfoldable pub changed : (Row → Row) → ℕ → List Row → List Row
changed f i rows = set rows i (f (get_or rows i idle))

-- the first n rows are those of idle workers
unfoldable pub cleared_rows : ℕ → List Row → List Row
cleared_rows n rows = replicate n idle ++ drop n rows
