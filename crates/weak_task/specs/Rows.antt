-- A worker's row of a weak job with one part changed.
use Rattle.std.specs.Prelude.{ℕ}
use Rattle.weak_task.specs.declared.TaskCopy.{TaskCopy}
use Rattle.weak_task.specs.declared.WeakRow.{WeakRow}

-- another phase and held copy, another pointer, other buffer places and cursor
abbrev pub with_hand : ℕ → TaskCopy → WeakRow → WeakRow
with_hand phase held r =
    record { phase = phase; held = held; pointer = r.pointer; read = r.read; write = r.write; cursor = r.cursor }

abbrev pub with_pointer : ℕ → WeakRow → WeakRow
with_pointer pointer r =
    record { phase = r.phase; held = r.held; pointer = record { 0 = pointer }; read = r.read; write = r.write; cursor = r.cursor }

abbrev pub with_places : ℕ → ℕ → ℕ → WeakRow → WeakRow
with_places read write cursor r =
    record { phase = r.phase; held = r.held; pointer = r.pointer; read = read; write = write; cursor = cursor }
