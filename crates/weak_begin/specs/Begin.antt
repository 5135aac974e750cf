-- What begin of a weak job by value does to the memory whose lists it is lent: it says how many rows are to be cleared.
use Rattle.std.specs.Prelude.{ℕ, ◌≤◌, ◌≡◌, List, length}
use Rattle.task.specs.declared.Limits.{Limits}
use Rattle.weak_task.specs.declared.WeakRow.{WeakRow}
use Rattle.weak_rules.specs.Memory.{Mem}
use Rattle.weak_rules.specs.Plans.{result_of}
use Rattle.weak_rules.specs.Begin.{begin}
use Rattle.weak_rows.specs.Rows.{cleared_rows}
use Rattle.begin.specs.declared.Begun.{Begun}

-- for every list of so many rows, with the other lists before and after
abbrev pub Begins : Limits → ℕ → ℕ → ℕ → (List WeakRow → Mem) → (List WeakRow → Mem) → Begun → Type 0
Begins limits p k rows before after r =
    ((rs : List WeakRow) → length rs ≡ rows → result_of r.answer (after (cleared_rows r.rows rs)) ≡ begin limits p k (before rs))
    × (r.rows ≤ rows)
