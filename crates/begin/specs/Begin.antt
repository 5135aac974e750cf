-- What begin by value does to the memory whose lists it is lent: it says how many rows are to be cleared.
use Rattle.std.specs.Prelude.{ℕ, ◌≤◌, ◌≡◌, List, length}
use Rattle.task.specs.declared.Limits.{Limits}
use Rattle.task.specs.declared.Row.{Row}
use Rattle.rules.specs.Memory.{Mem}
use Rattle.rules.specs.Plans.{result_of}
use Rattle.rules.specs.Begin.{begin}
use Rattle.rows.specs.Rows.{cleared_rows}
use Rattle.begin.specs.declared.Begun.{Begun}

-- for every list of so many rows, with the other lists before and after
abbrev pub Begins : Limits → ℕ → ℕ → ℕ → (List Row → Mem) → (List Row → Mem) → Begun → Type 0
Begins limits p k rows before after r =
    ((rs : List Row) → length rs ≡ rows → result_of r.answer (after (cleared_rows r.rows rs)) ≡ begin limits p k (before rs)) × (r.rows ≤ rows)
