-- The memory that a weak call's lists are.
use Rattle.std.specs.Prelude.{List, ℕ, ℤ}
use Rattle.weak_rows.specs.Rows.{rows_of}
use Rattle.weak_rows.specs.Copies.{copies_of}
use Rattle.weak_rules.specs.Memory.{Mem, mem_of}

-- the lent lists as a memory: the slots are lent as cells of two words each, the rows as cells of seven
abbrev pub weak_cell_mem : List ℕ → List ℕ → List ℕ → List ℕ → List ℕ → List ℕ → List ℕ → List (List ℕ) → List ℕ → List ℤ → List ℕ → List ℕ → List ℕ
    → List (List ℕ) → Mem
weak_cell_mem w ps p ss s d f slots e c b x n cells = mem_of w ps p ss s d f (copies_of slots) e c b x n (rows_of cells)
