-- "handed back as that part of the predecessor or the successor table itself": where the part begins. A pointer is a block and an
-- offset in bytes.
use Rattle.std.specs.Prelude.{ℕ, ◌+◌, ◌*◌, ◌≡◌, get_or, Ok}
use Rattle.task.specs.declared.Side.{Side}
use Rattle.task.specs.declared.Side.TheVariants.{Predecessors, Successors}
use Rattle.graph.specs.Lookup.{Lent, starts_on, judge_answer}

-- word i of a table that begins at p; a word has four bytes
abbrev pub word_ptr : ℕ × ℕ → ℕ → ℕ × ℕ
word_ptr p i = (p.0, p.1 + 4 * i)

-- the table on the side named
abbrev pub table_ptr : Side → ℕ × ℕ → ℕ × ℕ → ℕ × ℕ
table_ptr Predecessors preds succs = preds
table_ptr Successors preds succs = succs

-- an accepted lookup's part begins at p: with the task's range in the table on the side named, the tables beginning at preds and succs
abbrev pub InPlace : Side → Lent → ℕ × ℕ → ℕ × ℕ → ℕ → ℕ × ℕ → Type 0
InPlace side l preds succs t p = judge_answer side l t ≡ Ok tt → p ≡ word_ptr (table_ptr side preds succs) (get_or (starts_on side l) t 0)
