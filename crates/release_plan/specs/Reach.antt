-- The successor at a worker's cursor, by the lists that it is found in, whatever the family of jobs.
use Rattle.task.specs.declared.refusal.Refusal.TheVariants.{Damaged, NothingThere}
use Rattle.std.specs.Prelude.{ℕ, ◌+◌, ◌-◌, ◌*◌, Bool, cond, ◌&&◌, List, length, get_or, ltb, leb, eqb, Result, Ok, Err}
use Rattle.task.specs.declared.refusal.Refusal.{Refusal}
use Rattle.task.specs.declared.TaskId.{TaskId}

-- what is found at the cursor, or why it is refused
abbrev pub Reached : Type 0
Reached = Result (TaskId × TaskId × ℕ) Refusal

pattern abbrev pub At : TaskId → TaskId → ℕ → Reached
At t done n = Ok (t, done, n)

-- the successor at the cursor, the completed task that it follows, and how many successors that one has
pub record Successor : Type 0 where
  pub task : TaskId
  pub completed : TaskId
  pub count : ℕ

abbrev pub successor_of : TaskId → TaskId → ℕ → Successor
successor_of t done n = record { task = t; completed = done; count = n }

-- a word that is read must be in its range
abbrev pub within : Bool → Reached → Reached
within fits rest = cond fits rest (Err Damaged)

-- worker i of n tasks; its buffer's read place, write place and cursor; successor starts, successors, buffers
module _ (i n read write cursor : ℕ) (ss s b : List ℕ) where
  -- the words read, one after the other: the oldest task, the range of its successors, the one at the cursor
  abbrev pub completed : ℕ
  completed = get_or b (i * n + read) 0

  abbrev pub first : ℕ
  first = get_or ss completed 0

  abbrev pub past : ℕ
  past = get_or ss (completed + 1) 0

  abbrev pub next : ℕ
  next = get_or s (first + cursor) 0

  abbrev pub successor_at : Successor
  successor_at = successor_of (record { 0 = next }) (record { 0 = completed }) (past - first)

  -- "the oldest task in i's buffer, its successor s at the cursor"
  unfoldable pub reach_of : Reached
  reach_of =
      within (leb read write && leb write n)
      (cond (eqb read write) (Err NothingThere)
      (within (ltb completed n)
      (within (leb first past && leb past (length s))
      (within (ltb cursor (past - first))
      (within (ltb next n) (At successor_at.task successor_at.completed successor_at.count))))))
