-- A family of jobs: what its items are, and how its worker rows are made. A plain job's items are its tasks.
use Rattle.std.specs.Prelude.{ℕ, Bool}

-- "phase, held task": what a worker has in hand
pub record Hand (A : Type 0) : Type 0 where
  pub phase : ℕ
  pub held : A

-- "read place, write place, cursor": where a worker's completed buffer is read and written
pub record Places : Type 0 where
  pub read : ℕ
  pub write : ℕ
  pub cursor : ℕ

-- the figures of a family: what the lengths of its record and of its run words hang on, and how long its runs are
pub record Shape : Type 0 where
  -- the words of one entry of the record
  pub entry_words : ℕ
  -- how many entries the record of n tasks and e edges holds
  pub entries : (n e : ℕ) → ℕ
  pub run_words : ℕ
  -- how many steps a run of n tasks and e edges has at most
  pub steps : (n e : ℕ) → ℕ
  -- whether a word for each task is lent, of the worker that it is fixed to
  pub fixes : Bool

pub record Family : Type 1 where
  -- what a slot of a ring holds
  pub Item : Type 0
  -- a worker's row, and its parts
  pub Row : Type 0
  pub hand : Row → Hand Item
  pub with_hand : Hand Item → Row → Row
  pub pointer : Row → ℕ
  pub with_pointer : ℕ → Row → Row
  pub places : Row → Places
  pub with_places : Places → Row → Row
  -- what is read where a list has no such place
  pub no_item : Item
  pub no_row : Row
  pub shape : Shape
