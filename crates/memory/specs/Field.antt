-- The lent lists by name, in the paper's order, and what stands at a place of each.
use Rattle.std.specs.Prelude.{ℕ}

-- what a place of a list holds: a word, a signed word, an item, a ring's ends, an entry of the record, a worker's row
pub data Sort : Type 0 where
  word signed item ring_ends entry row : Sort

pub data Field : Type 0 where
  weights pred_starts preds succ_starts succs degrees fixed rings ends counters buffers executed run rows : Field

abbrev pub sort_of : Field → Sort
sort_of weights = word
sort_of pred_starts = word
sort_of preds = word
sort_of succ_starts = word
sort_of succs = word
sort_of degrees = word
sort_of fixed = word
sort_of rings = item
sort_of ends = ring_ends
sort_of counters = signed
sort_of buffers = word
sort_of executed = entry
sort_of run = word
sort_of rows = row

-- its number among them
abbrev pub number : Field → ℕ
number weights = 0
number pred_starts = 1
number preds = 2
number succ_starts = 3
number succs = 4
number degrees = 5
number fixed = 6
number rings = 7
number ends = 8
number counters = 9
number buffers = 10
number executed = 11
number run = 12
number rows = 13
