-- "Damaged, for a word the rule reads": the range of each word, as the test that a read passes.
use Rattle.std.specs.Prelude.{ℕ, Bool, true, ◌&&◌, List, [], ◌∷◌, ltb, leb, ℤ, pos, negsuc}
use Rattle.std.specs.Int.Signed.{le_z}
use Rattle.ring.specs.Ring.{sound}
use Rattle.memory.specs.Family.{Family}
use Rattle.memory.specs.Memory.{Mem}
use Rattle.plans.specs.Memory.{tasks, edges, ends_in, weight_in, first_succ, past_succ, succ_count}

-- "phase over 2"
abbrev pub phase_fits : ℕ → Bool
phase_fits word = leb word 2

-- "pointer ≥ P"
abbrev pub pointer_fits : ℕ → ℕ → Bool
pointer_fits p word = ltb word p

-- "counter beyond ±2^30"
abbrev pub counter_fits : ℤ → Bool
counter_fits word = le_z (negsuc 1073741823) word && le_z word (pos 1073741824)

unfoldable pub counters_fit : List ℤ → Bool
counters_fit [] = true
counters_fit (c ∷ cs) = counter_fits c && counters_fit cs

module _ {F : Family} where
  -- "head or tail ≥ K", "A count over K, or head plus count not leading to tail modulo K"
  abbrev pub ends_fit : ℕ → Mem F → ℕ → Bool
  ends_fit k m q = sound k (ends_in m q)

  -- "ring, buffer, held or successor word ≥ N"
  abbrev pub task_fits : Mem F → ℕ → Bool
  task_fits m word = ltb word (tasks m)

  -- "degree to be lowered outside 1..N"
  abbrev pub degree_fits : Mem F → ℕ → Bool
  degree_fits m word = leb 1 word && leb word (tasks m)

  -- "buffer places (where one is read, both are) not read ≤ write ≤ N"
  abbrev pub places_fit : Mem F → ℕ → ℕ → Bool
  places_fit m read write = leb read write && leb write (tasks m)

  -- "or write N where a task must join"
  abbrev pub join_fits : Mem F → ℕ → Bool
  join_fits m write = ltb write (tasks m)

  -- "cursor not below the successor count"
  abbrev pub cursor_fits : Mem F → ℕ → ℕ → Bool
  cursor_fits m t word = ltb word (succ_count m t)

  -- "successor range without start t ≤ start t+1 ≤ E"
  abbrev pub range_fits : Mem F → ℕ → Bool
  range_fits m t = leb (first_succ m t) (past_succ m t) && leb (past_succ m t) (edges m)

  -- "weight over 65,535"
  abbrev pub weight_fits : Mem F → ℕ → Bool
  weight_fits m t = leb (weight_in m t) 65535
