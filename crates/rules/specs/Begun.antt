-- What each lent list holds after an accepted begin, "whatever its lists held outside weights and predecessor tables".
use Rattle.std.specs.Prelude.{ℕ, ◌%◌, ◌<◌, ◌≡◌, cond, List, [], length, get_or, replicate, eqb, pos}
use Rattle.lists.specs.Sums.{sum_of}
use Rattle.task.specs.Types.{idle}
use Rattle.graph.specs.Successors.{succ_starts_of, succ_words, degree_list, roots}
use Rattle.ring.specs.Ring.{slot_at, queue}
unfoldable pub use Rattle.plans.specs.Laying.{dealt, to_ring}
use Rattle.rules.specs.Memory.{Mem, graph_in, ring_number, rings_in, ends_in, counter_in, weight_in}
use Rattle.rules.specs.Sizes.{Lengths}

-- the roots that go to worker i, rising: "root number m, from 0, goes to the ring of owner and filler m mod P"
abbrev pub roots_of : ℕ → ℕ → Mem → List ℕ
roots_of p i m = dealt p i 0 (roots (graph_in m))

-- m before, b after, for P workers and K slots
pub record LaidDown (p k : ℕ) (m b : Mem) : Type 0 where
  -- "Everything is zeroed but weights and the predecessor tables"
  pub weights : b.weights ≡ m.weights
  pub pred_starts : b.pred_starts ≡ m.pred_starts
  pub preds : b.preds ≡ m.preds
  -- "Successors are filled"
  pub succ_starts : b.succ_starts ≡ succ_starts_of (graph_in m)
  pub succs : b.succs ≡ succ_words (graph_in m)
  -- "degrees are numbers of predecessors"
  pub degrees : b.degrees ≡ degree_list (graph_in m)
  -- the ring of owner and filler i holds the roots that go to i
  pub own : (i : ℕ) → i < p → queue 0 k (rings_in b) (ring_number p i i) ≡ roots_of p i m
  -- every other ring is empty
  pub empty : (i j : ℕ) → i < p → j < p → ¬ (i ≡ j) → queue 0 k (rings_in b) (ring_number p i j) ≡ []
  -- "and its weight to that counter"; the other counters are zeroed
  pub own_counter : (i : ℕ) → i < p → counter_in b (ring_number p i i) ≡ pos (sum_of (weight_in m) (roots_of p i m))
  pub other_counter : (i j : ℕ) → i < p → j < p → ¬ (i ≡ j) → counter_in b (ring_number p i j) ≡ pos 0
  -- of the ends all words are zeroed but the tails of rings (i, i), each past its last root, modulo K, and their counts; of the rings all
  -- but the slots that hold the roots
  pub head : (q : ℕ) → ◌≡◌ {A = ℕ} (ends_in b q).head 0
  pub tail : (i j : ℕ) → i < p → j < p → (ends_in b (ring_number p i j)).tail ≡ cond (eqb i j) (length (roots_of p i m) % k) 0
  pub count : (i j : ℕ) → i < p → j < p → (ends_in b (ring_number p i j)).count ≡ cond (eqb i j) (length (roots_of p i m)) 0
  pub slot : (i j x : ℕ) → i < p → j < p → x < k → get_or b.rings (slot_at k (ring_number p i j) x) 0 ≡ cond (eqb i j) (get_or (roots_of p i m) x 0) 0
  pub buffers : b.buffers ≡ replicate (length m.buffers) 0
  pub executed : b.executed ≡ replicate (length m.executed) 0
  pub run : b.run ≡ replicate (length m.run) 0
  -- "held tasks become NIL"
  pub rows : b.rows ≡ replicate (length m.rows) idle
  -- each list keeps its length
  pub lengths : Lengths p k b
