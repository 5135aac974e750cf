-- What each lent list holds after an accepted begin of a weak job, "whatever its lists held outside weights and predecessor tables".
use Rattle.std.specs.Prelude.{ℕ, ◌%◌, ◌<◌, ◌≡◌, cond, List, [], ◌∷◌, map, length, get_or, replicate, eqb, pos}
use Rattle.lists.specs.Lists.{occ}
use Rattle.lists.specs.Sums.{sum_of}
use Rattle.task.specs.Types.{nil}
use Rattle.graph.specs.Graph.{preds_of}
use Rattle.graph.specs.Successors.{succ_starts_of, succ_words, roots}
use Rattle.ring.specs.Ring.{slot_at, queue}
use Rattle.weak_task.specs.Types.{Copy, copy, idle, unfixed}
use Rattle.plans.specs.Laying.{dealt}
use Rattle.plans.specs.Sizes.{Lengths}
use Rattle.weak_rules.specs.Memory.{Mem, tasks, graph_in, ring_number, rings_in, ends_in, counter_in, weight_in, degree_in, fixed_in}

-- the roots that go to worker i, rising: "root number m, from 0, goes to the ring of owner and filler m mod P"
abbrev pub roots_of : ℕ → ℕ → Mem → List ℕ
roots_of p i m = dealt p i 0 (roots (graph_in m))

-- their copies: "a root has one copy with NIL"
abbrev pub root_copies_of : ℕ → ℕ → Mem → List Copy
root_copies_of p i m = map (λ t. copy t nil.0) (roots_of p i m)

-- m before, b after, for P workers and K slots
pub record LaidDown (p k : ℕ) (m b : Mem) : Type 0 where
  -- "Everything is zeroed but weights and the predecessor tables"
  pub weights : b.weights ≡ m.weights
  pub pred_starts : b.pred_starts ≡ m.pred_starts
  pub preds : b.preds ≡ m.preds
  -- "Successors are filled"
  pub succ_starts : b.succ_starts ≡ succ_starts_of (graph_in m)
  pub succs : b.succs ≡ succ_words (graph_in m)
  -- "degrees are numbers of predecessors", "a root being begun with degree 1"
  pub degree : (t : ℕ) → t < tasks m → 0 < length (preds_of (graph_in m) t) → degree_in b t ≡ length (preds_of (graph_in m) t)
  pub root_degree : (t : ℕ) → t < tasks m → ◌≡◌ {A = ℕ} (length (preds_of (graph_in m) t)) 0 → ◌≡◌ {A = ℕ} (degree_in b t) 1
  -- a root is fixed to the worker that it goes to, every other task to none: "65,535 before"
  pub fixed_root : (i t : ℕ) → i < p → 0 < occ t (roots_of p i m) → fixed_in b t ≡ i
  pub fixed_none : (t : ℕ) → t < tasks m → 0 < length (preds_of (graph_in m) t) → fixed_in b t ≡ unfixed.0
  -- the ring of owner and filler i holds the copies of the roots that go to i
  pub own : (i : ℕ) → i < p → queue (copy 0 0) k (rings_in b) (ring_number p i i) ≡ root_copies_of p i m
  -- every other ring is empty
  pub empty : (i j : ℕ) → i < p → j < p → ¬ (i ≡ j) → queue (copy 0 0) k (rings_in b) (ring_number p i j) ≡ []
  -- "and its weight to that counter"; the other counters are zeroed
  pub own_counter : (i : ℕ) → i < p → counter_in b (ring_number p i i) ≡ pos (sum_of (weight_in m) (roots_of p i m))
  pub other_counter : (i j : ℕ) → i < p → j < p → ¬ (i ≡ j) → counter_in b (ring_number p i j) ≡ pos 0
  -- of the ends all words are zeroed but the tails of rings (i, i), each past its last root, modulo K, and their counts; of the rings all
  -- but the slots that hold the roots' copies
  pub head : (q : ℕ) → ◌≡◌ {A = ℕ} (ends_in b q).head 0
  pub tail : (i j : ℕ) → i < p → j < p → (ends_in b (ring_number p i j)).tail ≡ cond (eqb i j) (length (roots_of p i m) % k) 0
  pub count : (i j : ℕ) → i < p → j < p → (ends_in b (ring_number p i j)).count ≡ cond (eqb i j) (length (roots_of p i m)) 0
  pub slot : (i j x : ℕ) → i < p → j < p → x < k
      → get_or b.rings (slot_at k (ring_number p i j) x) (copy 0 0) ≡ cond (eqb i j) (get_or (root_copies_of p i m) x (copy 0 0)) (copy 0 0)
  pub buffers : b.buffers ≡ replicate (length m.buffers) 0
  pub executed : b.executed ≡ replicate (length m.executed) 0
  -- "A third run word .. keeps R"
  pub run : b.run ≡ 0 ∷ 0 ∷ length (roots (graph_in m)) ∷ []
  -- "an empty hand NIL twice"
  pub rows : b.rows ≡ replicate (length m.rows) idle
  -- each list keeps its length
  pub lengths : Lengths p k b
