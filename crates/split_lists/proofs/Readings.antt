-- What the state that a memory is read as holds at each place.
use Prim.Native.Nat.{ℕ, ◌+◌, ◌<◌}
use mathlib.Core.Path.{◌≡◌, refl, ◌∙◌, ap}
use mathlib.Core.List.{List, []}
use native.Mathlib.Omega.{arith}
use lib.ListN.{length, get_or, drop, length-drop}
use lib.Seq.{length-take-le, get_or-take, get_or-drop}
use lib.IntN.{ℤ, pos}
use Rattle.lists.proofs.Blocks.{get_d_tabulate}
use Rattle.lists.proofs.SumsZ.{sum_z-same}
use Rattle.lists.proofs.Squares.{cell-square}
use Rattle.task.specs.Entries.{Entry}
use Rattle.choice.specs.Least.{load}
use Rattle.graph.specs.Graph.{part}
use Rattle.memory.specs.Family.{Family}
use Rattle.memory.specs.Memory.{Mem}
use Rattle.plans.specs.Memory.{tasks, edges, ring_number, counter_in, first_succ, succ_count, phase_in}
use Rattle.plans.specs.Moves.{Ranged}
use Rattle.split_lists.specs.Items.{Thread, state_with, successors_of, queue_of, counter_of, workload, fresh, thread_of}
use Rattle.split_lists.specs.Reading.{queue_in, thread_in, successors_in, state_from}

-- states whose seven parts agree
pub state-same : {A : Type 0} {w w' : List ℕ} {s s' : List (List ℕ)} {d d' : List ℕ} {q q' : List (List (List A))} {c c' : List (List ℤ)}
    {t t' : List (Thread A)} {x x' : List (Entry A)}
    → w ≡ w' → s ≡ s' → d ≡ d' → q ≡ q' → c ≡ c' → t ≡ t' → x ≡ x' → state_with w s d q c t x ≡ state_with w' s' d' q' c' t' x'
state-same ew es ed eq ec et ex = rw (ew, es, ed, eq, ec, et, ex) refl

module _ {F : Family} (p k : ℕ) (m : Mem F) (entries : List (Entry F.Item)) where
  pub successors-at : (t : ℕ) → t < tasks m → successors_of (state_from p k m entries) t ≡ successors_in m t
  successors-at t h = get_d_tabulate (tasks m) (successors_in m) [] t h

  pub queue-at : (i j : ℕ) → i < p → j < p → queue_of (state_from p k m entries) i j ≡ queue_in p k m i j
  queue-at i j hi hj = cell-square p (queue_in p k m) [] i j hi hj

  pub counter_at : (i j : ℕ) → i < p → j < p → counter_of (state_from p k m entries) i j ≡ counter_in m (ring_number p i j)
  counter_at i j hi hj = cell-square p (λ x y. counter_in m (ring_number p x y)) (pos 0) i j hi hj

  -- `none` stands for no item
  pub thread-at : (none : F.Item) (i : ℕ) → i < p → thread_of none (state_from p k m entries) i ≡ thread_in m i
  thread-at none i h = get_d_tabulate p (thread_in m) (fresh none) i h

  pub phase-at : (none : F.Item) (i : ℕ) → i < p → (thread_of none (state_from p k m entries) i).phase ≡ phase_in m i
  unfolding thread_in
  phase-at none i h = ap (λ (r : Thread F.Item). r.phase) (thread-at none i h)

  -- the sum of a worker's counters, as the rules read it
  pub workload-at : (i : ℕ) → i < p → workload p (state_from p k m entries) i ≡ load p m.counters i
  unfolding load
  workload-at i h = sum_z-same p (λ j. counter_in m (ring_number p i j)) (counter_of (state_from p k m entries) i) (λ j l. counter_at i j h l)

-- a task's successors: how many there are, and the one at a place
module _ {F : Family} (m : Mem F) (t : ℕ) where
  pub length-successors : length m.succs ≡ edges m → Ranged m t → length (successors_in m t) ≡ succ_count m t
  unfolding part
  length-successors e r = length-take-le (succ_count m t) (drop (first_succ m t) m.succs) (omega (arith, length-drop (first_succ m t) m.succs, e, r.rises, r.inside))

  pub successor-at : (c : ℕ) → c < succ_count m t → get_or (successors_in m t) c 0 ≡ get_or m.succs (first_succ m t + c) 0
  unfolding part
  successor-at c h = get_or-take (succ_count m t) (drop (first_succ m t) m.succs) c 0 h ∙ get_or-drop (first_succ m t) m.succs c 0
