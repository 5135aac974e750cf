-- What a weak run keeps, as definitions: how a state of Algorithm 1 of source document 000 is a state of the system of copies, what such a state is like,
-- and what the lent words that are no part of it are like.
use Prim.Native.Nat.{ℕ, ◌+◌, ◌*◌, ◌≤◌, ◌<◌}
use mathlib.Core.Path.{◌≡◌}
use mathlib.Core.Bool.{cond, not, ◌&&◌}
use mathlib.Core.Logic.{◌⊎◌}
use mathlib.Core.List.{List, [], ◌∷◌, ◌++◌, map}
use lib.Dec.{eqb}
use lib.IntN.{pos}
use lib.ListN.{length, get_or, drop}
use Rattle.lists.specs.Lists.{joined, occ_of}
use Rattle.lists.specs.Sums.{sum_to, sum_of}
use Rattle.task.specs.Types.{nil}
use Rattle.task.specs.Entries.{Entry, entry_of}
use Rattle.task.specs.declared.Limits.{Limits}
use Rattle.graph.specs.Graph.{Graph}
use Rattle.graph.specs.Conditions.{Good, GraphFits}
use Rattle.graph.specs.Successors.{succs_of, roots}
use Rattle.ring.specs.Ring.{Sound}
use Rattle.plans.specs.Sizes.{Fits}
use Rattle.split_lists.specs.Items as items
use Rattle.split_lists.specs.Items.{weight_of, degree_of, successors_of, queue_of, workload}
use Rattle.system.specs.System as system
use Rattle.system.specs.System.{missing}
use Rattle.copies.specs.Copies.{Copy, copy, same_copy, task_copies, copies_of}
use Rattle.copies.specs.Weak.{owed, Weak}
use Rattle.runs.proofs.Invariant.{tasks_of, stages_of, Shaped, Buffered}
use Rattle.weak_rules.specs.Memory.{Mem, tasks, edges, graph_in, ends_in, row_in, roots_word, entries_in, accepted_in}
use Rattle.weak_algorithm.specs.State.{no_item, State, Thread, thread_of, tid_of}
use Rattle.weak_algorithm.specs.Reading.{state_of}

-- the copies that a list of complete tasks makes, one task's after the other's
unfoldable pub copies_from : items.State Copy → List ℕ → List Copy
copies_from s [] = []
copies_from s (t ∷ ts) = map (λ x. copy x t) (successors_of s t) ++ copies_from s ts

-- those that a thread has yet to make
unfoldable pub pending_of : items.State Copy → Thread → List Copy
pending_of s r = drop r.cursor (copies_from s r.buffer)

-- the copies recorded, and those pending of all workers
abbrev pub done_of : State → List Copy
done_of s = tasks_of s.lists.executed

abbrev pub pending_in : State → ℕ → List Copy
pending_in s i = pending_of s.lists (thread_of s i)

-- the system's state, with the number of steps accepted so far: a copy's own degree counts the copies of its predecessor that are still to be
-- recorded, and its release that is still to come
unfoldable pub meaning : Graph → ℕ → ℕ → State → system.State Copy
meaning g p steps s =
    record {
      stages = stages_of no_item p s.lists;
      pending = pending_in s;
      degree = λ c. missing same_copy ((copies_of g).preds c) (done_of s) + sum_to p (λ i. occ_of same_copy c (pending_in s i));
      steps = steps;
      dues = owed g (done_of s);
    }

-- what a run of a graph keeps of the state itself
pub record Sane (g : Graph) (p : ℕ) (s : State) : Type 0 where
  pub shaped : Shaped p s.lists
  pub degrees : length s.lists.degrees ≡ g.tasks
  pub tids : length s.tids ≡ g.tasks
  pub successors : (t : ℕ) → successors_of s.lists t ≡ succs_of g t
  pub buffers : (i : ℕ) → Buffered s.lists (thread_of s i)
  pub phases : (i : ℕ) → (thread_of s i).phase ≤ 2
  pub pointers : (i : ℕ) → i < p → (thread_of s i).pointer < p
  -- a task's degree counts its copies that are still to be recorded
  pub left : (t : ℕ) → t < g.tasks → degree_of s.lists t ≡ missing same_copy (task_copies g t) (done_of s)

-- where there is no entry
abbrev pub none : Entry Copy
none = entry_of no_item 0

-- a task's copies are all its worker's, once the first is made, and before that there is none
pub record Fixed (g : Graph) (p : ℕ) (s : State) : Type 0 where
  pub range : (t : ℕ) → t < g.tasks → (tid_of s t ≡ nil.0) ⊎ (tid_of s t < p)
  pub waiting : (i j : ℕ) (c : Copy) → i < p → j < p → 0 < occ_of same_copy c (queue_of s.lists i j) → tid_of s c.task ≡ i
  pub in_hand : (i : ℕ) → i < p → ¬ (◌≡◌ {A = ℕ} (thread_of s i).phase 0) → tid_of s (thread_of s i).held.task ≡ i
  pub recorded : (x : ℕ) → x < length s.lists.executed
      → tid_of s (get_or s.lists.executed x none).item.task ≡ (get_or s.lists.executed x none).worker
  -- which is one of the P: so no copy of a task with thread ID NIL is recorded
  pub named : (x : ℕ) → x < length s.lists.executed → (get_or s.lists.executed x none).worker < p

-- the tasks fixed to worker i and not complete
unfoldable pub open_in : Graph → State → ℕ → List ℕ
open_in g s i = joined g.tasks (λ t. cond (eqb (tid_of s t) i && not (eqb (degree_of s.lists t) 0)) (t ∷ []) [])

-- "A worker's counters add up to the weight of the tasks fixed to it and not complete."
pub record AddsUp (g : Graph) (p : ℕ) (s : State) : Type 0 where
  pub worker : (i : ℕ) → i < p → workload p s.lists i ≡ pos (sum_of (weight_of s.lists) (open_in g s i))

-- the words that are no part of the state
pub record Words (p k : ℕ) (m : Mem) : Type 0 where
  -- no ring's ends are damaged
  pub ends : (q : ℕ) → q < p * p → Sound k (ends_in m q)
  -- the buffer places are in order, and no more tasks have joined the buffers than are complete
  pub places : (i : ℕ) → i < p → (row_in m i).read ≤ (row_in m i).write
  -- R is begin's, and no more copies are recorded than there are
  pub roots : roots_word m ≡ length (roots (graph_in m))
  pub entries : entries_in m ≤ edges m + roots_word m

-- the system's state that the memory stands for
abbrev pub system_in : ℕ → ℕ → Mem → system.State Copy
system_in p k m = meaning (graph_in m) p (accepted_in m) (state_of p k m)

-- what holds of the memory after every list of a weak run's calls
pub record Honest (limits : Limits) (p k : ℕ) (m : Mem) : Type 0 where
  pub fits : Fits limits p k m
  pub graph : GraphFits limits m.weights m.pred_starts m.preds
  -- the successor table is as begin filled it
  pub good : (u : ℕ) → u < tasks m → Good (tasks m) m.succ_starts m.succs u
  pub words : Words p k m
  pub sane : Sane (graph_in m) p (state_of p k m)
  -- the memory stands for a state that the system of copies reaches by the weak rule
  pub weak : Weak (graph_in m) p (system_in p k m)
  pub fixed : Fixed (graph_in m) p (state_of p k m)
  pub adds_up : AddsUp (graph_in m) p (state_of p k m)
