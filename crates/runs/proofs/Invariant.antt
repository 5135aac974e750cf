-- What a run keeps, as definitions: how a state of Algorithm 1 is a state of the system of runs, what such a state is like, and what
-- the lent words that are no part of it are like. Of the promises only `buffered-anyway` cites them.
use Prim.Native.Nat.{ℕ, ◌*◌, ◌≤◌, ◌<◌}
use mathlib.Core.Path.{◌≡◌}
use mathlib.Core.List.{List, [], ◌∷◌, ◌++◌}
use native.Mathlib.Decide.{dec_lt}
use lib.ListN.{length, drop}
use Rattle.lists.specs.Decided.{tally}
use Rattle.lists.specs.Lists.{occ}
use Rattle.lists.specs.Sums.{sum_to, sum_of}
use Rattle.lists.proofs.Blocks.{length-tabulate}
use Rattle.lists.proofs.Squares.{Even, square-even}
use Rattle.task.specs.Types.{nil}
use Rattle.task.specs.Entries.{Entry}
use Rattle.graph.specs.Graph.{Graph, preds_of}
use Rattle.graph.specs.Successors.{succs_of}
use Rattle.ring.specs.Ring.{Sound}
use Rattle.memory.specs.Family.{Family}
use Rattle.memory.specs.Memory as memory
use Rattle.plans.specs.Memory.{ring_number, counter_in}
use Rattle.rules.specs.Memory.{Mem, tasks, ends_in, row_in, entries_in}
use Rattle.split_lists.specs.Reading.{queue_in, thread_in, state_from}
use Rattle.algorithm1.specs.Items as items
use Rattle.algorithm1.specs.State.{State, degree_of, successors_of, waiting_for, thread_of}
use Rattle.algorithm1.specs.Reading.{record_in, state_of}
use Rattle.system.specs.Stages.{Stages}
use Rattle.system.specs.System as system
use Rattle.runs.specs.Items.{hand_of}

-- a job's items are its tasks
abbrev pub items_of : Graph → system.Items ℕ
items_of g = record { want = λ t. tally (dec_lt t g.tasks); preds = preds_of g; succs = succs_of g }

-- the successors of a list of tasks, one task's after the other's; the state's items are of any type
unfoldable pub followers : {A : Type 0} → items.State A → List ℕ → List ℕ
followers s [] = []
followers s (t ∷ ts) = successors_of s t ++ followers s ts

-- those that a thread has yet to release
unfoldable pub pending_of : {A : Type 0} → items.State A → items.Thread A → List ℕ
pending_of s r = drop r.cursor (followers s r.buffer)

-- the items of a record
unfoldable pub tasks_of : {A : Type 0} → List (Entry A) → List A
tasks_of [] = []
tasks_of (e ∷ es) = e.item ∷ tasks_of es

-- where the items stand
abbrev pub stages_of : {A : Type 0} → A → ℕ → items.State A → Stages A
stages_of none p s = record { waiting = waiting_for p s; hand = λ i. hand_of (items.thread_of none s i); done = tasks_of s.executed }

-- of a plain job, with the number of steps accepted so far; all successors of a recorded task have fallen due
unfoldable pub meaning : ℕ → ℕ → State → system.State ℕ
meaning p steps s =
    record {
      stages = stages_of nil.0 p s;
      pending = λ i. pending_of s (thread_of s i);
      degree = degree_of s;
      steps = steps;
      dues = sum_of (λ t. length (successors_of s t)) (tasks_of s.executed);
    }

-- P rows of P places, P threads
pub record Shaped {A : Type 0} (p : ℕ) (s : items.State A) : Type 0 where
  pub queues : Even p s.queues
  pub counters : Even p s.counters
  pub threads : length s.threads ≡ p

-- the state of any memory is shaped
pub from-shaped : {F : Family} (p k : ℕ) (m : memory.Mem F) (entries : List (Entry F.Item)) → Shaped p (state_from p k m entries)
from-shaped p k m entries =
    record {
      queues = square-even p (queue_in p k m);
      counters = square-even p (λ i j. counter_in m (ring_number p i j));
      threads = length-tabulate p (thread_in m);
    }

pub state-shaped : (p k : ℕ) (m : Mem) → Shaped p (state_of p k m)
unfolding state_of
state-shaped p k m = from-shaped p k m (record_in m)

-- a buffer in a run: each task there has successors, and the cursor is at one of the oldest task's
pub record Buffered {A : Type 0} (s : items.State A) (r : items.Thread A) : Type 0 where
  pub each : (t : ℕ) → 0 < occ t r.buffer → 0 < length (successors_of s t)
  pub cursor : (t : ℕ) (rest : List ℕ) → r.buffer ≡ t ∷ rest → r.cursor < length (successors_of s t)
  pub none : r.buffer ≡ [] → ◌≡◌ {A = ℕ} r.cursor 0

-- what a run of a graph keeps of the state itself
pub record Sane (g : Graph) (p : ℕ) (s : State) : Type 0 where
  pub shaped : Shaped p s
  pub degrees : length s.degrees ≡ g.tasks
  pub successors : (t : ℕ) → successors_of s t ≡ succs_of g t
  pub buffers : (i : ℕ) → Buffered s (thread_of s i)
  pub phases : (i : ℕ) → (thread_of s i).phase ≤ 2
  pub pointers : (i : ℕ) → i < p → (thread_of s i).pointer < p

-- the words that are no part of the state
pub record Words (p k : ℕ) (m : Mem) : Type 0 where
  -- no ring's ends are damaged
  pub ends : (q : ℕ) → q < p * p → Sound k (ends_in m q)
  -- the buffer places are in order, and no more tasks have joined the buffers than are recorded
  pub places : (i : ℕ) → i < p → (row_in m i).read ≤ (row_in m i).write
  pub filled : sum_to p (λ i. (row_in m i).write) ≤ entries_in m
  pub entries : entries_in m ≤ tasks m
