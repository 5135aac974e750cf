-- Algorithm 1 of source document 000, "An Implementation of Weak Dependency Based Scheduling", on the split lists and counters of source document 001:
-- one step of one thread at a time, from state s to state s' with outcome o; P threads, Thread i. Line numbers are the algorithm's, 1 to 31. Its slips
-- and open points are settled by document 02's No. 6, whose sentences stand beside the definitions:
-- lines 1 to 3 are begin's, a root being fixed there; lines 7 to 12 stand at Complete ("A copy's Complete alone lowers the degree"; "Weight .. leaves
-- when the last copy completes"), where line 13 ends; each thread allocates from its own buffer, not thread 0 alone (line 14); the least counter is
-- taken over workers 0 to P−1 (line 19), and a first copy whose target's list is full goes on round robin, as in document 01; a list holds `capacity`
-- copies. That a task leaves GL (line 9) shows in its degree alone.
use Rattle.std.specs.Prelude.{ℕ, ◌-◌, ◌≤◌, ◌<◌, ◌≡◌, List, [], ◌∷◌, ◌++◌, ℤ, length, get_or, set}
use Rattle.task.specs.Types.{nil}
use Rattle.task.specs.declared.Step.{Step}
use Rattle.task.specs.declared.Step.TheVariants.{Fetch, Start, Complete, Release}
use Rattle.weak_task.specs.Types.{Copy, copy, task_copy}
use Rattle.weak_task.specs.declared.WeakOutcome.{WeakOutcome}
use Rattle.weak_task.specs.declared.WeakOutcome.TheVariants.{Moved, Fetched, Placed}
use Rattle.choice.specs.Least.{Least}
use Rattle.split_lists.specs.Items as items
use Rattle.split_lists.specs.Items.{thread_with, degree_of, successors_of, queue_of, workload}
use Rattle.split_lists.specs.Moves.{First, with_thread, with_degree, with_queue, add_weight, take_weight, holding, executing, buffered, with_entry, passed}
use Rattle.weak_algorithm.specs.State.{Thread, no_item, State, state_of, thread_of, tid_of}

-- the state with other lists; the thread IDs stay
abbrev pub with_lists : items.State Copy → State → State
with_lists l s = state_of l s.tids

-- {Fetch module}
pub record Fetches (p i : ℕ) (s s' : State) (o : WeakOutcome) : Type 0 where
  -- "Fetch 0→1"
  pub phase : ◌≡◌ {A = ℕ} (thread_of s i).phase 0
  -- "from the ring pointer upward, modulo P; the scan stops at the first ring that isn't empty"
  pub list : ℕ
  pub first : First p (λ j. ¬ (queue_of s.lists i j ≡ [])) (thread_of s i).pointer list
  -- line 6: "fetch a task-copy T_i^p from the head of LL_t"
  pub item : Copy
  pub rest : List Copy
  pub head : queue_of s.lists i list ≡ item ∷ rest
  pub after : s' ≡ with_lists (with_thread i (holding p list item (thread_of s i)) (with_queue i list rest s.lists)) s
  pub outcome : o ≡ Fetched (task_copy item)

-- {Execute module}: document 01's Start and Complete are the two ends of line 13, "execute T_i^p"
pub record Starts (i : ℕ) (s s' : State) (o : WeakOutcome) : Type 0 where
  -- "Start 1→2"
  pub phase : ◌≡◌ {A = ℕ} (thread_of s i).phase 1
  pub after : s' ≡ with_lists (with_thread i (executing (thread_of s i)) s.lists) s
  pub outcome : o ≡ Moved

-- the thread that lets its copy go, with this buffer
abbrev pub letting_go : List ℕ → Thread → Thread
letting_go buffer r = thread_with buffer r.cursor 0 no_item r.pointer

-- what every Complete does: line 7, "d_{T_i} = d_{T_i} − 1", and the copy joins the record
abbrev pub executed : ℕ → State → items.State Copy
executed i s =
    with_entry (thread_of s i).held i
    (with_degree (thread_of s i).held.task (degree_of s.lists (thread_of s i).held.task - 1) s.lists)

-- line 8: "if d_{T_i} = 0", and it isn't
pub record CompletesCopy (i : ℕ) (s s' : State) (o : WeakOutcome) : Type 0 where
  -- "Complete 2→0"
  pub phase : ◌≡◌ {A = ℕ} (thread_of s i).phase 2
  pub waits : 1 ≤ degree_of s.lists (thread_of s i).held.task
  pub some : ¬ (◌≡◌ {A = ℕ} (degree_of s.lists (thread_of s i).held.task - 1) 0)
  pub after : s' ≡ with_lists (with_thread i (letting_go (thread_of s i).buffer (thread_of s i)) (executed i s)) s
  pub outcome : o ≡ Moved

-- line 8: "if d_{T_i} = 0": line 10, "add the ID of T_i to the Completed Task ID buffer" of Thread i, "if it has successors" (document 01), and line 11,
-- "W_t = W_t − w_{T_i}", from W_i^i
pub record CompletesTask (i : ℕ) (s s' : State) (o : WeakOutcome) : Type 0 where
  pub phase : ◌≡◌ {A = ℕ} (thread_of s i).phase 2
  pub waits : 1 ≤ degree_of s.lists (thread_of s i).held.task
  pub zero : ◌≡◌ {A = ℕ} (degree_of s.lists (thread_of s i).held.task - 1) 0
  pub after : s'
      ≡ with_lists
      (with_thread i
      (letting_go (buffered (successors_of s.lists (thread_of s i).held.task) (thread_of s i).held.task (thread_of s i).buffer) (thread_of s i))
      (take_weight i i (thread_of s i).held.task (executed i s)))
      s
  pub outcome : o ≡ Moved

pub data Completes (i : ℕ) (s s' : State) (o : WeakOutcome) : Type 0 where
  copies : CompletesCopy i s s' o → Completes i s s' o
  completes : CompletesTask i s s' o → Completes i s s' o

-- {Allocate module}, of Thread i's own buffer
-- lines 15 and 16: "for all T_i ∈ Completed Task ID buffer do", "for all T_s ∈ {successors of T_i} do": T_s is the successor at the cursor of the oldest task
-- in i's buffer, and the thread goes on; after the last successor the task leaves the buffer, its share of line 28
pub record Passes (i : ℕ) (s : State) (T oldest : ℕ) (r : Thread) : Type 0 where
  -- "Release 0→0"
  pub phase : ◌≡◌ {A = ℕ} (thread_of s i).phase 0
  pub rest : List ℕ
  pub buffer : (thread_of s i).buffer ≡ oldest ∷ rest
  pub inside : (thread_of s i).cursor < length (successors_of s.lists oldest)
  pub successor : T ≡ get_or (successors_of s.lists oldest) (thread_of s i).cursor 0
  pub thread : r ≡ passed (length (successors_of s.lists oldest)) rest (thread_of s i)

-- line 18: "if tid_{T_s} = NIL". Who may be chosen (`Candidate`) and the loads W that the choice goes by are those of the form of Release
pub record AllocatesFirst (Candidate : ℕ → Type 0) (W : ℕ → ℤ) (p capacity i : ℕ) (s s' : State) (o : WeakOutcome) : Type 0 where
  pub task : ℕ
  pub oldest : ℕ
  pub next : Thread
  pub pass : Passes i s task oldest next
  pub unfixed : tid_of s task ≡ nil.0
  -- line 19: "j = arg min (W_t)"; "both take the least counter over 1..P, here it is workers 0..P−1", "the lowest number on equal sums"
  pub target : ℕ
  pub least : Least Candidate W target
  -- line 20: "append T_s^i to LL_j": "picks its ring as in document 01", "the first ring filled by i that isn't full, owners taken j, j+1, … modulo P"
  pub owner : ℕ
  pub room : First p (λ h. Candidate h × (length (queue_of s.lists h i) < capacity)) target owner
  -- line 17: "create a task-copy T_s^i of T_s"; line 21: "let tid_{T_s} = j", of the list really used; line 22: "W_j = W_j + w_{T_s}"
  pub after : s'
      ≡ state_of
      (add_weight owner i task
      (with_queue owner i (queue_of s.lists owner i ++ (copy task oldest ∷ [])) (with_thread i next s.lists)))
      (set s.tids task owner)
  pub outcome : o ≡ Placed (task_copy (copy task oldest)) (record { 0 = owner })

-- line 23: "else": line 24, "append T_s^i to LL_{tid_{T_s}}"
pub record AllocatesLater (p capacity i : ℕ) (s s' : State) (o : WeakOutcome) : Type 0 where
  pub task : ℕ
  pub oldest : ℕ
  pub next : Thread
  pub pass : Passes i s task oldest next
  pub owner : ℕ
  pub fixed : tid_of s task ≡ owner
  pub worker : owner < p
  -- "later copies go only to that worker's ring, and 11 is given exactly if that ring is full"
  pub room : length (queue_of s.lists owner i) < capacity
  pub after : s'
      ≡ with_lists (with_queue owner i (queue_of s.lists owner i ++ (copy task oldest ∷ [])) (with_thread i next s.lists)) s
  pub outcome : o ≡ Placed (task_copy (copy task oldest)) (record { 0 = owner })

-- one pass of lines 16 to 26
pub data Releases (Candidate : ℕ → Type 0) (W : ℕ → ℤ) (p capacity i : ℕ) (s s' : State) (o : WeakOutcome) : Type 0 where
  first : AllocatesFirst Candidate W p capacity i s s' o → Releases Candidate W p capacity i s s' o
  later : AllocatesLater p capacity i s s' o → Releases Candidate W p capacity i s s' o

-- the lines of each step: a Release's candidates are all P threads, its loads their workloads
abbrev pub Lines : ℕ → ℕ → ℕ → Step → State → State → WeakOutcome → Type 0
Lines p capacity i Fetch s s' o = Fetches p i s s' o
Lines p capacity i Start s s' o = Starts i s s' o
Lines p capacity i Complete s s' o = Completes i s s' o
Lines p capacity i Release s s' o = Releases (λ h. h < p) (workload p s.lists) p capacity i s s' o

-- Algorithm 1's step of Thread i from s to s', with lists that hold `capacity` copies
pub record Does (p capacity i : ℕ) (step : Step) (s s' : State) (o : WeakOutcome) : Type 0 where
  pub thread : i < p
  -- no thread's number is NIL
  pub few : p ≤ nil.0
  pub lines : Lines p capacity i step s s' o
