-- Algorithm 1 of source document 001, "A Sample Implementation of Collaborative Scheduling", on the split lists and counters of its section 5.1: one step
-- of one thread at a time, from state s to state s' with outcome o; P threads, Thread i. Line numbers are the algorithm's, 1 to 19 (some prints of
-- the paper count on from 91). Its open points are as document 01 settles them, whose sentences stand beside the definitions; line 16 stands at
-- Complete, as document 02's No. 3 has it, and a list is full with `capacity` tasks, not where the slot after its tail is its head (No. 5). What the
-- paper leaves to a choice, which list and which thread, is stated by the property of what is chosen.
-- Lines without a counterpart here: 1 and 2 are begin's; 3, 4, 18 and 19 run the threads, and 5 and 14 say when a thread releases: "the host serialises its
-- machines" and chooses, since Release and Fetch both suit phase 0, and "the threshold on the completed buffer" is left out. That a ready task leaves the global task list
-- (line 9) shows in its degree alone: document 01's tables stay.
use Rattle.std.specs.Prelude.{ℕ, ◌-◌, ◌≤◌, ◌<◌, ◌≡◌, List, [], ◌∷◌, ◌++◌, length, get_or, ℤ}
use Rattle.task.specs.Types.{nil}
use Rattle.task.specs.declared.Step.{Step}
use Rattle.task.specs.declared.Step.TheVariants.{Fetch, Start, Complete, Release}
use Rattle.task.specs.declared.StepOutcome.{StepOutcome}
use Rattle.task.specs.declared.StepOutcome.TheVariants.{Moved, Fetched, Released}
use Rattle.task.specs.declared.ReleaseOutcome.TheVariants.{DegreeLeft, Placed}
use Rattle.choice.specs.Least.{Least}
pub use Rattle.split_lists.specs.Moves.{First, with_thread, with_queue, add_weight, take_weight, holding, executing, buffered, with_entry, passed, lowered}
use Rattle.algorithm1.specs.State.{Thread, thread_with, State, degree_of, successors_of, queue_of, workload, thread_of}

-- {Fetch module}
pub record Fetches (p i : ℕ) (s s' : State) (o : StepOutcome) : Type 0 where
  -- "Fetch 0→1"
  pub phase : ◌≡◌ {A = ℕ} (thread_of s i).phase 0
  -- "we let Thread i fetch tasks from the circular lists in LL_i in a round robin fashion"; "from the ring pointer upward, modulo P; the scan stops
  -- at the first ring that isn't empty"
  pub list : ℕ
  pub first : First p (λ j. ¬ (queue_of s i j ≡ [])) (thread_of s i).pointer list
  -- line 15: "fetch a task T′ from the head of LL_i"
  pub task : ℕ
  pub rest : List ℕ
  pub head : queue_of s i list ≡ task ∷ rest
  -- line 16 stands at Complete: "Algorithm 1 is compared with its subtraction moved there" (document 02, No. 3)
  pub after : s' ≡ with_thread i (holding p list task (thread_of s i)) (with_queue i list rest s)
  pub outcome : o ≡ Fetched (record { 0 = task })

-- {Execute module}: document 01's Start and Complete are the two ends of line 17, "execute T′"; Complete has line 16 too. Start moves "the phase
-- alone".
pub record Starts (i : ℕ) (s s' : State) (o : StepOutcome) : Type 0 where
  -- "Start 1→2"
  pub phase : ◌≡◌ {A = ℕ} (thread_of s i).phase 1
  pub after : s' ≡ with_thread i (executing (thread_of s i)) s
  pub outcome : o ≡ Moved

-- line 17: "place the task ID of T′ into the Completed Task ID buffer of Thread i"; "held becomes NIL"
abbrev pub completed : List ℕ → Thread → Thread
completed successors r = thread_with (buffered successors r.held r.buffer) r.cursor 0 nil.0 r.pointer

pub record Completes (i : ℕ) (s s' : State) (o : StepOutcome) : Type 0 where
  -- "Complete 2→0"
  pub phase : ◌≡◌ {A = ℕ} (thread_of s i).phase 2
  -- line 16: "W_i = W_i − w_T′", moved here from Fetch: "From now on the weight leaves counter (i, i) at Complete." It is still Thread i that updates
  -- W_i^i, whichever circular list the task came from
  pub after : s'
      ≡ with_thread i (completed (successors_of s (thread_of s i).held) (thread_of s i))
      (take_weight i i (thread_of s i).held (with_entry (thread_of s i).held i s))
  pub outcome : o ≡ Moved

-- {Completed Task ID buffer & Allocate module}
-- line 6: "for all T ∈ {successors of tasks in the Completed Task ID buffer of Thread i}": T is "the oldest task in i's buffer, its successor s at the
-- cursor", and its degree can be lowered ("degree to be lowered outside 1..N" is damaged)
pub record Passes (i : ℕ) (s : State) (T : ℕ) (r : Thread) : Type 0 where
  -- "Release 0→0"
  pub phase : ◌≡◌ {A = ℕ} (thread_of s i).phase 0
  pub oldest : ℕ
  pub rest : List ℕ
  pub buffer : (thread_of s i).buffer ≡ oldest ∷ rest
  pub inside : (thread_of s i).cursor < length (successors_of s oldest)
  pub successor : T ≡ get_or (successors_of s oldest) (thread_of s i).cursor 0
  pub waits : 1 ≤ degree_of s T
  pub thread : r ≡ passed (length (successors_of s oldest)) rest (thread_of s i)

-- line 8: "if d_T = 0", and it isn't
pub record Lowers (i : ℕ) (s s' : State) (o : StepOutcome) : Type 0 where
  pub task : ℕ
  pub next : Thread
  pub pass : Passes i s task next
  pub some : ¬ (◌≡◌ {A = ℕ} (degree_of s task - 1) 0)
  pub after : s' ≡ lowered i task next s
  pub outcome : o ≡ Released (DegreeLeft (degree_of s task - 1))

-- line 8: "if d_T = 0". Who may be chosen (`Candidate`) and the loads W that the choice goes by are those of the form of Release
pub record Allocates (Candidate : ℕ → Type 0) (W : ℕ → ℤ) (p capacity i : ℕ) (s s' : State) (o : StepOutcome) : Type 0 where
  pub task : ℕ
  pub next : Thread
  pub pass : Passes i s task next
  pub zero : ◌≡◌ {A = ℕ} (degree_of s task - 1) 0
  -- line 9: "fetch T from GL and append it to LL_j where j = arg min_{t=1…P} (W_t)"; "both take the least counter over 1..P, here it is workers
  -- 0..P−1", "the lowest number on equal sums"
  pub target : ℕ
  pub least : Least Candidate W target
  -- Thread i fills Q_j^i; "If Q_i^j is full, Thread j inserts tasks into Q_k^j, 0 ≤ k < P and k ≠ i, in a round robin fashion" (i and j change roles there); "s is
  -- appended to the first ring filled by i that isn't full, owners taken j, j+1, … modulo P"
  pub owner : ℕ
  pub room : First p (λ h. Candidate h × (length (queue_of s h i) < capacity)) target owner
  -- line 10: "W_j = W_j + w_T": "Thread i updates W_j^i = W_j^i + w_T", and "The weight joins the counter of the ring really used."
  pub after : s' ≡ add_weight owner i task (with_queue owner i (queue_of s owner i ++ (task ∷ [])) (lowered i task next s))
  pub outcome : o ≡ Released (Placed (record { 0 = task }) (record { 0 = owner }))

-- one pass of lines 6 to 12
pub data Releases (Candidate : ℕ → Type 0) (W : ℕ → ℤ) (p capacity i : ℕ) (s s' : State) (o : StepOutcome) : Type 0 where
  lowers : Lowers i s s' o → Releases Candidate W p capacity i s s' o
  allocates : Allocates Candidate W p capacity i s s' o → Releases Candidate W p capacity i s s' o

-- the lines of each step: a Release's candidates are all P threads, its loads their workloads
abbrev pub Lines : ℕ → ℕ → ℕ → Step → State → State → StepOutcome → Type 0
Lines p capacity i Fetch s s' o = Fetches p i s s' o
Lines p capacity i Start s s' o = Starts i s s' o
Lines p capacity i Complete s s' o = Completes i s s' o
Lines p capacity i Release s s' o = Releases (λ h. h < p) (workload p s) p capacity i s s' o

-- Algorithm 1's step of Thread i from s to s', with circular lists that hold `capacity` tasks
pub record Does (p capacity i : ℕ) (step : Step) (s s' : State) (o : StepOutcome) : Type 0 where
  pub thread : i < p
  pub lines : Lines p capacity i step s s' o
