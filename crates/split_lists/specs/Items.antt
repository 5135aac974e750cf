-- The state of Algorithm 1 of source document 001, with the split lists and counters of its section 5.1, over the items that wait in its lists, are
-- held and recorded. They are of any type A, and nothing here looks inside one. What the paper keeps of each task, and a thread's buffer of
-- completed tasks, goes by the task's number. A plain job's items are its tasks, a weak job's are copies of tasks.
use Rattle.std.specs.Prelude.{ℕ, List, [], get_or, ℤ, pos}
use Rattle.lists.specs.Lists.{joined}
use Rattle.lists.specs.Squares.{cell}
use Rattle.lists.specs.Sums.{sum_to_z}
use Rattle.task.specs.Entries.{Entry}

-- what a thread keeps for itself
pub record Thread (A : Type 0) : Type 0 where
  -- its "Completed Task ID buffer", the oldest task first, and how many successors of that one line 6 has passed
  pub buffer : List ℕ
  pub cursor : ℕ
  -- document 01's phase, and the item T' of lines 15 to 17
  pub phase : ℕ
  pub held : A
  -- the circular list at which it looks first when it fetches "in a round robin fashion"
  pub pointer : ℕ

abbrev pub thread_with : {A : Type 0} → List ℕ → ℕ → ℕ → A → ℕ → Thread A
thread_with buffer cursor phase held pointer = record { buffer = buffer; cursor = cursor; phase = phase; held = held; pointer = pointer }

pub record State (A : Type 0) : Type 0 where
  -- the "global task list": of each task "dependency degree, task weight, successors"
  pub weights : List ℕ
  pub successors : List (List ℕ)
  pub degrees : List ℕ
  -- LL_i "consists of P circular lists": in row i, at place j, the list Q_i^j that Thread j fills
  pub queues : List (List (List A))
  -- "P weight counters in Thread i": in row i, at place j, W_i^j
  pub counters : List (List ℤ)
  pub threads : List (Thread A)
  -- the items executed and by whom, in order: document 01's record
  pub executed : List (Entry A)

abbrev pub state_with : {A : Type 0} → List ℕ → List (List ℕ) → List ℕ → List (List (List A)) → List (List ℤ) → List (Thread A) → List (Entry A)
    → State A
state_with w s d q c t x = record { weights = w; successors = s; degrees = d; queues = q; counters = c; threads = t; executed = x }

-- w_T, d_T, and the successors of T
abbrev pub weight_of : {A : Type 0} → State A → ℕ → ℕ
weight_of s t = get_or s.weights t 0

abbrev pub degree_of : {A : Type 0} → State A → ℕ → ℕ
degree_of s t = get_or s.degrees t 0

abbrev pub successors_of : {A : Type 0} → State A → ℕ → List ℕ
successors_of s t = get_or s.successors t []

-- Q_i^j and W_i^j
abbrev pub queue_of : {A : Type 0} → State A → ℕ → ℕ → List A
queue_of s i j = cell [] s.queues i j

abbrev pub counter_of : {A : Type 0} → State A → ℕ → ℕ → ℤ
counter_of s i j = cell (pos 0) s.counters i j

-- LL_i, the items that wait for Thread i: those of Q_i^0 .. Q_i^(P−1)
unfoldable pub waiting_for : {A : Type 0} → ℕ → State A → ℕ → List A
waiting_for p s i = joined p (queue_of s i)

-- "W_i is given by W_i = Σ_{j=0}^{P−1} W_i^j"
abbrev pub workload : {A : Type 0} → ℕ → State A → ℕ → ℤ
workload p s i = sum_to_z p (counter_of s i)

-- a thread as begin leaves it; `none` stands for no item
abbrev pub fresh : {A : Type 0} → A → Thread A
fresh none = thread_with [] 0 0 none 0

abbrev pub thread_of : {A : Type 0} → A → State A → ℕ → Thread A
thread_of none s i = get_or s.threads i (fresh none)
