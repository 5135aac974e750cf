-- What the steps of Algorithm 1 make of a state, over items of any type: the state with another part, and the thread after a Fetch, a Start, a Complete and a
-- Release. Line numbers are those of the algorithm of source document 001.
use Rattle.std.specs.Prelude.{ℕ, ◌+◌, ◌-◌, ◌%◌, ◌<◌, ◌≡◌, cond, List, [], ◌∷◌, ◌++◌, set, eqb, pos, ◌+ℤ◌, ◌-ℤ◌}
use Rattle.lists.specs.Squares.{with_cell}
use Rattle.task.specs.Entries.{entry_of}
use Rattle.split_lists.specs.Items.{Thread, thread_with, State, state_with, weight_of, degree_of, counter_of}

-- "in a round robin fashion": of the numbers below P, from `start` upward, modulo P, x is the first that is as `Is` says
pub record First (p : ℕ) (Is : ℕ → Type 0) (start x : ℕ) : Type 0 where
  pub distance : ℕ
  pub inside : distance < p
  pub there : x ≡ (start + distance) % p
  pub is : Is x
  pub before : (d : ℕ) → d < distance → ¬ (Is ((start + d) % p))

-- the state with another thread, degree, circular list or counter; its items are of any type
abbrev pub with_thread : {A : Type 0} → ℕ → Thread A → State A → State A
with_thread i t s = state_with s.weights s.successors s.degrees s.queues s.counters (set s.threads i t) s.executed

abbrev pub with_degree : {A : Type 0} → ℕ → ℕ → State A → State A
with_degree t d s = state_with s.weights s.successors (set s.degrees t d) s.queues s.counters s.threads s.executed

abbrev pub with_queue : {A : Type 0} → ℕ → ℕ → List A → State A → State A
with_queue i j l s = state_with s.weights s.successors s.degrees (with_cell s.queues i j l) s.counters s.threads s.executed

-- W_i^j = W_i^j + w_T
abbrev pub add_weight : {A : Type 0} → ℕ → ℕ → ℕ → State A → State A
add_weight i j t s =
    state_with s.weights s.successors s.degrees s.queues (with_cell s.counters i j (counter_of s i j +ℤ pos (weight_of s t))) s.threads s.executed

-- W_i^j = W_i^j − w_T
abbrev pub take_weight : {A : Type 0} → ℕ → ℕ → ℕ → State A → State A
take_weight i j t s =
    state_with s.weights s.successors s.degrees s.queues (with_cell s.counters i j (counter_of s i j -ℤ pos (weight_of s t))) s.threads s.executed

-- the thread with task T' in hand, once it has been fetched from list j: "The pointer becomes the ring after, modulo P."
abbrev pub holding : {A : Type 0} → ℕ → ℕ → A → Thread A → Thread A
holding p j t r = thread_with r.buffer r.cursor 1 t ((j + 1) % p)

-- the thread that executes what it holds: "the phase alone"
abbrev pub executing : {A : Type 0} → Thread A → Thread A
executing r = thread_with r.buffer r.cursor 2 r.held r.pointer

-- Line 17 places every task into the buffer; document 01 decides: "the task joins i's completed buffer if it has successors". What is still to be
-- released is the same.
abbrev pub buffered : List ℕ → ℕ → List ℕ → List ℕ
buffered [] t buffer = buffer
buffered (x ∷ xs) t buffer = buffer ++ (t ∷ [])

-- "(task, i) joins the record"
abbrev pub with_entry : {A : Type 0} → A → ℕ → State A → State A
with_entry t i s = state_with s.weights s.successors s.degrees s.queues s.counters s.threads (s.executed ++ (entry_of t i ∷ []))

-- after one pass of line 6 the cursor is on the next successor; after the last the task leaves the buffer, its share of line 13:
-- "Completed Task ID buffer = φ"
abbrev pub passed : {A : Type 0} → ℕ → List ℕ → Thread A → Thread A
passed count rest r =
    cond (eqb (r.cursor + 1) count) (thread_with rest 0 r.phase r.held r.pointer)
    (thread_with r.buffer (r.cursor + 1) r.phase r.held r.pointer)

-- line 7: "d_T = d_T − 1", and the thread goes on
abbrev pub lowered : {A : Type 0} → ℕ → ℕ → Thread A → State A → State A
lowered i T r s = with_thread i r (with_degree T (degree_of s T - 1) s)
