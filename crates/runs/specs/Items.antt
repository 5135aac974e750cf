-- Of a state of Algorithm 1 over items of any type: what a thread has in hand, where a worker's items stand, and what its counters add up to.
-- Nothing here looks inside an item: `none` stands for no item, and `weight` is what each weighs.
use Rattle.std.specs.Prelude.{ℕ, ◌<◌, ◌≡◌, cond, List, [], ◌∷◌, ◌++◌, eqb, pos}
use Rattle.lists.specs.Sums.{sum_of}
use Rattle.algorithm1.specs.Items.{Thread, State, waiting_for, workload, thread_of}
use Rattle.system.specs.Stages.{Hand, idle, fetched, running, in_hand}

-- what a thread's phase and held item say of its hand
unfoldable pub hand_of : {A : Type 0} → Thread A → Hand A
hand_of r = cond (eqb r.phase 0) idle (cond (eqb r.phase 1) (fetched r.held) (running r.held))

-- where an item of a worker stands before it is recorded: in one of the worker's lists, or in its hand
pub data Stage : Type 0 where
  waiting held : Stage

-- the stages whose weight a worker's counters carry, where each item has a weight of its own, "the weight waiting for it plus that in its hand": it
-- joins when an item is placed, and leaves when it is completed
abbrev pub charged : List Stage
charged = waiting ∷ held ∷ []

module _ {A : Type 0} (none : A) where
  -- worker i's items at a stage
  unfoldable pub tasks_at : ℕ → State A → ℕ → Stage → List A
  tasks_at p s i waiting = waiting_for p s i
  tasks_at p s i held = in_hand (hand_of (thread_of none s i))

  unfoldable pub tasks_at_all : ℕ → State A → ℕ → List Stage → List A
  tasks_at_all p s i [] = []
  tasks_at_all p s i (x ∷ xs) = tasks_at p s i x ++ tasks_at_all p s i xs

  -- each worker's counters add up to the weight of its items at these stages
  pub record AddsUp (weight : A → ℕ) (p : ℕ) (s : State A) : Type 0 where
    pub worker : (i : ℕ) → i < p → workload p s i ≡ pos (sum_of weight (tasks_at_all p s i charged))
