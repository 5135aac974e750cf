-- Where a run's items stand: "each item stands at most once in rings, hands and record together, and only items of the graph stand there". Nothing here
-- looks inside an item; a plain job's items are its tasks.
use Rattle.std.specs.Prelude.{ℕ, ◌+◌, ◌≤◌, ◌<◌, ◌≡◌, cond, List, [], ◌∷◌, eqb}
use Rattle.std.proofs.Math.Decide.{ℕ_discrete}
use Rattle.lists.specs.Lists.{tabulate, occ_of}
use Rattle.lists.specs.Sums.{sum_to}
use Rattle.machine.specs.Runs.{View}
use Rattle.memory.specs.Family.{Family}
use Rattle.memory.specs.Memory as memory
use Rattle.plans.specs.Memory.{phase_in, held, entries_in}
use Rattle.split_lists.specs.Reading.{queue_in}
use Rattle.rules.specs.Memory.{Mem, tasks, degree_in}
use Rattle.runs.specs.Calls.{Call}
use Rattle.runs.specs.Demand.{task_word}

-- the item in worker i's hand: none where its phase is 0
abbrev pub held_by : {F : Family} → memory.Mem F → ℕ → List F.Item
held_by m i = cond (eqb (phase_in m i) 0) [] (held m i ∷ [])

-- of a family whose record has, in a memory, these items at its entries
module _ {F : Family} (same : Discrete F.Item) (entry_item : memory.Mem F → ℕ → F.Item) where
  -- how often an item stands in the P·P rings, in the P hands, and in as many entries of the record as the entries word says
  unfoldable pub stands_in : ℕ → ℕ → memory.Mem F → F.Item → ℕ
  stands_in p k m a =
      sum_to p (λ i. sum_to p (λ j. occ_of same a (queue_in p k m i j)))
      + sum_to p (λ i. occ_of same a (held_by m i))
      + occ_of same a (tabulate (entries_in m) (entry_item m))

  -- at most once, and only one of the graph's
  pub record StandsOnce (p k : ℕ) (m : memory.Mem F) (OfGraph : F.Item → Type 0) : Type 0 where
    pub once : (a : F.Item) → stands_in p k m a ≤ 1
    pub only : (a : F.Item) → 0 < stands_in p k m a → OfGraph a

-- PROMISE: after every list of a run's calls each task stands at most once in rings, hands and record together, and only tasks of the graph that begin was
-- lent stand there
abbrev pub OnePlace : View Mem Call → Type 0
OnePlace v = StandsOnce ℕ_discrete task_word v.workers v.slots v.memory (λ t. t < tasks v.lent)

-- PROMISE: and none is lost: a task stands nowhere as long as its degree isn't 0, and exactly once as soon as it is 0
pub record NoneLost (v : View Mem Call) : Type 0 where
  pub blocked : (t : ℕ) → ¬ (◌≡◌ {A = ℕ} (degree_in v.memory t) 0) → stands_in ℕ_discrete task_word v.workers v.slots v.memory t ≡ 0
  pub free : (t : ℕ) → t < tasks v.lent → ◌≡◌ {A = ℕ} (degree_in v.memory t) 0
      → stands_in ℕ_discrete task_word v.workers v.slots v.memory t ≡ 1
