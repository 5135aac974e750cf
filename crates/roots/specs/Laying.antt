-- The rings as begin lays them down, task by task.
use Rattle.std.specs.Prelude.{ℕ, ◌*◌, ◌%◌, ◌≤◌, ◌<◌, ◌≡◌, cond, List, [], ◌∷◌, ℤ, pos, length, get_or, replicate}
use Rattle.std.proofs.Math.Decide.{ℕ_discrete}
use Rattle.lists.specs.Decided.{holds}
use Rattle.lists.specs.Lists.{joined}
use Rattle.task.specs.Types.{engine}
use Rattle.graph.specs.Conditions.{Light}
use Rattle.ring.specs.Ring.{capacity, ring_words, end_words, ends_at, filled_ends}
use Rattle.memory.specs.Field as list
use Rattle.memory.specs.Memory.{put}
use Rattle.rules.specs.Memory.{Mem}
use Rattle.rules.specs.Begin.{roots_placed}
use Rattle.rules.specs.Begun.{to_ring}

-- the tasks below t whose degree is 0, rising
unfoldable pub roots_below : List ℕ → ℕ → List ℕ
roots_below degrees t = joined t (λ u. cond (holds (ℕ_discrete (get_or degrees u 0) 0)) (u ∷ []) [])

-- a memory with other weights, rings, ends and counters
abbrev pub laid_in : Mem → List ℕ → List ℕ → List ℕ → List ℤ → Mem
laid_in m w r e c =
    put list.weights w
    (put list.rings r
    (put list.ends e
    (put list.counters c m)))

-- in any memory the roots below t are placed, from cleared lists
abbrev pub Placed : ℕ → ℕ → List ℕ → List ℕ → ℕ → List ℕ → List ℕ → List ℤ → Type 0
Placed p k weights degrees t rings ends counters =
    (m : Mem)
    → laid_in m weights rings ends counters
    ≡ roots_placed p k 0 (roots_below degrees t)
    (laid_in m weights (replicate (p * p * ring_words k) 0) (replicate (p * p * end_words) 0) (replicate (p * p) (pos 0)))

-- numbers within the engine's limits, and a weight within its limit for each task
pub record Job (p k : ℕ) (weights degrees : List ℕ) : Type 0 where
  pub one_worker : 1 ≤ p
  pub few_workers : p ≤ engine.workers
  pub one_slot : 1 ≤ k
  pub few_slots : k ≤ engine.slots
  pub few_tasks : length degrees ≤ engine.tasks
  pub weighed : length weights ≡ length degrees
  pub light : Light weights
  -- "The roots' limit becomes P·K."
  pub few : length (roots_below degrees (length degrees)) ≤ p * capacity k

-- the lengths that P and K decide, whatever an item is
pub record Room {A : Type 0} (p k : ℕ) (r : List A) (e : List ℕ) (c : List ℤ) : Type 0 where
  pub rings : length r ≡ p * p * ring_words k
  pub ends : length e ≡ p * p * end_words
  pub counters : length c ≡ p * p

-- the roots below t are in their rings, and the next one goes to the owner: what lets the next task be laid down, whatever an item is
pub record Dealt {A : Type 0} (p k : ℕ) (weights degrees : List ℕ) (t owner : ℕ) (rings : List A) (ends : List ℕ) (counters : List ℤ) : Type 0 where
  pub job : Job p k weights degrees
  pub room : Room p k rings ends counters
  pub upto : t ≤ length degrees
  pub next : owner ≡ length (roots_below degrees t) % p
  -- each ring is filled from its first slot on with the roots that go to it
  pub filled : (q : ℕ) → q < p * p → ends_at ends q ≡ filled_ends k (length (to_ring p q 0 (roots_below degrees t)))
  -- no counter is above the weights of t tasks
  pub small : (q : ℕ) → q < p * p → (x : ℕ) × ((get_or counters q (pos 0) ≡ pos x) × (x ≤ t * 65535))

-- and they are laid down as the rules say
pub record Laid (p k : ℕ) (weights degrees : List ℕ) (t owner : ℕ) (rings ends : List ℕ) (counters : List ℤ) : Type 0 where
  pub dealt : Dealt p k weights degrees t owner rings ends counters
  pub placed : Placed p k weights degrees t rings ends counters
