-- The rings of a weak job as begin lays them down, task by task, and the degrees after them.
use Rattle.std.specs.Prelude.{ℕ, ◌*◌, ◌%◌, ◌<◌, max, ◌≡◌, List, [], ◌∷◌, ℤ, pos, length, get_or, replicate}
use Rattle.task.specs.Types.{nil}
use Rattle.weak_task.specs.Types.{Copy, copy, unfixed}
use Rattle.ring.specs.Ring.{ring_words, end_words}
use Rattle.memory.specs.Field as list
use Rattle.memory.specs.Memory.{put}
use Rattle.plans.specs.Laying.{roots_laid}
use Rattle.weak_rules.specs.Memory.{Mem}
use Rattle.weak_rules.specs.Updates.{put_fixed}
use Rattle.roots.specs.Laying.{roots_below, Dealt}

-- the roots, numbered from n, each fixed to its worker, in whose ring its one copy joins
abbrev pub roots_fixed : ℕ → ℕ → ℕ → List ℕ → Mem → Mem
roots_fixed p k n ts m = roots_laid p k (λ t. copy t nil.0) (λ x t. put_fixed t (x % p) ∷ []) n ts m

-- a memory with other weights, fixed words, rings, ends and counters
abbrev pub laid_in : Mem → List ℕ → List ℕ → List Copy → List ℕ → List ℤ → Mem
laid_in m w f r e c =
    put list.weights w
    (put list.fixed f
    (put list.rings r
    (put list.ends e
    (put list.counters c m))))

-- in any memory the roots below t are placed, from cleared lists
abbrev pub Placed : ℕ → ℕ → List ℕ → List ℕ → ℕ → List ℕ → List Copy → List ℕ → List ℤ → Type 0
Placed p k weights degrees t fixed rings ends counters =
    (m : Mem)
    → laid_in m weights fixed rings ends counters
    ≡ roots_fixed p k 0 (roots_below degrees t)
    (laid_in m weights (replicate (length degrees) unfixed.0) (replicate (p * p * ring_words k) (copy 0 0)) (replicate (p * p * end_words) 0)
    (replicate (p * p) (pos 0)))

-- the roots below t are laid down: what lets the next task be laid down
pub record Laid (p k : ℕ) (weights degrees : List ℕ) (t owner : ℕ) (fixed : List ℕ) (rings : List Copy) (ends : List ℕ) (counters : List ℤ)
    : Type 0 where
  pub dealt : Dealt p k weights degrees t owner rings ends counters
  pub words : length fixed ≡ length degrees
  pub placed : Placed p k weights degrees t fixed rings ends counters

-- "a root being begun with degree 1": from numbers of predecessors
pub record Raised (before after : List ℕ) : Type 0 where
  pub kept : length after ≡ length before
  pub degree : (t : ℕ) → t < length before → get_or after t 0 ≡ max 1 (get_or before t 0)
