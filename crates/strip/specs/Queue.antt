-- The queue of tasks without remaining successors: the words of `queue` before `tail`.
use Rattle.std.specs.Prelude.{ℕ, zero, suc, ◌+◌, ◌≤◌, ◌<◌, ◌≡◌, List, [], ◌++◌, length, get_or, take, drop}
use Rattle.std.proofs.Math.Decide.{ℕ_discrete}
use Rattle.lists.specs.Decided.{tally}
use Rattle.lists.specs.Lists.{occ}
use Rattle.graph.specs.Graph.{Among}
use Rattle.graph.specs.Stripping.{keep_if}

-- 1 where task u has no successor left, otherwise 0
abbrev pub stripped : List ℕ → ℕ → ℕ
stripped left u = tally (ℕ_discrete (get_or left u 0) 0)

-- how often task u is queued
abbrev pub queued_at : List ℕ → ℕ → ℕ → ℕ
queued_at queue tail u = occ u (take tail queue)

-- queued tasks have no successor left, and are queued once
pub record Queued (left queue : List ℕ) (tail : ℕ) : Type 0 where
  pub lefts : length left ≡ 1024
  pub room : length queue ≡ 1024
  pub short : tail ≤ 1024
  pub below : (u : ℕ) → Among u (take tail queue) → u < 1024
  pub few : (u : ℕ) → queued_at queue tail u ≤ stripped left u

-- the tasks below n without successors left, falling
unfoldable pub nones_below : List ℕ → ℕ → List ℕ
nones_below left zero = []
nones_below left (suc u) = keep_if (ℕ_discrete (get_or left u 0) 0) u (nones_below left u)

-- of the tasks from k up to n, those without successors are queued, falling; the words behind them stay as in queue₀
pub record Falling (k n : ℕ) (left queue₀ queue : List ℕ) (tail : ℕ) : Type 0 where
  pub room : length queue ≡ 1024
  pub few : tail + k ≤ n
  pub falls : take tail queue ++ nones_below left k ≡ nones_below left n
  pub behind : drop tail queue ≡ drop tail queue₀

-- of the tasks below n, those without successors left are queued; no other is
pub record Emptied (n : ℕ) (left queue : List ℕ) (tail : ℕ) : Type 0 where
  pub queued : Queued left queue tail
  pub looked : (u : ℕ) → u < n → queued_at queue tail u ≡ stripped left u
  pub beyond : (u : ℕ) → n ≤ u → queued_at queue tail u ≡ 0

-- each word took one successor from its task; a task is queued behind the others when its last one goes; no word besides changes
pub record Lowered (words left left' queue queue' : List ℕ) (tail tail' : ℕ) : Type 0 where
  pub queued : Queued left' queue' tail'
  pub counts : (u : ℕ) → get_or left' u 0 + occ u words ≡ get_or left u 0
  pub joins : (u : ℕ) → queued_at queue' tail' u + stripped left u ≡ queued_at queue tail u + stripped left' u
  pub front : take tail queue' ≡ take tail queue
  pub behind : drop tail' queue' ≡ drop tail' queue
  pub longer : tail ≤ tail'
