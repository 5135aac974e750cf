-- What the steps of the filling ask and leave: sums of counts, the next free places, and stores at them.
use Rattle.std.specs.Prelude.{ℕ, ◌+◌, ◌-◌, ◌≤◌, ◌<◌, ◌≡◌, List, [], ◌∷◌, length, get_or, set}
use Rattle.lists.specs.Lists.{occ, tabulate}
use Rattle.lists.specs.Sums.{sum_to}
use Rattle.graph.specs.Graph.{Graph, Among}
use Rattle.graph.specs.Conditions.{Sound}
use Rattle.graph.specs.Successors.{succ_start}

-- N+1 starts that do not fall
pub record Starts (n : ℕ) (starts : List ℕ) : Type 0 where
  pub whole : length starts ≡ n + 1
  pub rises : (t : ℕ) → t < n → get_or starts t 0 ≤ get_or starts (t + 1) 0

-- from each start to the next
unfoldable pub gaps : ℕ → List ℕ → List ℕ
gaps n starts = tabulate n (λ t. get_or starts (t + 1) 0 - get_or starts t 0)

-- the counts of the tasks below u
unfoldable pub sum_below : List ℕ → ℕ → ℕ
sum_below counts u = sum_to u (λ v. get_or counts v 0)

-- starts from counts, and the same as the next free places
pub record Summed (n : ℕ) (counts next starts : List ℕ) : Type 0 where
  pub kept : length next ≡ length counts
  pub places : (u : ℕ) → u < n → get_or next u 0 ≡ sum_below counts u
  pub sums : starts ≡ tabulate (n + 1) (sum_below counts)

-- each task's next free place, and the successors so far
pub record Placed : Type 0 where
  pub next : List ℕ
  pub succs : List ℕ

abbrev pub placed_of : List ℕ → List ℕ → Placed
placed_of next succs = record { next = next; succs = succs }

-- t goes to u's next free place
unfoldable pub place_one : ℕ → ℕ → Placed → Placed
place_one t u p = placed_of (set p.next u (get_or p.next u 0 + 1)) (set p.succs (get_or p.next u 0) t)

unfoldable pub place_all : ℕ → List ℕ → Placed → Placed
place_all t [] p = p
place_all t (u ∷ words) p = place_all t words (place_one t u p)

-- each word has a next free place, and places as often as it stands there
pub record Room (words next succs : List ℕ) : Type 0 where
  pub inside : (u : ℕ) → Among u words → u < length next
  pub room : (u : ℕ) → Among u words → get_or next u 0 + occ u words ≤ length succs

-- a graph whose tasks have no successor yet: each next free place is a start
pub record Begun (g : Graph) (next succs : List ℕ) : Type 0 where
  pub sound : Sound g
  pub inside : g.tasks ≤ length next
  pub places : (u : ℕ) → u < g.tasks → get_or next u 0 ≡ succ_start g u
  pub whole : length succs ≡ length g.preds
