-- Stripping: "strip tasks without remaining successors, last to first".
use Rattle.std.specs.Prelude.{ℕ, zero, suc, ◌≤◌, ◌<◌, ◌≡◌, ◌↔◌, List, [], ◌∷◌, ◌++◌, length, take, drop, get_or, Err, Ok}
use Rattle.lists.specs.Decided.{Smallest}
use Rattle.lists.specs.Lists.{occ}
use Rattle.task.specs.Refusals.{cycle, refused, accepted, answer_says, Answer, refusal_number}
use Rattle.graph.specs.Graph.{Among, Graph, Edge}
use Rattle.graph.specs.Conditions.{OnCycle}
use Rattle.graph.specs.Check.{tables_answer}
use Rattle.graph.specs.Decide.{not?, map?, below?, edge?}

-- an order in which tasks can be stripped: each task once, all its successors before it
pub record Strips (g : Graph) (order : List ℕ) : Type 0 where
  pub tasks : (t : ℕ) → Among t order → t < g.tasks
  pub once : (t : ℕ) → occ t order ≤ 1
  pub behind : (k t : ℕ) → k < length order → Edge g (get_or order k 0) t → Among t (take k order)

-- no task can prolong it
abbrev pub Whole : Graph → List ℕ → Type 0
Whole g order = (t : ℕ) → ¬ (Strips g (order ++ (t ∷ [])))

-- task t is left by it
abbrev pub Left : List ℕ → ℕ → Type 0
Left order t = occ t order ≡ 0

-- task u has no successor
abbrev pub Sink : Graph → ℕ → Type 0
Sink g u = (t : ℕ) → ¬ (Edge g u t)

unfoldable pub sink? : (g : Graph) (u : ℕ) → Dec (Sink g u)
sink? g u = map? (λ f t e. f t e.task e) (λ f t h. f t) (below? (λ t. not? (edge? g u t)) g.tasks)

abbrev pub keep_if : {A : Type 0} → Dec A → ℕ → List ℕ → List ℕ
keep_if (yes a) u l = u ∷ l
keep_if (no n) u l = l

-- the tasks below n without successors, "last to first"
unfoldable pub sinks_below : Graph → ℕ → List ℕ
sinks_below g zero = []
sinks_below g (suc u) = keep_if (sink? g u) u (sinks_below g u)

abbrev pub sinks_of : Graph → List ℕ
sinks_of g = sinks_below g g.tasks

-- what a check hands out: an order that no task can prolong, which begins with all tasks without successors, falling
pub record Stripped (g : Graph) (order : List ℕ) : Type 0 where
  pub strips : Strips g order
  pub whole : Whole g order
  pub sinks : take (length (sinks_of g)) order ≡ sinks_of g

-- a check that answers this has passed 1 to 4, and has judged 5
abbrev pub Judges5 : Answer → Type 0
Judges5 (Ok u) = Unit {0}
Judges5 (Err why) = refusal_number why ≡ cycle

-- 5 is judged on the tasks that an order leaves: it names the smallest of them on a cycle, and where none is left the tables are accepted
pub record JudgedBy (g : Graph) (order : List ℕ) : Type 0 where
  pub names : (d : ℕ) → (answer_says (tables_answer g) ≡ refused cycle d) ↔ Smallest (λ t. Left order t × OnCycle g t) d
  pub accepts : (answer_says (tables_answer g) ≡ accepted) ↔ (length order ≡ g.tasks)

-- the order as the first words of a list; the words behind them stay
pub record HandsOut (g : Graph) (before words : List ℕ) (stripped : ℕ) : Type 0 where
  pub few : stripped ≤ g.tasks
  pub order : Stripped g (take stripped words)
  pub behind : drop stripped words ≡ drop stripped before

-- the order that a check hands out where it has judged 5; before that it leaves the list
pub record Ordered (g : Graph) (answer : Answer) (before words : List ℕ) (stripped : ℕ) : Type 0 where
  pub handed : Judges5 answer → HandsOut g before words stripped
  pub kept : ¬ (Judges5 answer) → (stripped ≡ 0) × (words ≡ before)
