-- "Neighbour lookup: the neighbours of a task, on the side named, are handed back as that part of the predecessor or the
-- successor table itself. A refused lookup hands back an empty part."
use Rattle.task.specs.declared.refusal.Refusal.TheVariants.{BadTable, BeyondLimit, WrongLength}
use Rattle.std.specs.Prelude.{ℕ, ◌+◌, ◌≤◌, ◌<◌, ◌≡◌, Bool, not, ◌&&◌, List, [], length, ltb, eqb, Err, Ok}
use Rattle.lists.specs.Decided.{holds}
use Rattle.task.specs.Types.{engine}
use Rattle.task.specs.Refusals.{refused_if, Answer}
use Rattle.task.specs.declared.Side.{Side}
use Rattle.task.specs.declared.Side.TheVariants.{Predecessors, Successors}
use Rattle.graph.specs.Graph.{part}
use Rattle.graph.specs.Conditions.{Good}
use Rattle.graph.specs.Decide.{good?}
use Rattle.graph.specs.Check.{sizes_fit}

-- the lists that a lookup is lent; "N and E are the lengths of weights and predecessors, in the lookup too"
pub record Lent : Type 0 where
  pub weights : List ℕ
  pub pred_starts : List ℕ
  pub preds : List ℕ
  pub succ_starts : List ℕ
  pub succs : List ℕ

abbrev pub lent_of : List ℕ → List ℕ → List ℕ → List ℕ → List ℕ → Lent
lent_of w ps p ss s = record { weights = w; pred_starts = ps; preds = p; succ_starts = ss; succs = s }

-- the table on the side named
abbrev pub starts_on : Side → Lent → List ℕ
starts_on Predecessors l = l.pred_starts
starts_on Successors l = l.succ_starts

abbrev pub words_on : Side → Lent → List ℕ
words_on Predecessors l = l.preds
words_on Successors l = l.succs

-- when a lookup is accepted: limits, lengths, the task, its range and the numbers in it
pub record LookupFits (side : Side) (l : Lent) (t : ℕ) : Type 0 where
  pub tasks : length l.weights ≤ engine.tasks
  pub edges : length l.preds ≤ engine.edges
  pub pred_starts : length l.pred_starts ≡ length l.weights + 1
  pub succ_starts : length l.succ_starts ≡ length l.weights + 1
  pub succs : length l.succs ≡ length l.preds
  pub task : t < length l.weights
  pub good : Good (length l.weights) (starts_on side l) (words_on side l) t

unfoldable pub lengths_fit : Lent → Bool
lengths_fit l =
    eqb (length l.pred_starts) (length l.weights + 1)
    && (eqb (length l.succ_starts) (length l.weights + 1) && eqb (length l.succs) (length l.preds))

-- "lookup: its range or a number in it is bad, or task ≥ N", turned round
unfoldable pub task_fits : Side → Lent → ℕ → Bool
task_fits side l t = ltb t (length l.weights) && holds (good? (length l.weights) (starts_on side l) (words_on side l) t)

-- "In lookup: 2, 1, 3"; the detail of 3 is "the task"
unfoldable pub judge_answer : Side → Lent → ℕ → Answer
judge_answer side l t =
    refused_if (not (sizes_fit engine (length l.weights) (length l.preds))) BeyondLimit
    (refused_if (not (lengths_fit l)) WrongLength
    (refused_if (not (task_fits side l t)) (BadTable t)
    (Ok tt)))

abbrev pub handed : Answer → List ℕ → List ℕ
handed (Ok u) l = l
handed (Err why) l = []

unfoldable pub neighbours_of : Side → Lent → ℕ → List ℕ
neighbours_of side l t = handed (judge_answer side l t) (part (starts_on side l) (words_on side l) t)
