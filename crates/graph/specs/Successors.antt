-- The successor table, the degrees and the roots.
use Rattle.task.specs.Refusals.{Answer}
use Rattle.std.specs.Prelude.{ℕ, ◌+◌, Bool, true, cond, ◌&&◌, List, [], ◌∷◌, length, replicate, eqb, Err, Ok}
use Rattle.std.proofs.Math.Decide.{ℕ_discrete}
use Rattle.lists.specs.Decided.{holds}
use Rattle.lists.specs.Lists.{occ, joined, tabulate}
use Rattle.lists.specs.Sums.{sum_to}
use Rattle.task.specs.declared.Limits.{Limits}
use Rattle.graph.specs.Graph.{Graph, graph_of, preds_of}
use Rattle.graph.specs.Check.{check_answer}

-- u's successors among the tasks below n: each as often as u is among its predecessors, rising
unfoldable pub succs_below : Graph → ℕ → ℕ → List ℕ
succs_below g n u = joined n (λ t. replicate (occ u (preds_of g t)) t)

-- "successors E, same shape, each task's successors rising"
abbrev pub succs_of : Graph → ℕ → List ℕ
succs_of g u = succs_below g g.tasks u

-- where u's successors start
unfoldable pub succ_start : Graph → ℕ → ℕ
succ_start g u = sum_to u (λ v. length (succs_of g v))

-- "Successor starts N+1"
unfoldable pub succ_starts_of : Graph → List ℕ
succ_starts_of g = tabulate (g.tasks + 1) (succ_start g)

unfoldable pub succ_words : Graph → List ℕ
succ_words g = joined g.tasks (succs_of g)

-- "degrees are numbers of predecessors"
unfoldable pub degree_list : Graph → List ℕ
degree_list g = tabulate g.tasks (λ t. length (preds_of g t))

-- "The roots (degree 0) are taken rising"
unfoldable pub roots : Graph → List ℕ
roots g = joined g.tasks (λ t. cond (holds (ℕ_discrete (length (preds_of g t)) 0)) (t ∷ []) [])

-- what the filling call leaves: its answer, successor starts, successors and degrees
pub record Linked : Type 0 where
  pub answer : Answer
  pub starts : List ℕ
  pub succs : List ℕ
  pub degrees : List ℕ

abbrev pub linked_of : Answer → List ℕ → List ℕ → List ℕ → Linked
linked_of a s w d = record { answer = a; starts = s; succs = w; degrees = d }

-- a refusal leaves the lent lists; else they are filled
abbrev pub fill_if : Answer → Graph → List ℕ → List ℕ → List ℕ → Linked
fill_if (Ok u) g s w d = linked_of (Ok tt) (succ_starts_of g) (succ_words g) (degree_list g)
fill_if (Err why) g s w d = linked_of (Err why) s w d

-- "Each length is exact": successor starts N+1, successors E, degrees N
unfoldable pub lent_fit : List ℕ → List ℕ → List ℕ → List ℕ → List ℕ → Bool
lent_fit weights preds s w d = eqb (length s) (length weights + 1) && (eqb (length w) (length preds) && eqb (length d) (length weights))

-- the check, with the lengths of the lists to fill
unfoldable pub link_answer : Limits → List ℕ → List ℕ → List ℕ → List ℕ → List ℕ → List ℕ → Answer
link_answer limits weights starts preds s w d = check_answer limits true (lent_fit weights preds s w d) weights starts preds

unfoldable pub linked : Limits → List ℕ → List ℕ → List ℕ → List ℕ → List ℕ → List ℕ → Linked
linked limits weights starts preds s w d =
    fill_if (link_answer limits weights starts preds s w d) (graph_of (length weights) starts preds) s w d
