-- The copies of a graph's tasks, as items of the system: "copies (task, predecessor) .. a root has one copy with NIL".
use Rattle.std.specs.Prelude.{ℕ, zero, suc, ◌≤◌, ◌<◌, ◌≡◌, List, [], ◌++◌, map, replicate}
use Rattle.std.proofs.Common.{ap, ◌∙◌}
use Rattle.std.proofs.Math.Decide.{ℕ_discrete}
use Rattle.lists.specs.Lists.{occ, occ_of, joined}
use Rattle.task.specs.Types.{nil}
pub use Rattle.weak_task.specs.Types.{Copy, copy}
use Rattle.graph.specs.Graph.{Graph, preds_of}
use Rattle.graph.specs.Successors.{succs_of, roots}
use Rattle.exchange.specs.Pairs.{Exchanges}
use Rattle.system.specs.System.{Items}

-- copies are the same if both numbers are
abbrev pub both_same : {a b : Copy} → Dec (a.task ≡ b.task) → Dec (a.predecessor ≡ b.predecessor) → Dec (a ≡ b)
both_same {a} {b} (yes e) (yes f) = yes (ap (λ (t : ℕ). copy t a.predecessor) e ∙ ap (copy b.task) f)
both_same (yes e) (no n) = no (λ q. n (ap (λ (c : Copy). c.predecessor) q))
both_same (no n) _ = no (λ q. n (ap (λ (c : Copy). c.task) q))

unfoldable pub same_copy : Discrete Copy
same_copy a b = both_same (ℕ_discrete a.task b.task) (ℕ_discrete a.predecessor b.predecessor)

-- a task's copies: one for each predecessor, a root's one with NIL
unfoldable pub task_copies : Graph → ℕ → List Copy
task_copies g t = map (copy t) (preds_of g t) ++ replicate (occ t (roots g)) (copy t nil.0)

-- the copies that a complete task makes, one of each successor
unfoldable pub next_copies : Graph → ℕ → List Copy
next_copies g t = map (λ x. copy x t) (succs_of g t)

-- 1 for each copy of the graph, 0 for every other pair of numbers
unfoldable pub is_copy : Graph → Copy → ℕ
is_copy g c = occ_of same_copy c (task_copies g c.task)

-- only a copy of the graph has neighbours
abbrev pub if_any : {A : Type 0} → ℕ → List A → List A
if_any zero l = []
if_any (suc n) l = l

-- a copy waits for all copies of its predecessor, NIL having none, and the copies made of it wait for it
unfoldable pub copies_of : Graph → Items Copy
copies_of g =
    record {
      want = is_copy g;
      preds = λ c. if_any (is_copy g c) (task_copies g c.predecessor);
      succs = λ c. if_any (is_copy g c) (next_copies g c.task);
    }

-- "a copy stays behind all copies of its predecessor"
pub record Before (g : Graph) (b c : Copy) : Type 0 where
  pub earlier : 0 < is_copy g b
  pub later : 0 < is_copy g c
  pub predecessor : b.task ≡ c.predecessor

unfoldable pub root_copies : Graph → List Copy
root_copies g = map (λ r. copy r nil.0) (roots g)

-- all of them: the roots', then those that each task makes
unfoldable pub all_copies : Graph → List Copy
all_copies g = root_copies g ++ joined g.tasks (next_copies g)

-- the exchanges between two orders of them
abbrev pub CopyExchanges : Graph → List Copy → List Copy → Type 0
CopyExchanges g = Exchanges same_copy (is_copy g) (all_copies g) (Before g)

-- "a predecessor twice in one task", turned round
abbrev pub NoneTwice : Graph → Type 0
NoneTwice g = (t u : ℕ) → t < g.tasks → occ u (preds_of g t) ≤ 1
