-- Weak jobs, the weak dependency of source document 000: a task runs once for each finished predecessor, as a copy, and is complete with its last
-- copy. With this one all its releases fall due. A degree here is the system's, a copy's own: how many copies of its predecessor are still to come,
-- or that its release is. Document 02's degree is the task's, which counts its copies that are still to be completed.
use Rattle.std.specs.Prelude.{ℕ, suc, ◌+◌, ◌≡◌, Bool, cond, List, [], ◌∷◌, ◌++◌, length}
use Rattle.std.proofs.Math.Decide.{ℕ_discrete}
use Rattle.lists.specs.Decided.{holds}
use Rattle.lists.specs.Lists.{occ_of}
use Rattle.lists.specs.Sums.{sum_to}
use Rattle.graph.specs.Graph.{Graph}
use Rattle.graph.specs.Successors.{succs_of}
use Rattle.system.specs.Stages.{Replaced, Finishes}
use Rattle.system.specs.System.{State, Rule, missing, Reached}
use Rattle.copies.specs.Copies.{Copy, same_copy, task_copies, copies_of}

-- the task is complete: all its copies are recorded
unfoldable pub all_recorded : Graph → List Copy → ℕ → Bool
all_recorded g done t = holds (ℕ_discrete (missing same_copy (task_copies g t) done) 0)

-- what falls due as a copy joins the record: the copies of all successors of its task if it is the task's last, else nothing
unfoldable pub last_due : Graph → Rule Copy
last_due g done c = cond (all_recorded g (done ++ (c ∷ [])) c.task) ((copies_of g).succs c) []

-- how much has fallen due by then: the successors of the complete tasks
unfoldable pub owed : Graph → List Copy → ℕ
owed g done = sum_to g.tasks (λ t. cond (all_recorded g done t) (length (succs_of g t)) 0)

-- the states of a weak job's runs
abbrev pub Weak : Graph → ℕ → State Copy → Type 0
Weak g P = Reached same_copy (copies_of g) P (last_due g)

-- Complete of a weak job; that what falls due is the copy's own, and that nothing becomes free by it, isn't asked for: in a run it follows
pub record CompletesCopy (g : Graph) (P i : ℕ) (c : Copy) (s s' : State Copy) : Type 0 where
  pub finishes : Finishes same_copy P i c s.stages s'.stages
  pub old : List Copy
  pub pending : Replaced P i old (old ++ last_due g s.stages.done c) s.pending s'.pending
  pub degree : (x : Copy) → s'.degree x + occ_of same_copy x ((copies_of g).succs c) ≡ s.degree x + occ_of same_copy x (last_due g s.stages.done c)
  pub steps : s'.steps ≡ suc s.steps
  pub dues : s'.dues ≡ length (last_due g s.stages.done c) + s.dues
