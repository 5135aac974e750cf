-- What each answer of a weak step says in the paper's terms.
use Rattle.std.specs.Prelude.{ℕ, [], ◌∷◌, Result, Ok, Err}
use Rattle.task.specs.Refusals.{Said, answered, accepted, refusal_says}
use Rattle.task.specs.declared.refusal.Refusal.{Refusal}
use Rattle.weak_task.specs.Types.{Copy, copy_of}
use Rattle.weak_task.specs.declared.WeakOutcome.{WeakOutcome}
use Rattle.weak_task.specs.declared.WeakOutcome.TheVariants.{Moved, Fetched, Placed}

-- what a weak step answers: its outcome, or why it is refused
abbrev pub WeakAnswer : Type 0
WeakAnswer = Result WeakOutcome Refusal

-- "Fetch answers the copy"
abbrev pub copy_fetched : Copy → Said
copy_fetched c = answered 6 (c.task ∷ c.predecessor ∷ [])

-- "Release always makes one copy and answers it with its owner"
abbrev pub copy_placed : Copy → (owner : ℕ) → Said
copy_placed c o = answered 7 (c.task ∷ c.predecessor ∷ o ∷ [])

abbrev pub outcome_says : WeakOutcome → Said
outcome_says Moved = accepted
outcome_says (Fetched c) = copy_fetched (copy_of c)
outcome_says (Placed c o) = copy_placed (copy_of c) o.0

abbrev pub step_says : WeakAnswer → Said
step_says (Err why) = refusal_says why
step_says (Ok o) = outcome_says o
