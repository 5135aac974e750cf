-- What accepted steps of every family find.
use Rattle.std.specs.Prelude.{ℕ, ◌≤◌, ◌<◌}
use Rattle.memory.specs.Family.{Family}
use Rattle.memory.specs.Memory.{Mem}
use Rattle.plans.specs.Memory.{tasks, edges, first_succ, past_succ}

-- a task whose successor range is as it should be
pub record Ranged {F : Family} (m : Mem F) (t : ℕ) : Type 0 where
  pub below : t < tasks m
  pub rises : first_succ m t ≤ past_succ m t
  pub inside : past_succ m t ≤ edges m
