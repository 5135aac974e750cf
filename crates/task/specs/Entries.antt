-- "Execution record 2N (task, worker).": an entry's item is the task, in a plain job.
use Rattle.std.specs.Prelude.{ℕ, suc}
use Rattle.task.specs.declared.Step.{Step}
use Rattle.task.specs.declared.Step.TheVariants.{Fetch, Start, Complete, Release}

pub record Entry (A : Type 0) : Type 0 where
  pub item : A
  pub worker : ℕ

abbrev pub entry_of : {A : Type 0} → A → ℕ → Entry A
entry_of a w = record { item = a; worker = w }

-- the entries word after an accepted step: Complete alone adds to it
abbrev pub entries_next : Step → ℕ → ℕ
entries_next Fetch n = n
entries_next Start n = n
entries_next Complete n = suc n
entries_next Release n = n
