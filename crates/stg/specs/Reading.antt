-- What the reader's own functions ask of their lists.
use Rattle.std.specs.Prelude.{ℕ, suc, ◌≤◌, ◌≡◌, List, length, get_or, Err}
use Rattle.task.specs.Refusals.{ReadAnswer}
use Rattle.task.specs.declared.refusal.Refusal.TheVariants.{BeyondLimit, BrokenLayout}
use Rattle.text_lines.specs.declared.TaskError.{TaskError}
use Rattle.text_lines.specs.declared.TaskError.TheVariants.{Broken, Over}

-- scratch lists, the first start already there
pub record Room (w s p : List ℕ) : Type 0 where
  pub weights : length w ≡ 1024
  pub starts : length s ≡ 1025
  pub first : get_or s 0 0 ≡ 0
  pub preds : length p ≡ 8193

-- n tasks are due at a line's start
pub record Reading (text : List ℕ) (at line n : ℕ) (w s p : List ℕ) : Type 0 where
  pub inside : at ≤ length text
  pub short : length text ≤ 65536
  pub counted : line ≤ suc at
  pub few : n ≤ 1024
  pub room : Room w s p

-- the refusal of a task's line that was not read
abbrev pub refused_line : TaskError → ℕ → ReadAnswer
refused_line Over l = Err BeyondLimit
refused_line Broken l = Err (BrokenLayout l)
