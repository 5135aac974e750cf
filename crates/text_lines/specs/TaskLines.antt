-- What the lines of a text give: the next one that is not skipped, the first one, and task t's, where the task is due after e edges.
use Rattle.std.specs.Prelude.{ℕ, ◌+◌, ◌≤◌, ◌<◌, ◌≡◌, Bool, List, [], ◌∷◌, ◌++◌, length, take, set, Option, None, Some, Result, Ok, Err}
use Rattle.std.proofs.Math.Option.{none, some}
use Rattle.layout.specs.Marks.{Numbers}
use Rattle.layout.specs.Tasks.{Task}
use Rattle.layout.specs.Reader.{task_of}
use Rattle.layout.specs.Scan.{row_at, NextLine, NextContent, Filling}
use Rattle.layout.specs.Scan as scan
use Rattle.text_lines.specs.declared.First.{First}
use Rattle.text_lines.specs.declared.Head.{Head}
use Rattle.text_lines.specs.declared.TaskError.{TaskError}
use Rattle.text_lines.specs.declared.TaskError.TheVariants.{Broken, Over}
use Rattle.text_lines.specs.declared.TaskLine.{TaskLine}

-- the next line that is not skipped: its place and number; or there is none, and the text has this many lines
abbrev pub ContentFound : List ℕ → (at line : ℕ) → Option ℕ → (number : ℕ) → Type 0
ContentFound text at line None number = NextContent text at line (length text) number
ContentFound text at line (Some place) number = (place < length text) × NextContent text at line place number

-- n + 2 tasks and the place of the next line; or the line isn't n alone
abbrev pub FirstFound : List ℕ → (at : ℕ) → Option First → Type 0
FirstFound text at None = (n : ℕ) → ¬ (row_at text at ≡ some (n ∷ []))
FirstFound text at (Some f) = (n : ℕ) × (f.tasks ≡ n + 2) × (n ≤ 65535) × (row_at text at ≡ some (n ∷ [])) × NextLine text at f.next

-- the first three numbers of task t's line; or the line gives no such task
abbrev pub HeadFound : List ℕ → (at t : ℕ) → Bool → Option Head → Type 0
HeadFound text at t last None = task_of t last (row_at text at) ≡ none
HeadFound text at t last (Some h) = scan.Head text at t last h.time h.count h.next

-- count numbers of the line stand in the words from e on, as far as there is room; or the line has fewer
abbrev pub NumbersFound : List ℕ → (at count e : ℕ) → (words new : List ℕ) → Option ℕ → Type 0
NumbersFound text at count e words new None = (us : List ℕ) (row : Numbers) → length us ≡ count → ¬ (row_at text at ≡ some (us ++ row))
NumbersFound text at count e words new (Some next) = Filling text at e words next (e + count) new

pub record TaskWritten (text : List ℕ) (at t e : ℕ) (x : Task) (next edges : ℕ) (w s p w' s' p' : List ℕ) : Type 0 where
  pub after : NextLine text at next
  pub counted : edges ≡ e + length x.preds
  pub limit : edges ≤ 8192
  pub weights : w' ≡ set w t x.time
  pub starts : s' ≡ set s (t + 1) edges
  pub preds : take edges p' ≡ take e p ++ x.preds
  pub room : length p' ≡ 8193

-- the task, written; or the line gives no task t, or one whose edges pass the limit
abbrev pub TaskFound : List ℕ → (at t : ℕ) → Bool → (e : ℕ) → Result TaskLine TaskError → (w s p w' s' p' : List ℕ) → Type 0
TaskFound text at t last e (Err Broken) w s p w' s' p' = task_of t last (row_at text at) ≡ none
TaskFound text at t last e (Err Over) w s p w' s' p' = (x : Task) × (task_of t last (row_at text at) ≡ some x) × (8192 < e + length x.preds)
TaskFound text at t last e (Ok l) w s p w' s' p' =
    (x : Task) × (task_of t last (row_at text at) ≡ some x) × TaskWritten text at t e x l.next l.edges w s p w' s' p'
