-- "the graph written in the Standard Task Graph layout: single spaces between fields, LF after every line, no leading zeros, no comments,
-- predecessors in table order": which texts have this form, and the one text of it that spells given tables, whose order is part of them.
use Rattle.std.specs.Prelude.{ℕ, zero, suc, ◌+◌, ◌-◌, ◌<◌, ◌≡◌, List, [], ◌∷◌, ◌++◌, length, get_or}
use Rattle.graph.specs.Graph.{part}
use Rattle.layout.specs.Marks.{lf, space, digit0, Line, Numbers}
use Rattle.layout.specs.Digits.{digits_of}
use Rattle.layout.specs.Tasks.{Task, task, Tables}
use Rattle.layout.specs.Layout.{Decimal, task_rows}

-- The form.

-- "no leading zeros": more digits than one don't start with 0
abbrev pub NoZeros : List ℕ → Type 0
NoZeros f = 1 < length f → ¬ (get_or f 0 0 ≡ digit0)

-- "single spaces between fields", none before the first or after the last; a line has a field, so it is neither blank nor a comment
abbrev pub PlainLine : Line → Numbers → Type 0
PlainLine c [] = ⊥
PlainLine c (v ∷ []) = Decimal c v × NoZeros c
PlainLine c (v ∷ w ∷ row) = (f : List ℕ) × (rest : List ℕ) × (c ≡ f ++ (space ∷ rest)) × (Decimal f v × NoZeros f) × PlainLine rest (w ∷ row)

-- "LF after every line"
abbrev pub PlainRows : List ℕ → List Numbers → Type 0
PlainRows text [] = text ≡ []
PlainRows text (row ∷ rows) = (c : Line) × (rest : List ℕ) × (text ≡ c ++ (lf ∷ rest)) × PlainLine c row × PlainRows rest rows

-- the text has this form, whatever its lines' numbers say
pub record Plain (text : List ℕ) : Type 0 where
  pub rows : List Numbers
  pub written : PlainRows text rows

-- The text.

-- numbers with a space before each
unfoldable pub spaced : Numbers → List ℕ
spaced [] = []
spaced (v ∷ row) = space ∷ digits_of v ++ spaced row

-- a line's numbers; "LF after every line"
unfoldable pub line_text : Numbers → List ℕ
line_text [] = lf ∷ []
line_text (v ∷ row) = digits_of v ++ (spaced row ++ (lf ∷ []))

unfoldable pub rows_text : List Numbers → List ℕ
rows_text [] = []
rows_text (row ∷ rows) = line_text row ++ rows_text rows

-- `left` tasks of the tables, from task t on; "predecessors in table order"
unfoldable pub tasks_at : Tables → (left t : ℕ) → List Task
tasks_at g zero t = []
tasks_at g (suc left) t = task (get_or g.weights t 0) (part g.starts g.preds t) ∷ tasks_at g left (suc t)

-- N of them
abbrev pub tasks_of : Tables → List Task
tasks_of g = tasks_at g (length g.weights) 0

-- "First line n; then n+2 lines": n is N − 2, of tables that 14 has passed
unfoldable pub text_of : Tables → List ℕ
text_of g = rows_text (((length g.weights - 2) ∷ []) ∷ task_rows 0 (tasks_of g))

-- Its length: of task t's line the digits of number, time and count, two spaces and LF; of each predecessor its digits and a space.
unfoldable pub line_size : (weights starts : List ℕ) (t : ℕ) → ℕ
line_size w s t = length (digits_of t) + (length (digits_of (get_or w t 0)) + (length (digits_of (get_or s (t + 1) 0 - get_or s t 0)) + 3))

unfoldable pub pred_size : ℕ → ℕ
pred_size v = length (digits_of v) + 1
