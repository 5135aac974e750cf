-- "Standard Task Graph Set, without communication costs.": which texts spell which graph.
use Rattle.std.specs.Prelude.{ℕ, suc, ◌+◌, ◌*◌, ◌-◌, ◌≤◌, ◌≡◌, ◌⊎◌, List, [], ◌∷◌, ◌++◌, length, get_or}
use Rattle.layout.specs.Marks.{lf, cr, hash, digit0, Blank, Digit, Each, Line, Numbers}
use Rattle.layout.specs.Tasks.{Task, empty_task, Tables, tables_of}

-- Lines.

-- "Lines end in LF or CR LF": a CR right before LF belongs to the end, so a line that LF alone ends has no CR as its last
abbrev pub End : Line → List ℕ → Type 0
End c e = (e ≡ cr ∷ lf ∷ []) ⊎ ((e ≡ lf ∷ []) × ((d : List ℕ) → ¬ (c ≡ d ++ (cr ∷ []))))

-- a line, its end and the rest of the text
pub record Ended (text : List ℕ) (c : Line) (rest : List ℕ) : Type 0 where
  pub ending : List ℕ
  pub whole : text ≡ c ++ (ending ++ rest)
  pub end : End c ending

-- "the last one optionally": a last line without its end; there is no line after a final LF
pub record Unended (text : List ℕ) (c : Line) (later : List Line) : Type 0 where
  pub whole : text ≡ c
  pub some : ¬ (c ≡ [])
  pub last : later ≡ []

-- no LF stands there
abbrev pub NoLf : List ℕ → Type 0
NoLf c = Each (λ b. ¬ (b ≡ lf)) c

-- the text's lines without their ends
abbrev pub Lines : List ℕ → List Line → Type 0
Lines text [] = text ≡ []
Lines text (c ∷ ls) = NoLf c × (((rest : List ℕ) × Ended text c rest × Lines rest ls) ⊎ Unended text c ls)

-- "Blank lines (spaces and tabs alone) and lines whose first mark after those is # are skipped anywhere and still counted."
pub record Comment (c : Line) : Type 0 where
  pub before : List ℕ
  pub after : List ℕ
  pub whole : c ≡ before ++ (hash ∷ after)
  pub blanks : Each Blank before

abbrev pub Skipped : Line → Type 0
Skipped c = Each Blank c ⊎ Comment c

-- Fields: "Fields are decimal, up to 65,535, one to five digits, parted and surrounded by spaces or tabs."

-- the value of digits that follow a number
abbrev pub decimal_from : ℕ → List ℕ → ℕ
decimal_from v [] = v
decimal_from v (d ∷ f) = decimal_from (v * 10 + (d - digit0)) f

abbrev pub decimal : List ℕ → ℕ
decimal = decimal_from 0

pub record Decimal (f : List ℕ) (v : ℕ) : Type 0 where
  pub digits : Each Digit f
  pub one : 1 ≤ length f
  pub five : length f ≤ 5
  pub value : v ≡ decimal f
  pub limit : v ≤ 65535

-- what follows a field is nothing or starts with a blank
abbrev pub Parted : List ℕ → Type 0
Parted [] = Unit {0}
Parted (b ∷ rest) = Blank b

-- blanks, a field and the rest of the line
pub record Field (c : List ℕ) (v : ℕ) (rest : List ℕ) : Type 0 where
  pub before : List ℕ
  pub field : List ℕ
  pub whole : c ≡ before ++ (field ++ rest)
  pub blanks : Each Blank before
  pub number : Decimal field v
  pub parted : Parted rest

-- the line's fields have these values
abbrev pub Reads : Line → Numbers → Type 0
Reads c [] = Each Blank c
Reads c (v ∷ row) = (rest : List ℕ) × Field c v rest × Reads rest row

-- the rows of the lines that are not skipped
abbrev pub Content : List Line → List Numbers → Type 0
Content [] rows = rows ≡ []
Content (c ∷ ls) [] = Skipped c × Content ls []
Content (c ∷ ls) (row ∷ rows) = (Skipped c × Content ls (row ∷ rows)) ⊎ (¬ (Skipped c) × Reads c row × Content ls rows)

-- Rows.

-- "number, time, count of predecessors, that many predecessors"
abbrev pub task_row : ℕ → Task → Numbers
task_row t x = t ∷ x.time ∷ length x.preds ∷ x.preds

-- "task numbers .. rising", from t
abbrev pub task_rows : ℕ → List Task → List Numbers
task_rows t [] = []
task_rows t (x ∷ xs) = task_row t x ∷ task_rows (suc t) xs

-- "First line n; then n+2 lines, task numbers 0..n+1 rising .. N = n+2. Tasks 0 and n+1 are the dummies: time 0, and task 0 has
-- no predecessors."
pub record Job (rows : List Numbers) (xs : List Task) : Type 0 where
  pub n : ℕ
  pub size : length xs ≡ n + 2
  pub written : rows ≡ (n ∷ []) ∷ task_rows 0 xs
  pub first : (get_or xs 0 empty_task).time ≡ 0
  pub last : (get_or xs (n + 1) empty_task).time ≡ 0
  pub root : (get_or xs 0 empty_task).preds ≡ []

-- the lines keep the layout, with these tasks
pub record Keeps (ls : List Line) (xs : List Task) : Type 0 where
  pub rows : List Numbers
  pub content : Content ls rows
  pub job : Job rows xs

-- the text keeps the layout and spells the graph
pub record Spells (text : List ℕ) (graph : Tables) : Type 0 where
  pub lines : List Line
  pub tasks : List Task
  pub parted : Lines text lines
  pub keeps : Keeps lines tasks
  pub tables : graph ≡ tables_of tasks
