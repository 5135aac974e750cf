-- What the reader answers and writes: "In the reader: 1, text length, then line by line 13, or after it in that line 2".
use Rattle.task.specs.declared.refusal.Refusal.TheVariants.{BeyondLimit, BrokenLayout, WrongLength}
use Rattle.std.specs.Prelude.{ℕ, zero, suc, ◌+◌, Bool, true, false, cond, not, ◌&&◌, ◌||◌, List, [], ◌∷◌, ◌++◌, length, drop, eqb, leb, Err, Ok}
use Rattle.std.proofs.Math.Option.{Option, none, some}
use Rattle.task.specs.Refusals.{ReadAnswer}
use Rattle.layout.specs.Marks.{tab, lf, cr, space, hash, digit0, digit9, Line, Numbers}
use Rattle.layout.specs.Tasks.{Task, weights_of, starts_of, preds_of, edges_of}
use Rattle.layout.specs.Layout.{decimal}

-- Lines.

-- LF comes next
abbrev pub starts_lf : List ℕ → Bool
starts_lf [] = false
starts_lf (b ∷ rest) = eqb b lf

-- a byte before the lines of the rest
abbrev pub grow : ℕ → List (List ℕ) → List (List ℕ)
grow b [] = (b ∷ []) ∷ []
grow b (l ∷ ls) = (b ∷ l) ∷ ls

-- the text's lines without their ends: LF ends a line, a CR right before LF belongs to the end
unfoldable pub lines : List ℕ → List Line
lines [] = []
lines (b ∷ rest) = cond (eqb b lf) ([] ∷ lines rest) (cond (eqb b cr && starts_lf rest) (lines rest) (grow b (lines rest)))

-- Fields.

abbrev pub blank : ℕ → Bool
blank b = eqb b space || eqb b tab

abbrev pub digit : ℕ → Bool
digit b = leb digit0 b && leb b digit9

-- the line from its first mark on
unfoldable pub trim : List ℕ → List ℕ
trim [] = []
trim (b ∷ c) = cond (blank b) (trim c) (b ∷ c)

-- nothing, or a comment
abbrev pub skippable : List ℕ → Bool
skippable [] = true
skippable (b ∷ c) = eqb b hash

unfoldable pub skipped : Line → Bool
skipped c = skippable (trim c)

-- nothing, or a blank, comes next
abbrev pub parted : List ℕ → Bool
parted [] = true
parted (b ∷ c) = blank b

-- the line's fields: its runs of marks between blanks
unfoldable pub fields : List ℕ → List (List ℕ)
fields [] = []
fields (b ∷ c) = cond (blank b) (fields c) (cond (parted c) ((b ∷ []) ∷ fields c) (grow b (fields c)))

unfoldable pub digits : List ℕ → Bool
digits [] = true
digits (d ∷ f) = digit d && digits f

unfoldable pub value_of : List ℕ → Option ℕ
value_of f = cond (digits f && (leb 1 (length f) && (leb (length f) 5 && leb (decimal f) 65535))) (some (decimal f)) none

abbrev pub push : Option ℕ → Option Numbers → Option Numbers
push (some v) (some row) = some (v ∷ row)
push (some v) none = none
push none row = none

abbrev pub numbers_of : List (List ℕ) → Option Numbers
numbers_of [] = some []
numbers_of (f ∷ fs) = push (value_of f) (numbers_of fs)

-- the numbers of a line, or none where a field has no number
unfoldable pub row_of : Line → Option Numbers
row_of c = numbers_of (fields c)

-- Tasks.

abbrev pub task_if : Bool → ℕ → List ℕ → Option Task
task_if true time preds = some (record { time = time; preds = preds })
task_if false time preds = none

-- "Tasks 0 and n+1 are the dummies: time 0, and task 0 has no predecessors": of task t, the last one or not
abbrev pub dummy_fits : ℕ → Bool → ℕ → ℕ → Bool
dummy_fits t last time count = (eqb time 0 || not (eqb t 0 || last)) && (eqb count 0 || not (eqb t 0))

-- the task that a row gives where task t is due: its number is t, and as many predecessors follow as its count says
unfoldable pub task_of : ℕ → Bool → Option Numbers → Option Task
task_of t last none = none
task_of t last (some []) = none
task_of t last (some (a ∷ [])) = none
task_of t last (some (a ∷ b ∷ [])) = none
task_of t last (some (number ∷ time ∷ count ∷ preds)) =
    task_if (eqb number t && (eqb count (length preds) && dummy_fits t last time count)) time preds

-- Line by line.

-- a line that is not skipped, with its number from 1
pub record Numbered : Type 0 where
  pub line : ℕ
  pub content : Line

abbrev pub numbered : ℕ → Line → Numbered
numbered l c = record { line = l; content = c }

-- "skipped anywhere and still counted"
unfoldable pub contents : ℕ → List Line → List Numbered
contents l [] = []
contents l (c ∷ cs) = cond (skipped c) (contents (suc l) cs) (numbered l c ∷ contents (suc l) cs)

-- the tasks that the text spells, the line at which it breaks the layout, or a limit passed before that
pub data Verdict : Type 0 where
  spelled : List Task → Verdict
  broken : (line : ℕ) → Verdict
  over : Verdict

-- a task more, unless "the edges pass 8,192"
abbrev pub more : ℕ → Option Task → List Task → (List Task → Verdict) → Verdict
more l none done next = broken l
more l (some x) done next = cond (leb (edges_of (done ++ (x ∷ []))) 8192) (next (done ++ (x ∷ []))) over

-- the tasks that are left, after those that are done; "Any other line after the last task breaks the layout; a text that ends too early breaks it at
-- its count of lines plus 1"
unfoldable pub tasks_from : (end left : ℕ) → List Task → List Numbered → Verdict
tasks_from end zero done [] = spelled done
tasks_from end zero done (x ∷ later) = broken x.line
tasks_from end (suc left) done [] = broken end
tasks_from end (suc left) done (x ∷ later) =
    more x.line (task_of (length done) (eqb left 0) (row_of x.content)) done (λ xs. tasks_from end left xs later)

-- "First line n": one field; 2 "when n is over 1,022"
abbrev pub headed : (end line : ℕ) → Option Numbers → List Numbered → Verdict
headed end l (some (n ∷ [])) later = cond (leb n 1022) (tasks_from end (n + 2) [] later) over
headed end l (some []) later = broken l
headed end l (some (a ∷ b ∷ row)) later = broken l
headed end l none later = broken l

abbrev pub from_first : ℕ → List Numbered → Verdict
from_first end [] = broken end
from_first end (x ∷ later) = headed end x.line (row_of x.content) later

unfoldable pub verdict : List ℕ → Verdict
verdict text = from_first (suc (length (lines text))) (contents 1 (lines text))

-- What is left.

-- the reader's answer, weights, predecessor starts and predecessors
pub record Read : Type 0 where
  pub answer : ReadAnswer
  pub weights : List ℕ
  pub starts : List ℕ
  pub preds : List ℕ

abbrev pub read_as : ReadAnswer → List ℕ → List ℕ → List ℕ → Read
read_as a w s p = record { answer = a; weights = w; starts = s; preds = p }

-- "writes only those it needs": the words written, then the old rest
abbrev pub onto : List ℕ → List ℕ → List ℕ
onto words old = words ++ drop (length words) old

unfoldable pub laid : Verdict → List ℕ → List ℕ → List ℕ → Read
laid (spelled xs) w s p = read_as (Ok (length xs, edges_of xs)) (onto (weights_of xs) w) (onto (starts_of xs) s) (onto (preds_of xs) p)
laid (broken l) w s p = read_as (Err (BrokenLayout l)) w s p
laid over w s p = read_as (Err BeyondLimit) w s p

-- "The reader is lent 1,024, 1,025 and 8,192 words"
abbrev pub lent_fit : List ℕ → List ℕ → List ℕ → Bool
lent_fit w s p = eqb (length w) 1024 && (eqb (length s) 1025 && eqb (length p) 8192)

-- "text over 65,536 bytes"
unfoldable pub read_text : List ℕ → List ℕ → List ℕ → List ℕ → Read
read_text text w s p =
    cond (lent_fit w s p)
    (cond (leb (length text) 65536) (laid (verdict text) w s p) (read_as (Err BeyondLimit) w s p))
    (read_as (Err WrongLength) w s p)
