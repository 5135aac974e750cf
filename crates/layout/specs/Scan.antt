-- A text from a place on, as the reader's functions see it: the line that stands there, the text after that line's end, and the numbers of
-- the line.
use Rattle.task.specs.declared.refusal.Refusal.TheVariants.{BeyondLimit, BrokenLayout}
use Rattle.std.specs.Prelude.{ℕ, suc, ◌+◌, ◌≤◌, ◌<◌, ◌≡◌, Bool, true, false, cond, ◌&&◌, ◌||◌, List, [], ◌∷◌, ◌++◌, length, take, drop, eqb, Err, Ok}
use Rattle.std.proofs.Math.Option.{Option, none, some}
use Rattle.task.specs.Refusals.{ReadAnswer}
use Rattle.layout.specs.Marks.{lf, cr, Line, Numbers}
use Rattle.layout.specs.Tasks.{Task, weights_of, starts_of, preds_of, edges_of}
use Rattle.layout.specs.Reader.{starts_lf, lines, blank, trim, row_of, dummy_fits, task_of, numbered, contents, Verdict, spelled, broken, over, tasks_from}

-- the text's first line, and the text after its end
unfoldable pub line_of : List ℕ → List ℕ
line_of [] = []
line_of (b ∷ rest) = cond (eqb b lf || (eqb b cr && starts_lf rest)) [] (b ∷ line_of rest)

unfoldable pub after_line : List ℕ → List ℕ
after_line [] = []
after_line (b ∷ rest) = cond (eqb b lf) rest (after_line rest)

-- of the line that stands at a place: itself, its numbers, and the text after it
abbrev pub line_at : List ℕ → ℕ → List ℕ
line_at text at = line_of (drop at text)

abbrev pub row_at : List ℕ → ℕ → Option Numbers
row_at text at = row_of (line_at text at)

abbrev pub rest_at : List ℕ → ℕ → List ℕ
rest_at text at = after_line (drop at text)

-- numbers before the numbers of a line
abbrev pub prepend : List ℕ → Option Numbers → Option Numbers
prepend vs none = none
prepend vs (some row) = some (vs ++ row)

-- no number comes next: the line ends, or has a field that is no number
abbrev pub NoField : Option Numbers → Type 0
NoField r = (v : ℕ) (row : Numbers) → ¬ (r ≡ some (v ∷ row))

-- What the reader's functions find at a place.

-- the line starts with no blank
abbrev pub Marked : List ℕ → Type 0
Marked [] = Unit {0}
Marked (b ∷ c) = blank b ≡ false

-- a later place in the same line, with only blanks between the two
pub record Trimmed (text : List ℕ) (at place : ℕ) : Type 0 where
  pub onward : at ≤ place
  pub inside : place ≤ length text
  pub line : line_at text place ≡ trim (line_at text at)
  pub rest : rest_at text place ≡ rest_at text at

-- the place after the line
pub record NextLine (text : List ℕ) (at place : ℕ) : Type 0 where
  pub inside : place ≤ length text
  pub rest : drop place text ≡ rest_at text at

-- the line ends at the place, and the next one starts at next; or something stands there
pub data EndsAt (text : List ℕ) (at : ℕ) (closed : Bool) (next : ℕ) : Type 0 where
  ends : closed ≡ true → line_at text at ≡ [] → NextLine text at next → EndsAt text at closed next
  goes_on : closed ≡ false → ¬ (line_at text at ≡ []) → EndsAt text at closed next

-- only blanks are left in the line, and the next one starts at next; or something stands there
pub data Closes (text : List ℕ) (at : ℕ) (closed : Bool) (next : ℕ) : Type 0 where
  closes : closed ≡ true → row_at text at ≡ some [] → NextLine text at next → Closes text at closed next
  stays_open : closed ≡ false → ¬ (row_at text at ≡ some []) → Closes text at closed next

-- numbers of the line, from one place to another
pub record NumbersAt (text : List ℕ) (at : ℕ) (vs : List ℕ) (next : ℕ) : Type 0 where
  pub inside : next ≤ length text
  pub row : row_at text at ≡ prepend vs (row_at text next)
  pub rest : rest_at text next ≡ rest_at text at

-- the line's next number, and the place after it; a value over 65,535 where there is none
pub data Found (text : List ℕ) (at value next : ℕ) : Type 0 where
  found : value ≤ 65535 → NumbersAt text at (value ∷ []) next → Found text at value next
  missing : 65535 < value → NoField (row_at text at) → Found text at value next

-- the next line that is not skipped: its number, and the place of its first mark; the text's length where there is none
pub data NextContent (text : List ℕ) (at line : ℕ) (place number : ℕ) : Type 0 where
  content : (c : Line) → place < length text → number ≤ suc place → row_of c ≡ row_at text place
      → contents line (lines (drop at text)) ≡ numbered number c ∷ contents (suc number) (lines (rest_at text place))
      → line + length (lines (drop at text)) ≡ suc number + length (lines (rest_at text place)) → NextContent text at line place number
  no-content : place ≡ length text → number ≤ suc place → contents line (lines (drop at text)) ≡ []
      → line + length (lines (drop at text)) ≡ number → NextContent text at line place number

-- numbers of the line, from one place to another, stand in the words from e up to k, as far as there is room
pub record Filling (text : List ℕ) (at e : ℕ) (words : List ℕ) (next k : ℕ) (new : List ℕ) : Type 0 where
  pub values : List ℕ
  pub counted : e + length values ≡ k
  pub numbers : NumbersAt text at values next
  pub room : length new ≡ 8193
  pub taken : k ≤ 8192 → take k new ≡ take e words ++ values

-- count numbers of the line stand there; or the line has fewer
pub data Filled (text : List ℕ) (at count e : ℕ) (full : Bool) (next : ℕ) (words new : List ℕ) : Type 0 where
  filled : full ≡ true → Filling text at e words next (e + count) new → Filled text at count e full next words new
  too_few : full ≡ false → ((us : List ℕ) (row : Numbers) → length us ≡ count → ¬ (row_at text at ≡ some (us ++ row)))
      → Filled text at count e full next words new

-- the first three numbers of task t's line, with what makes them fit
pub record Head (text : List ℕ) (at t : ℕ) (last : Bool) (time count next : ℕ) : Type 0 where
  pub few : count ≤ 65535
  pub fits : dummy_fits t last time count ≡ true
  pub numbers : NumbersAt text at (t ∷ time ∷ count ∷ []) next

-- they are found; or the line gives no such task
pub data HeadFound (text : List ℕ) (at t : ℕ) (last fits : Bool) (time count next : ℕ) : Type 0 where
  head : fits ≡ true → Head text at t last time count next → HeadFound text at t last fits time count next
  no-head : fits ≡ false → task_of t last (row_at text at) ≡ none → HeadFound text at t last fits time count next

-- the first line that is not skipped: n + 2 tasks and the place of the next line, or 0 tasks where the line isn't n alone
pub data FirstFound (text : List ℕ) (at tasks next : ℕ) : Type 0 where
  first : (n : ℕ) → tasks ≡ n + 2 → n ≤ 65535 → row_at text at ≡ some (n ∷ []) → NextLine text at next → FirstFound text at tasks next
  not_first : tasks ≡ 0 → ((n : ℕ) → ¬ (row_at text at ≡ some (n ∷ []))) → FirstFound text at tasks next

-- the verdict over what is left of the text, from line l on, where m tasks are due after those that are done
abbrev pub due_from : List ℕ → (l m : ℕ) → List Task → Verdict
due_from rest l m done = tasks_from (l + length (lines rest)) m done (contents l (lines rest))

-- an answer and three lists as a verdict has them: the lists start with the tables
pub record TablesIn (xs : List Task) (w s p : List ℕ) : Type 0 where
  pub few : length xs ≤ 1024
  pub edges : edges_of xs ≤ 8192
  pub weights : take (length xs) w ≡ weights_of xs
  pub starts : take (length xs + 1) s ≡ starts_of xs
  pub preds : take (edges_of xs) p ≡ preds_of xs
  pub room-w : length w ≡ 1024
  pub room-s : length s ≡ 1025
  pub room-p : length p ≡ 8193

pub data Outcome (v : Verdict) (r : ReadAnswer) (w s p : List ℕ) : Type 0 where
  tasks-read : (xs : List Task) → v ≡ spelled xs → r ≡ Ok (length xs, edges_of xs) → TablesIn xs w s p → Outcome v r w s p
  line-broken : (l : ℕ) → v ≡ broken l → r ≡ Err (BrokenLayout l) → Outcome v r w s p
  limit-passed : v ≡ over → r ≡ Err BeyondLimit → Outcome v r w s p

-- how many words of each list an answer writes: none where the text is refused
abbrev pub weight_count : ReadAnswer → ℕ
weight_count (Err why) = 0
weight_count (Ok (n, e)) = n

abbrev pub start_count : ReadAnswer → ℕ
start_count (Err why) = 0
start_count (Ok (n, e)) = n + 1

abbrev pub pred_count : ReadAnswer → ℕ
pred_count (Err why) = 0
pred_count (Ok (n, e)) = e
