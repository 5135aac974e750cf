-- The published table of refusals for the reader, in terms of the layout alone; then what the reader accepts, writes and leaves, in terms of
-- its definition.
use Rattle.std.specs.Prelude.{ℕ, suc, ◌+◌, ◌≤◌, ◌<◌, ◌≡◌, ◌⊎◌, List, [], ◌∷◌, ◌++◌, length, get_or, take}
use Rattle.lists.specs.Sums.{sum_of}
use Rattle.task.specs.Refusals.{wrong_length, beyond_limit, broken_layout, graph_read, read_says}
use Rattle.task.specs.Rows.{Refusal, row, only}
use Rattle.layout.specs.Marks.{Each, Line, Numbers}
use Rattle.layout.specs.Tasks.{Task, empty_task, Tables}
use Rattle.layout.specs.Layout.{Lines, Content, Job, Spells}
use Rattle.layout.specs.Reader.{read_text}

-- some text that keeps the layout begins with these lines
pub record Begins (ls : List Line) : Type 0 where
  pub text : List ℕ
  pub graph : Tables
  pub later : List Line
  pub parted : Lines text (ls ++ later)
  pub spells : Spells text graph

-- the text, whose lines are ls, breaks the layout at line l: the lines before it begin some text that keeps the layout, with it they don't;
-- or there is no line l, and the text doesn't itself keep it
pub record Breaks (text : List ℕ) (ls : List Line) (l : ℕ) : Type 0 where
  pub before : ℕ
  pub next : l ≡ suc before
  pub begins : Begins (take before ls)
  pub breaks : ((l ≤ length ls) × ¬ (Begins (take l ls))) ⊎ ((before ≡ length ls) × ((g : Tables) → ¬ (Spells text g)))

-- "when n is over 1,022 or the edges pass 8,192": of rows, the first of them n, each other with its count of predecessors
abbrev pub Beyond : List Numbers → Type 0
Beyond [] = ⊥
Beyond (first ∷ tasks) = (1022 < get_or first 0 0) ⊎ (8192 < sum_of (λ r. get_or r 2 0) tasks)

-- the lines' rows are the first ones of some graph: lines that begin some text that keeps the layout and, where n is 65,535, lines whose rows
-- are right so far (`begins-fits`, `fits-begins` in proofs/Begins.antt)
pub record Fits (ls : List Line) : Type 0 where
  pub rows : List Numbers
  pub content : Content ls rows
  pub later : List Numbers
  pub tasks : List Task
  pub job : Job (rows ++ later) tasks

-- a limit is passed in the first l lines, and each of them is as the layout has it so far. Such lines begin some text that keeps the layout,
-- unless n is 65,535: then task 65,536 has no number, "up to 65,535", and the text is refused with 2 for its n
pub record Exceeds (ls : List Line) (l : ℕ) : Type 0 where
  pub there : l ≤ length ls
  pub fits : Fits (take l ls)
  pub beyond : Beyond fits.rows

-- "a lent length isn't the stated one": the reader "is lent 1,024, 1,025 and 8,192 words"
abbrev pub LentWrong : List ℕ → List ℕ → List ℕ → Type 0
LentWrong w s p = ¬ (length w ≡ 1024) ⊎ (¬ (length s ≡ 1025) ⊎ ¬ (length p ≡ 8192))

-- "In the reader: 1, text length, then line by line 13, or after it in that line 2". A line that breaks the layout exceeds no limit, so 13 comes
-- before 2 in one line; both hold only of n 65,535, which is 2
abbrev pub reader_rows : (text : List ℕ) → List Line → List ℕ → List ℕ → List ℕ → List Refusal
reader_rows text ls w s p =
    row wrong_length (only 0 (LentWrong w s p))
    ∷ row beyond_limit (only 0 (65536 < length text))
    ∷ row broken_layout (λ l. Breaks text ls l × ((k : ℕ) → k ≤ l → ¬ (Exceeds ls k)))
    ∷ row beyond_limit (only 0 ((l : ℕ) × Exceeds ls l))
    ∷ []

-- the lent lists have the stated lengths, and the text is not too long
pub record Lent (text w s p : List ℕ) : Type 0 where
  pub weights : length w ≡ 1024
  pub starts : length s ≡ 1025
  pub preds : length p ≡ 8192
  pub short : length text ≤ 65536

-- "N at most 1,024. E edges, at most 8,192."
abbrev pub Within : Tables → Type 0
Within g = (length g.weights ≤ 1024) × (length g.preds ≤ 8192)

-- "writes only those it needs": the words, and then what stood there
pub record Written (words old new : List ℕ) : Type 0 where
  pub size : length new ≡ length old
  pub front : (i : ℕ) → i < length words → get_or new i 0 ≡ get_or words i 0
  pub rest : (i : ℕ) → length words ≤ i → get_or new i 0 ≡ get_or old i 0

-- the reader accepts the text with the graph: "the reader N and E", and its tables are written, N+1 starts among them
pub record Accepts (text w s p : List ℕ) (g : Tables) : Type 0 where
  pub says : read_says (read_text text w s p).answer ≡ graph_read (length g.weights) (length g.preds)
  pub starts-count : length g.starts ≡ suc (length g.weights)
  pub weights : Written g.weights w (read_text text w s p).weights
  pub starts : Written g.starts s (read_text text w s p).starts
  pub preds : Written g.preds p (read_text text w s p).preds

-- "all lent memory keeps its words"
pub record Leaves (text w s p : List ℕ) : Type 0 where
  pub weights : (read_text text w s p).weights ≡ w
  pub starts : (read_text text w s p).starts ≡ s
  pub preds : (read_text text w s p).preds ≡ p

-- the tasks can be written as a text: n+2 of them with the dummies, every number "up to 65,535", the last task's own among them
pub record Writable (n : ℕ) (xs : List Task) : Type 0 where
  pub size : length xs ≡ n + 2
  pub last-number : n + 1 ≤ 65535
  pub first : (get_or xs 0 empty_task).time ≡ 0
  pub last : (get_or xs (n + 1) empty_task).time ≡ 0
  pub root : (get_or xs 0 empty_task).preds ≡ []
  pub times : Each (λ x. x.time ≤ 65535) xs
  pub counts : Each (λ x. length x.preds ≤ 65535) xs
  pub preds : Each (λ x. Each (λ v. v ≤ 65535) x.preds) xs
