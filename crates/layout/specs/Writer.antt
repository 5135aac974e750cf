-- "Save the job as a task text": what the writer answers and leaves. "It checks as begin does up to cycles first. Refused: 14, after 5, ..; a
-- buffer too small is 1, last of all."
use Rattle.task.specs.declared.refusal.Refusal.TheVariants as why
use Rattle.std.specs.Prelude.{ℕ, ◌-◌, ◌<◌, ◌≤◌, ◌≡◌, Bool, true, not, ◌&&◌, ◌⊎◌, List, [], ◌∷◌, ◌++◌, length, get_or, take, drop, ltb, leb, eqb, Err, Ok}
use Rattle.task.specs.Types.{engine}
use Rattle.task.specs.Refusals.{wrong_length, no_dummies, refused_if, and_then, Answer, WriteAnswer}
use Rattle.task.specs.Rows.{Refusal, row, only}
use Rattle.graph.specs.Graph.{graph_of, Edge}
use Rattle.graph.specs.Check.{check_answer}
use Rattle.graph.specs.Tables.{check_rows}
use Rattle.layout.specs.Tasks.{tables}
use Rattle.layout.specs.Layout.{Spells}
use Rattle.layout.specs.Reader.{onto}
use Rattle.layout.specs.Plain.{Plain, text_of}

-- 14, turned round, on tables that 3 has passed: start 1 is 0 where task 0 has no predecessors
unfoldable pub dummies_fit : (weights starts : List ℕ) → Bool
dummies_fit w s = leb 2 (length w) && (eqb (get_or w 0 0) 0 && (eqb (get_or s 1 0) 0 && eqb (get_or w (length w - 1) 0) 0))

-- of a buffer with room for so many bytes
unfoldable pub write_answer : (weights starts preds : List ℕ) → (room : ℕ) → Answer
write_answer w s p room =
    and_then (check_answer engine true true w s p)
    (refused_if (not (dummies_fit w s)) why.NoDummies
    (refused_if (ltb room (length (text_of (tables w s p)))) why.WrongLength
    (Ok tt)))

-- the writer's answer and the buffer
pub record Saved : Type 0 where
  pub answer : WriteAnswer
  pub text : List ℕ

abbrev pub saved_as : WriteAnswer → List ℕ → Saved
saved_as a t = record { answer = a; text = t }

-- "says how many bytes it used; bytes beyond stay"
abbrev pub saved : Answer → (bytes old : List ℕ) → Saved
saved (Err why) bytes old = saved_as (Err why) old
saved (Ok u) bytes old = saved_as (Ok (length bytes)) (onto bytes old)

unfoldable pub write_text : (weights starts preds text : List ℕ) → Saved
write_text w s p text = saved (write_answer w s p (length text)) (text_of (tables w s p)) text

-- The published table for the writer.

-- "when N is under 2, task 0 has weight or predecessors, or the last task has weight"
abbrev pub NoDummies : (weights starts preds : List ℕ) → Type 0
NoDummies w s p =
    (length w < 2)
    ⊎ (¬ (◌≡◌ {A = ℕ} (get_or w 0 0) 0)
    ⊎ (((u : ℕ) × Edge (graph_of (length w) s p) u 0)
    ⊎ ¬ (◌≡◌ {A = ℕ} (get_or w (length w - 1) 0) 0)))

-- "a buffer too small": some text of the form named spells the tables, and the buffer hasn't its length (one text alone does so, `plain-one`)
pub record TooSmall (weights starts preds text : List ℕ) : Type 0 where
  pub bytes : List ℕ
  pub plain : Plain bytes
  pub spells : Spells bytes (tables weights starts preds)
  pub short : length text < length bytes

-- 2, 1, 3, 4, 5 as in begin's check, with no other number and no other list than these three; then 14, then 1
abbrev pub writer_rows : (weights starts preds text : List ℕ) → List Refusal
writer_rows w s p text =
    check_rows engine ⊥ ⊥ w s p
    ++ (row no_dummies (only 0 (NoDummies w s p)) ∷ row wrong_length (only 0 (TooSmall w s p text)) ∷ [])

-- no text is longer: the first line, N lines of at most 16 bytes beside their predecessors, E predecessors of at most 5
abbrev pub most_written : ℕ
most_written = 57349

-- What an accepted call leaves: the first b bytes are the text, of the form named, short enough for the reader, and it spells the tables.
pub record Writes (weights starts preds text : List ℕ) (b : ℕ) : Type 0 where
  pub room : b ≤ length text
  pub used : take b (write_text weights starts preds text).text ≡ text_of (tables weights starts preds)
  -- "bytes beyond stay"
  pub size : length (write_text weights starts preds text).text ≡ length text
  pub beyond : drop b (write_text weights starts preds text).text ≡ drop b text
  pub plain : Plain (text_of (tables weights starts preds))
  pub spells : Spells (text_of (tables weights starts preds)) (tables weights starts preds)
  pub short : b ≤ most_written
