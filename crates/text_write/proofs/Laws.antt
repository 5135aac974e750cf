-- Laws over plain lists that the functions' proofs cite.
use Prim.Native.Nat.{ℕ, suc, ◌+◌, ◌-◌, ◌≤◌, ◌<◌}
use mathlib.Core.Path.{◌≡◌, refl, sym, ap, ◌∙◌}
use mathlib.Core.Bool.{Bool, true, false, not, ◌&&◌}
use mathlib.Core.List.{List, [], ◌∷◌, ◌++◌, append_assoc}
use native.Mathlib.Omega.{arith}
use native.Mathlib.Numerals.{add-one}
use borrow.Author.Tests.{leb-true, lt-ltb, le-ltb, le-leb, lt-leb, not-false}
use lib.Dec.{leb, eqb}
use lib.ListN.{length, get_or, drop, length-append, take-append-drop}
use lib.Seq.{drop-cons, drop-length}
use Rattle.std.specs.Prelude.{Err, Ok}
use Rattle.task.specs.declared.refusal.Refusal.{Refusal}
use Rattle.task.specs.declared.refusal.Refusal.TheVariants.{NoDummies, WrongLength}
use Rattle.lists.specs.Sums.{sum_to}
use Rattle.lists.proofs.Sums.{sum-suc}
use Rattle.lists.proofs.Told.{and-true}
use Rattle.task.specs.Types.{engine}
use Rattle.task.specs.Refusals.{answer_says, Answer}
use Rattle.graph.specs.Graph.{part, graph_of}
use Rattle.graph.specs.Conditions.{Sound, GraphFits}
use Rattle.graph.specs.Check.{check_answer}
use Rattle.graph.proofs.Accepted.{graph-accepted-iff, fits-sound}
use Rattle.layout.specs.Marks.{lf, space, Numbers}
use Rattle.layout.specs.Digits.{digits_of}
use Rattle.layout.specs.Tasks.{task, tables}
use Rattle.layout.specs.Layout.{task_row, task_rows}
use Rattle.layout.specs.Plain.{spaced, line_text, rows_text, tasks_at, text_of, line_size}
use Rattle.layout.specs.Writer.{dummies_fit, write_answer, saved_as, write_text}
use Rattle.layout.proofs.Sizes.{text-short}
use Rattle.text_put.specs.Appending.{Appends}
use Rattle.text_put.proofs.Laws.{appends-then, Underway, piece-room, next-piece, all_done}

-- The dummies.
module _ (w s : List ℕ) where
  pub few-tasks : length w < 2 → false ≡ dummies_fit w s
  unfolding dummies_fit
  few-tasks h = rw (lt-leb 2 (length w) h)

  pub dummies-tested : 2 ≤ length w → (eqb (get_or w 0 0) 0 && (eqb (get_or s 1 0) 0 && eqb (get_or w (length w - 1) 0) 0)) ≡ dummies_fit w s
  unfolding dummies_fit
  dummies-tested h = rw (le-leb 2 (length w) h)

  pub two-tasks : {b : Bool} → b ≡ dummies_fit w s → not b ≡ false → 2 ≤ length w
  unfolding dummies_fit
  two-tasks {b} e h = leb-true 2 (length w) (and-true (leb 2 (length w)) _ (sym e ∙ not-false b h)).0

-- The measures.
pub no_lines : (w s : List ℕ) → ◌≡◌ {A = ℕ} 0 (sum_to 0 (line_size w s))
unfolding sum_to
no_lines w s = refl

pub next-line : (w s : List ℕ) (t : ℕ) {size number time count : ℕ} → size ≡ sum_to t (line_size w s)
    → number ≡ length (digits_of t) → time ≡ length (digits_of (get_or w t 0)) → count ≡ length (digits_of (get_or s (t + 1) 0 - get_or s t 0))
    → size + (number + time + count + 3) ≡ sum_to (t + 1) (line_size w s)
unfolding line_size
next-line w s t e n m c = omega (arith, e, n, m, c, sum-suc t (line_size w s), ap (λ (k : ℕ). sum_to k (line_size w s)) (add-one t))

-- Numbers put with a space before each, i of them done.
module _ (at : ℕ) (numbers before : List ℕ) where
  abbrev pub Spacing : ℕ → List ℕ → ℕ → Type 0
  Spacing = Underway (spaced numbers) (λ k. spaced (drop k numbers)) at before

  module _ (i : ℕ) (out : List ℕ) (end : ℕ) (u : Underway (spaced numbers) (λ k. spaced (drop k numbers)) at before i out end) where
    due : i < length numbers → spaced (drop i numbers) ≡ (space ∷ digits_of (get_or numbers i 0)) ++ spaced (drop (i + 1) numbers)
    unfolding spaced
    due h = ap spaced (drop-cons numbers i 0 h ∙ ap (λ (k : ℕ). get_or numbers i 0 ∷ drop k numbers) (sym (add-one i)))

    pub space-room : i < length numbers → at + length (spaced numbers) ≤ length before
        → end + length (space ∷ digits_of (get_or numbers i 0)) ≤ length out
    space-room h = piece-room _ _ _ _ _ _ _ u (space ∷ digits_of (get_or numbers i 0)) (i + 1) (due h)

    pub next-spaced : (new : List ℕ) (r : ℕ) → i < length numbers → Appends end (space ∷ digits_of (get_or numbers i 0)) out new r → Spacing (i + 1) new r
    next-spaced new r h = next-piece _ _ _ _ _ _ _ u (space ∷ digits_of (get_or numbers i 0)) (i + 1) (due h) new r

    pub all-spaced : i ≡ length numbers → Appends at (spaced numbers) before out end
    unfolding spaced
    all-spaced h =
        let none : drop i numbers ≡ [] = rw h (drop-length numbers) in
        all_done _ _ _ _ _ _ _ u (ap spaced none)

-- A task's line: its number, its time, the count, the predecessors, LF.
module _ (t time : ℕ) (preds : Numbers) where
  abbrev line_parts : List ℕ
  line_parts = digits_of t ++ ((space ∷ digits_of time) ++ ((space ∷ digits_of (length preds)) ++ (spaced preds ++ (lf ∷ []))))

  line-parts : line_parts ≡ line_text (task_row t (task time preds))
  unfolding line_text spaced
  line-parts =
      ap (λ (l : List ℕ). digits_of t ++ l)
      (sym (append_assoc (space ∷ digits_of time) ((space ∷ digits_of (length preds)) ++ spaced preds) (lf ∷ [])
      ∙ ap (λ (l : List ℕ). (space ∷ digits_of time) ++ l) (append_assoc (space ∷ digits_of (length preds)) (spaced preds) (lf ∷ []))))

  -- each of them has room where the line has
  pub record LineRoom (at room : ℕ) : Type 0 where
    pub first : at + length (digits_of t) ≤ room
    pub second : at + length (digits_of t) + length (space ∷ digits_of time) ≤ room
    pub third : at + length (digits_of t) + length (space ∷ digits_of time) + length (space ∷ digits_of (length preds)) ≤ room
    pub behind : at + length (digits_of t) + length (space ∷ digits_of time) + length (space ∷ digits_of (length preds)) + length (spaced preds) < room

  pub line-room : {at room : ℕ} → at + length (line_text (task_row t (task time preds))) ≤ room → LineRoom at room
  line-room h =
      let size : length (line_text (task_row t (task time preds)))
      ≡ length (digits_of t) + (length (space ∷ digits_of time) + (length (space ∷ digits_of (length preds)) + (length (spaced preds) + 1))) =
      omega (
        arith,
        ap length line-parts,
        length-append (digits_of t) ((space ∷ digits_of time) ++ ((space ∷ digits_of (length preds)) ++ (spaced preds ++ (lf ∷ [])))),
        length-append (space ∷ digits_of time) ((space ∷ digits_of (length preds)) ++ (spaced preds ++ (lf ∷ []))),
        length-append (space ∷ digits_of (length preds)) (spaced preds ++ (lf ∷ [])),
        length-append (spaced preds) (lf ∷ []),
      ) in
      record {
        first = omega (arith, h, size);
        second = omega (arith, h, size);
        third = omega (arith, h, size);
        behind = omega (arith, h, size);
      }

  pub line-put : {at numbered timed counted ended end : ℕ} {before one two three four after : List ℕ}
      → Appends at (digits_of t) before one numbered → Appends numbered (space ∷ digits_of time) one two timed
      → Appends timed (space ∷ digits_of (length preds)) two three counted → Appends counted (spaced preds) three four ended
      → Appends ended (lf ∷ []) four after end → Appends at (line_text (task_row t (task time preds))) before after end
  line-put n m c p e = rw (← line-parts) (appends-then n (appends-then m (appends-then c (appends-then p e))))

-- The lines of the tasks put, t of them done.
module _ (at : ℕ) (w s p before : List ℕ) where
  abbrev pub lines_from : ℕ → List ℕ
  lines_from t = rows_text (task_rows t (tasks_at (tables w s p) (length w - t) t))

  abbrev pub TasksPut : ℕ → List ℕ → ℕ → Type 0
  TasksPut = Underway (rows_text (task_rows 0 (tasks_at (tables w s p) (length w) 0))) lines_from at before

  module _ (t : ℕ) (out : List ℕ) (end : ℕ) (u : TasksPut t out end) where
    abbrev line_at : List ℕ
    line_at = line_text (task_row t (task (get_or w t 0) (part s p t)))

    line-due : t < length w → lines_from t ≡ line_at ++ lines_from (t + 1)
    unfolding rows_text tasks_at
    line-due h =
        let left : length w - t ≡ suc (length w - (t + 1)) = omega (arith, h) in
        ap (λ (k : ℕ). rows_text (task_rows t (tasks_at (tables w s p) k t))) left
        ∙ ap (λ (k : ℕ). line_at ++ rows_text (task_rows k (tasks_at (tables w s p) (length w - (t + 1)) k))) (sym (add-one t))

    pub task-room : t < length w → at + length (rows_text (task_rows 0 (tasks_at (tables w s p) (length w) 0))) ≤ length before
        → end + length line_at ≤ length out
    task-room h = piece-room _ _ _ _ _ _ _ u line_at (t + 1) (line-due h)

    pub next-task : (new : List ℕ) (r : ℕ) → t < length w → Appends end line_at out new r → TasksPut (t + 1) new r
    next-task new r h = next-piece _ _ _ _ _ _ _ u line_at (t + 1) (line-due h) new r

    pub all-tasks : t ≡ length w → Appends at (rows_text (task_rows 0 (tasks_at (tables w s p) (length w) 0))) before out end
    unfolding rows_text tasks_at
    all-tasks h =
        let none : length w - t ≡ 0 = omega (arith, h) in
        all_done _ _ _ _ _ _ _ u (ap (λ (k : ℕ). rows_text (task_rows t (tasks_at (tables w s p) k t))) none)

-- The text: its first line, and the lines of its tasks.
module _ (w s p : List ℕ) where
  -- each of them has room where the text has
  pub record TextRoom (room : ℕ) : Type 0 where
    pub first : length (digits_of (length w - 2)) < room
    pub lines : length (digits_of (length w - 2)) + 1 + length (rows_text (task_rows 0 (tasks_at (tables w s p) (length w) 0))) ≤ room

  pub text-room : {room : ℕ} → length (text_of (tables w s p)) ≤ room → TextRoom room
  unfolding text_of rows_text line_text spaced
  text-room h =
      let size : length (text_of (tables w s p)) ≡ length (digits_of (length w - 2)) + 1 + length (rows_text (task_rows 0 (tasks_at (tables w s p) (length w) 0))) =
      omega (
        arith,
        length-append (digits_of (length w - 2) ++ (lf ∷ [])) (rows_text (task_rows 0 (tasks_at (tables w s p) (length w) 0))),
        length-append (digits_of (length w - 2)) (lf ∷ []),
      ) in
      record { first = omega (arith, h, size); lines = omega (arith, h, size) }

  pub text-put : {at numbered next end : ℕ} {before one two after : List ℕ} → Appends at (digits_of (length w - 2)) before one numbered
      → Appends numbered (lf ∷ []) one two next
      → Appends next (rows_text (task_rows 0 (tasks_at (tables w s p) (length w) 0))) two after end
      → Appends at (text_of (tables w s p)) before after end
  unfolding text_of rows_text line_text spaced
  text-put n e r = appends-then (appends-then n e) r

-- The answers: refused, and the buffer stays; accepted, and what the check has shown lets the text be written.
module _ (w s p : List ℕ) (a : Answer) (ha : a ≡ check_answer engine true true w s p) where
  pub write-refused : (text : List ℕ) (why : Refusal) → a ≡ Err why → saved_as (Err why) text ≡ write_text w s p text
  unfolding write_text write_answer
  write-refused text why e = rw (← ha, e)

  module _ (e : a ≡ Ok tt) where
    fits : GraphFits engine w s p
    fits = (graph-accepted-iff engine w s p).0 (ap answer_says (sym ha ∙ e))

    pub write-sound : Sound (graph_of (length w) s p)
    write-sound = fits-sound fits

    -- the text's length is a word
    pub write_word : {text out : List ℕ} {used : ℕ} → Appends 0 (text_of (tables w s p)) text out used → used ≤ 57349
    write_word q = omega (arith, q.end, text-short w s p write-sound fits.light)

    module _ (b : Bool) (hb : b ≡ dummies_fit w s) where
      pub write-dummies : (text : List ℕ) → not b ≡ true → saved_as (Err NoDummies) text ≡ write_text w s p text
      unfolding write_text write_answer
      write-dummies text h = rw (← ha, e, ← hb, h)

      module _ (hn : not b ≡ false) (text : List ℕ) where
        pub write-small : length text < length (text_of (tables w s p)) → saved_as (Err WrongLength) text ≡ write_text w s p text
        unfolding write_text write_answer
        write-small h = rw (← ha, e, ← hb, hn, lt-ltb (length text) (length (text_of (tables w s p))) h)

        pub write-whole : (out : List ℕ) (used : ℕ) → length (text_of (tables w s p)) ≤ length text → Appends 0 (text_of (tables w s p)) text out used
            → saved_as (Ok used) out ≡ write_text w s p text
        unfolding write_text write_answer
        write-whole out used h q =
            let size : used ≡ length (text_of (tables w s p)) = omega (arith, q.end) in
            let whole : out ≡ text_of (tables w s p) ++ drop (length (text_of (tables w s p))) text =
            sym (take-append-drop used out) ∙ rw (q.text, q.rest, size) in
            rw (← ha, e, ← hb, hn, le-ltb (length text) (length (text_of (tables w s p))) h, size, whole)
