-- Laws over plain lists and numbers that the functions on rows cite, and what rows that are read say of their words.
use Prim.Native.Nat.{ℕ, zero, suc, ◌≤◌, ◌<◌}
use mathlib.Core.Path.{◌≡◌, refl, ap, ◌∙◌}
use mathlib.Core.List.{List, [], ◌∷◌, ◌++◌}
use native.Mathlib.Omega.{arith}
use lib.ListN.{length, get_or, set, take, drop, replicate}
use lib.Seq.{length-take-le, get_or-set_same, set-set, ext_get_or}
use Rattle.weak_task.specs.Types.{idle}
use Rattle.weak_task.specs.Rows.{with_hand, with_pointer}
use Rattle.weak_task.specs.declared.TaskCopy.{TaskCopy}
use Rattle.weak_task.specs.declared.WeakRow.{WeakRow}
use Rattle.weak_rows.specs.Rows.{row_of, rows_of, with_phase, with_write, with_next, with_cursor, changed, cleared_rows}
use Rattle.weak_rows.proofs.Cells.{CellsOf, read_at, read_set, length-read, read-filled, read-words}

pub length-rows : (l : List (List ℕ)) → length (rows_of l) ≡ length l
length-rows l = length-read row_of l

pub rows_at : (l : List (List ℕ)) (i : ℕ) (d : List ℕ) (r : WeakRow) → i < length l → r ≡ row_of (get_or l i d) → r ≡ get_or (rows_of l) i idle
rows_at l i d r h e = read_at row_of l i d idle r h e

pub rows-changed : (f : WeakRow → WeakRow) (l : List (List ℕ)) (i : ℕ) (d a : List ℕ) → i < length l → row_of a ≡ f (row_of (get_or l i d))
    → rows_of (set l i a) ≡ changed f i (rows_of l)
unfolding changed
rows-changed f l i d a h e = rw (read_set row_of l i a, e, rows_at l i d (row_of (get_or l i d)) h refl) refl

-- words stored in a row of seven: what holds of seven words in a list holds of any seven
seven-words : (Q : List ℕ → Type 0) → ((a b c d e f g : ℕ) (l : List ℕ) → Q (a ∷ b ∷ c ∷ d ∷ e ∷ f ∷ g ∷ l)) → (cells : List ℕ) → length cells ≡ 7 → Q cells
seven-words Q q [] h = absurd (omega arith)
seven-words Q q (a ∷ []) h = absurd (omega arith)
seven-words Q q (a ∷ b ∷ []) h = absurd (omega arith)
seven-words Q q (a ∷ b ∷ c ∷ []) h = absurd (omega arith)
seven-words Q q (a ∷ b ∷ c ∷ d ∷ []) h = absurd (omega arith)
seven-words Q q (a ∷ b ∷ c ∷ d ∷ e ∷ []) h = absurd (omega arith)
seven-words Q q (a ∷ b ∷ c ∷ d ∷ e ∷ f ∷ []) h = absurd (omega arith)
seven-words Q q (a ∷ b ∷ c ∷ d ∷ e ∷ f ∷ g ∷ l) h = q a b c d e f g l

module _ (cells : List ℕ) (h : length cells ≡ 7) where
  pub phase-put : (phase : ℕ) → row_of (set cells 0 phase) ≡ with_phase phase (row_of cells)
  phase-put phase = seven-words (λ l. row_of (set l 0 phase) ≡ with_phase phase (row_of l)) (λ a b c d e f g l. refl) cells h

  pub hand-put : (phase : ℕ) (held : TaskCopy)
      → row_of (set (set (set cells 0 phase) 1 held.task.0) 2 held.predecessor.0) ≡ with_hand phase held (row_of cells)
  hand-put phase held =
      seven-words (λ l. row_of (set (set (set l 0 phase) 1 held.task.0) 2 held.predecessor.0) ≡ with_hand phase held (row_of l))
      (λ a b c d e f g l. refl) cells h

  pub pointer-put : (pointer : ℕ) → row_of (set cells 3 pointer) ≡ with_pointer pointer (row_of cells)
  pointer-put pointer = seven-words (λ l. row_of (set l 3 pointer) ≡ with_pointer pointer (row_of l)) (λ a b c d e f g l. refl) cells h

  pub write-put : (write : ℕ) → row_of (set cells 5 write) ≡ with_write write (row_of cells)
  write-put write = seven-words (λ l. row_of (set l 5 write) ≡ with_write write (row_of l)) (λ a b c d e f g l. refl) cells h

  pub next-put : (read cursor : ℕ) → row_of (set (set cells 4 read) 6 cursor) ≡ with_next read cursor (row_of cells)
  next-put read cursor = seven-words (λ l. row_of (set (set l 4 read) 6 cursor) ≡ with_next read cursor (row_of l)) (λ a b c d e f g l. refl) cells h

  pub cursor-put : (cursor : ℕ) → row_of (set cells 6 cursor) ≡ with_cursor cursor (row_of cells)
  cursor-put cursor = seven-words (λ l. row_of (set l 6 cursor) ≡ with_cursor cursor (row_of l)) (λ a b c d e f g l. refl) cells h

-- one part changed, and two, one after the other
module _ (rows : List WeakRow) (i : ℕ) (row : WeakRow) (h : row ≡ get_or rows i idle) (f g : WeakRow → WeakRow) (after : WeakRow) where
  pub one-changed : after ≡ f row → changed f i rows ≡ set rows i after
  unfolding changed
  one-changed e = rw (e, h) refl

  pub two-changed : i < length rows → after ≡ g (f row) → changed g i (changed f i rows) ≡ set rows i after
  unfolding changed
  two-changed l e =
      rw (e, h, get_or-set_same rows i (f (get_or rows i idle)) idle l) (set-set rows i (f (get_or rows i idle)) (g (f (get_or rows i idle))))

-- the first n cells read as an idle worker's row
pub words-filled : (l : List (List ℕ)) (n : ℕ) (a : List ℕ) → n ≤ length l → row_of a ≡ idle → (front : List (List ℕ))
    → front ≡ replicate (length (take n l)) a → rows_of (front ++ drop n l) ≡ cleared_rows n (rows_of l)
unfolding cleared_rows
words-filled l n a h r front e =
    rw (e, length-take-le n l h) (read-filled row_of l n a h ∙ ap (λ (x : WeakRow). replicate n x ++ drop n (rows_of l)) r)

-- seven words are determined by the row they are read as
row_words : (a b : List ℕ) → length a ≡ 7 → length b ≡ 7 → row_of a ≡ row_of b → a ≡ b
row_words a b ha hb e = ext_get_or 0 a b (omega (arith, ha, hb)) (λ i h. at i (omega (arith, ha, h)))
  where
    at : (i : ℕ) → i < 7 → get_or a i 0 ≡ get_or b i 0
    at zero h = ap (λ (r : WeakRow). r.phase) e
    at (suc zero) h = ap (λ (r : WeakRow). r.held.task.0) e
    at (suc (suc zero)) h = ap (λ (r : WeakRow). r.held.predecessor.0) e
    at (suc (suc (suc zero))) h = ap (λ (r : WeakRow). r.pointer.0) e
    at (suc (suc (suc (suc zero)))) h = ap (λ (r : WeakRow). r.read) e
    at (suc (suc (suc (suc (suc zero))))) h = ap (λ (r : WeakRow). r.write) e
    at (suc (suc (suc (suc (suc (suc zero)))))) h = ap (λ (r : WeakRow). r.cursor) e
    at (suc (suc (suc (suc (suc (suc (suc i))))))) h = absurd (omega arith)

-- lent rows are determined by the rows that they are read as
pub rows_words : (l k : List (List ℕ)) → CellsOf 7 l → CellsOf 7 k → rows_of l ≡ rows_of k → l ≡ k
rows_words l k s t e = read-words row_of 7 row_words l k s t e
