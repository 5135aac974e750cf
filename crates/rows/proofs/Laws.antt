-- Laws over plain lists and numbers that the functions' proofs cite, and what rows that are read say of their words.
use Prim.Native.Nat.{ℕ, zero, suc, ◌≤◌, ◌<◌}
use mathlib.Core.Path.{◌≡◌, refl, ap, ◌∙◌}
use mathlib.Core.List.{List, [], ◌∷◌, ◌++◌}
use native.Mathlib.Omega.{arith}
use lib.ListN.{length, get_or, set, take, drop, replicate}
use lib.Seq.{length-take-le, get_or-set_same, set-set, ext_get_or}
use Rattle.task.specs.Types.{idle}
use Rattle.task.specs.declared.Row.{Row}
use Rattle.task.specs.declared.TaskId.{TaskId}
use Rattle.rules.specs.Memory.{with_hand, with_pointer}
use Rattle.rows.specs.Rows.{row_of, rows_of, with_phase, with_write, with_next, with_cursor, changed, cleared_rows}

pub length-rows : (l : List (List ℕ)) → length (rows_of l) ≡ length l
unfolding rows_of
length-rows [] = refl
length-rows (a ∷ l) = ap suc (length-rows l)

pub rows_at : (l : List (List ℕ)) (i : ℕ) (d : List ℕ) (r : Row) → i < length l → r ≡ row_of (get_or l i d) → r ≡ get_or (rows_of l) i idle
unfolding rows_of
rows_at [] i d r h e = absurd (omega arith)
rows_at (a ∷ l) zero d r h e = e
rows_at (a ∷ l) (suc i) d r h e = rows_at l i d r (omega arith) e

rows-set : (l : List (List ℕ)) (i : ℕ) (a : List ℕ) → rows_of (set l i a) ≡ set (rows_of l) i (row_of a)
unfolding rows_of
rows-set [] i a = refl
rows-set (b ∷ l) zero a = refl
rows-set (b ∷ l) (suc i) a = ap (λ (t : List Row). row_of b ∷ t) (rows-set l i a)

pub rows-changed : (f : Row → Row) (l : List (List ℕ)) (i : ℕ) (d a : List ℕ) → i < length l → row_of a ≡ f (row_of (get_or l i d))
    → rows_of (set l i a) ≡ changed f i (rows_of l)
unfolding changed
rows-changed f l i d a h e = rw (rows-set l i a, e, rows_at l i d (row_of (get_or l i d)) h refl) refl

-- words stored in a row of six: what holds of six words in a list holds of any six
six-words : (Q : List ℕ → Type 0) → ((a b c d e f : ℕ) (l : List ℕ) → Q (a ∷ b ∷ c ∷ d ∷ e ∷ f ∷ l)) → (cells : List ℕ) → length cells ≡ 6 → Q cells
six-words Q q [] h = absurd (omega arith)
six-words Q q (a ∷ []) h = absurd (omega arith)
six-words Q q (a ∷ b ∷ []) h = absurd (omega arith)
six-words Q q (a ∷ b ∷ c ∷ []) h = absurd (omega arith)
six-words Q q (a ∷ b ∷ c ∷ d ∷ []) h = absurd (omega arith)
six-words Q q (a ∷ b ∷ c ∷ d ∷ e ∷ []) h = absurd (omega arith)
six-words Q q (a ∷ b ∷ c ∷ d ∷ e ∷ f ∷ l) h = q a b c d e f l

module _ (cells : List ℕ) (h : length cells ≡ 6) where
  pub phase-put : (phase : ℕ) → row_of (set cells 0 phase) ≡ with_phase phase (row_of cells)
  phase-put phase = six-words (λ l. row_of (set l 0 phase) ≡ with_phase phase (row_of l)) (λ a b c d e f l. refl) cells h

  pub hand-put : (phase : ℕ) (held : TaskId) → row_of (set (set cells 0 phase) 1 held.0) ≡ with_hand phase held (row_of cells)
  hand-put phase held = six-words (λ l. row_of (set (set l 0 phase) 1 held.0) ≡ with_hand phase held (row_of l)) (λ a b c d e f l. refl) cells h

  pub pointer-put : (pointer : ℕ) → row_of (set cells 2 pointer) ≡ with_pointer pointer (row_of cells)
  pointer-put pointer = six-words (λ l. row_of (set l 2 pointer) ≡ with_pointer pointer (row_of l)) (λ a b c d e f l. refl) cells h

  pub write-put : (write : ℕ) → row_of (set cells 4 write) ≡ with_write write (row_of cells)
  write-put write = six-words (λ l. row_of (set l 4 write) ≡ with_write write (row_of l)) (λ a b c d e f l. refl) cells h

  pub next-put : (read cursor : ℕ) → row_of (set (set cells 3 read) 5 cursor) ≡ with_next read cursor (row_of cells)
  next-put read cursor = six-words (λ l. row_of (set (set l 3 read) 5 cursor) ≡ with_next read cursor (row_of l)) (λ a b c d e f l. refl) cells h

  pub cursor-put : (cursor : ℕ) → row_of (set cells 5 cursor) ≡ with_cursor cursor (row_of cells)
  cursor-put cursor = six-words (λ l. row_of (set l 5 cursor) ≡ with_cursor cursor (row_of l)) (λ a b c d e f l. refl) cells h

-- one part changed, and two, one after the other
module _ (rows : List Row) (i : ℕ) (row : Row) (h : row ≡ get_or rows i idle) (f g : Row → Row) (after : Row) where
  pub one-changed : after ≡ f row → changed f i rows ≡ set rows i after
  unfolding changed
  one-changed e = rw (e, h) refl

  pub two-changed : i < length rows → after ≡ g (f row) → changed g i (changed f i rows) ≡ set rows i after
  unfolding changed
  two-changed l e =
      rw (e, h, get_or-set_same rows i (f (get_or rows i idle)) idle l) (set-set rows i (f (get_or rows i idle)) (g (f (get_or rows i idle))))

-- the first n cells read as an idle worker's row, as a list
words-cleared : (l : List (List ℕ)) (n : ℕ) (a : List ℕ) → n ≤ length l → row_of a ≡ idle
    → rows_of (replicate n a ++ drop n l) ≡ cleared_rows n (rows_of l)
unfolding rows_of cleared_rows
words-cleared l zero a h r = refl
words-cleared [] (suc n) a h r = absurd (omega arith)
words-cleared (b ∷ l) (suc n) a h r = rw r (ap (λ (t : List Row). idle ∷ t) (words-cleared l n a (omega arith) r))

pub words-filled : (l : List (List ℕ)) (n : ℕ) (a : List ℕ) → n ≤ length l → row_of a ≡ idle → (front : List (List ℕ))
    → front ≡ replicate (length (take n l)) a → rows_of (front ++ drop n l) ≡ cleared_rows n (rows_of l)
words-filled l n a h r front e = rw (e, length-take-le n l h) (words-cleared l n a h r)

-- six words are determined by the row they are read as
row_words : (a b : List ℕ) → length a ≡ 6 → length b ≡ 6 → row_of a ≡ row_of b → a ≡ b
row_words a b ha hb e = ext_get_or 0 a b (omega (arith, ha, hb)) (λ i h. at i (omega (arith, ha, h)))
  where
    at : (i : ℕ) → i < 6 → get_or a i 0 ≡ get_or b i 0
    at zero h = ap (λ (r : Row). r.phase) e
    at (suc zero) h = ap (λ (r : Row). r.held.0) e
    at (suc (suc zero)) h = ap (λ (r : Row). r.pointer.0) e
    at (suc (suc (suc zero))) h = ap (λ (r : Row). r.read) e
    at (suc (suc (suc (suc zero)))) h = ap (λ (r : Row). r.write) e
    at (suc (suc (suc (suc (suc zero))))) h = ap (λ (r : Row). r.cursor) e
    at (suc (suc (suc (suc (suc (suc i)))))) h = absurd (omega arith)

-- every row has six words, as the type of the lent list says
abbrev pub Sixes : List (List ℕ) → Type 0
Sixes [] = Unit {0}
Sixes (a ∷ l) = (◌≡◌ {A = ℕ} (length a) 6) × Sixes l

-- lent rows are determined by the rows that they are read as
pub rows_words : (l k : List (List ℕ)) → Sixes l → Sixes k → rows_of l ≡ rows_of k → l ≡ k
unfolding rows_of
rows_words [] [] s t e = refl
rows_words [] (b ∷ k) s t e = absurd (omega (arith, ap length e))
rows_words (a ∷ l) [] s t e = absurd (omega (arith, ap length e))
rows_words (a ∷ l) (b ∷ k) s t e =
    ap (λ (x : List ℕ). x ∷ l) (row_words a b s.0 t.0 (ap (λ (r : List Row). get_or r 0 idle) e))
    ∙ ap (λ (x : List (List ℕ)). b ∷ x) (rows_words l k s.1 t.1 (ap (drop 1) e))
