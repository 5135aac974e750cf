-- "Load over the last tiles": "for every run of m neighbouring record entries, the weight each worker finished and the spread from smallest to
-- largest."
use Rattle.task.specs.declared.refusal.Refusal.TheVariants.{BadWindow, BeyondLimit, Damaged, WrongLength}
use Rattle.std.specs.Prelude.{ℕ, zero, suc, ◌+◌, ◌-◌, ◌*◌, ◌≤◌, ◌<◌, min, max, ◌≡◌, Bool, true, cond, not, ◌&&◌, ◌⊎◌, List, [], ◌∷◌, ◌++◌, length, get_or, ltb, leb, eqb, Err, Ok}
use Rattle.lists.specs.Lists.{joined, tabulate}
use Rattle.lists.specs.Sums.{sum_to}
use Rattle.task.specs.Types.{capped}
use Rattle.task.specs.Refusals.{wrong_length, beyond_limit, damaged, bad_window, refused_if, Answer}
use Rattle.task.specs.Rows.{Refusal, row, only}
use Rattle.task.specs.declared.Limits.{Limits}

-- "Execution record 2N (task, worker).": entry x, and the weight of its task
abbrev pub task_at : List ℕ → ℕ → ℕ
task_at executed x = get_or executed (2 * x) 0

abbrev pub worker_at : List ℕ → ℕ → ℕ
worker_at executed x = get_or executed (2 * x + 1) 0

abbrev pub weight_at : (weights executed : List ℕ) → ℕ → ℕ
weight_at weights executed x = get_or weights (task_at executed x) 0

-- "Two run words: entries recorded, steps accepted."
abbrev pub entries_word : List ℕ → ℕ
entries_word run = get_or run 0 0

-- what entry x adds to worker i's load
unfoldable pub added_by : (weights executed : List ℕ) → (i x : ℕ) → ℕ
added_by weights executed i x = cond (eqb (worker_at executed x) i) (weight_at weights executed x) 0

-- "the weight each worker finished" in window w, that is in entries w .. w + m − 1: "as if summed afresh"
unfoldable pub load_in : (weights executed : List ℕ) → (m w i : ℕ) → ℕ
load_in weights executed m w i = sum_to m (λ k. added_by weights executed i (w + k))

-- of P workers, those without an entry among them
unfoldable pub window_sums : (p : ℕ) → (weights executed : List ℕ) → (m w : ℕ) → List ℕ
window_sums p weights executed m w = tabulate p (load_in weights executed m w)

-- of one number and others
unfoldable pub largest_of : ℕ → List ℕ → ℕ
largest_of x [] = x
largest_of x (y ∷ l) = largest_of (max x y) l

unfoldable pub smallest_of : ℕ → List ℕ → ℕ
smallest_of x [] = x
smallest_of x (y ∷ l) = smallest_of (min x y) l

-- "the spread from smallest to largest"
unfoldable pub spread_of : List ℕ → ℕ
spread_of [] = 0
spread_of (x ∷ l) = largest_of x l - smallest_of x l

-- "exactly P+1 lent words per window, the spread last"
unfoldable pub with_spread : List ℕ → List ℕ
with_spread sums = sums ++ (spread_of sums ∷ [])

abbrev pub window_words : (p : ℕ) → (weights executed : List ℕ) → (m w : ℕ) → List ℕ
window_words p weights executed m w = with_spread (window_sums p weights executed m w)

-- how many windows of m entries there are
abbrev pub window_count : (entries m : ℕ) → ℕ
window_count entries m = entries - m + 1

-- "The figures come for all windows in order"
unfoldable pub windows : (p : ℕ) → (weights executed : List ℕ) → (entries m : ℕ) → List ℕ
windows p weights executed entries m = joined (window_count entries m) (window_words p weights executed m)

-- Refusals.

-- N, and P from 1 on, within the limits
unfoldable pub counts_fit : Limits → (p n : ℕ) → Bool
counts_fit limits p n = leb n (capped limits).tasks && (leb 1 p && leb p (capped limits).workers)

-- "a recorded task ≥ N, worker ≥ P or weight over 65,535", turned round
unfoldable pub entry_fits : (p : ℕ) → (weights executed : List ℕ) → ℕ → Bool
entry_fits p weights executed x =
    ltb (task_at executed x) (length weights) && (ltb (worker_at executed x) p && leb (weight_at weights executed x) 65535)

-- of the first so many entries
unfoldable pub record_fits : (p : ℕ) → (weights executed : List ℕ) → ℕ → Bool
record_fits p weights executed zero = true
record_fits p weights executed (suc n) = record_fits p weights executed n && entry_fits p weights executed n

-- what the tests say of entry x where it fits
pub record Recorded (p : ℕ) (weights executed : List ℕ) (x : ℕ) : Type 0 where
  pub task : task_at executed x < length weights
  pub worker : worker_at executed x < p
  pub light : weight_at weights executed x ≤ 65535

-- what they leave of the first so many entries, and of windows of m of them
pub record Spans (p : ℕ) (weights executed : List ℕ) (entries m : ℕ) : Type 0 where
  pub some_workers : 1 ≤ p
  pub few_workers : p ≤ 16
  pub some_entries : 1 ≤ m
  pub window : m ≤ entries
  pub few_entries : entries ≤ 1024
  pub inside : 2 * entries ≤ length executed
  pub recorded : (x : ℕ) → x < entries → Recorded p weights executed x

-- of a result list of so many words; "15 .., after 2 and every length check but that of the result words, which it precedes; last, .. 8, and entries
-- over N are 8 before 15"
unfoldable pub windows_answer : Limits → (p m : ℕ) → (weights executed run : List ℕ) → (room : ℕ) → Answer
windows_answer limits p m weights executed run room =
    refused_if (not (counts_fit limits p (length weights))) BeyondLimit
    (refused_if (not (eqb (length executed) (2 * length weights) && eqb (length run) 2)) WrongLength
    (refused_if (ltb (length weights) (entries_word run)) Damaged
    (refused_if (not (leb 1 m && leb m (entries_word run))) BadWindow
    (refused_if (not (eqb room (window_count (entries_word run) m * (p + 1)))) WrongLength
    (refused_if (not (record_fits p weights executed (entries_word run))) Damaged
    (Ok tt))))))

-- the answer and the result words
pub record Shown : Type 0 where
  pub answer : Answer
  pub results : List ℕ

abbrev pub shown_as : Answer → List ℕ → Shown
shown_as a words = record { answer = a; results = words }

abbrev pub shown : Answer → (words old : List ℕ) → Shown
shown (Err why) words old = shown_as (Err why) old
shown (Ok u) words old = shown_as (Ok tt) words

-- the call; "a call that they add answers acceptance alone where nothing is stated"
unfoldable pub window_loads : Limits → (p m : ℕ) → (weights executed run results : List ℕ) → Shown
window_loads limits p m weights executed run results =
    shown (windows_answer limits p m weights executed run (length results)) (windows p weights executed (entries_word run) m) results

-- The published table for load windows.

-- "last, a recorded task ≥ N, worker ≥ P or weight over 65,535 is 8": recorded are the entries that the entries word counts
abbrev pub BadEntry : (p : ℕ) → (weights executed : List ℕ) → ℕ → Type 0
BadEntry p weights executed entries =
    (x : ℕ) × (x < entries)
    × ((length weights ≤ task_at executed x) ⊎ ((p ≤ worker_at executed x) ⊎ (65535 < weight_at weights executed x)))

-- "Refused: 15 for m zero or above the entries recorded"; numbers 1 and 8 stand twice, each with another condition
abbrev pub window_rows : Limits → (p m : ℕ) → (weights executed run results : List ℕ) → List Refusal
window_rows limits p m weights executed run results =
    row beyond_limit (only 0 (((capped limits).tasks < length weights) ⊎ ((p < 1) ⊎ ((capped limits).workers < p))))
    ∷ row wrong_length (only 0 (¬ (length executed ≡ 2 * length weights) ⊎ ¬ (length run ≡ 2)))
    ∷ row damaged (only 0 (length weights < entries_word run))
    ∷ row bad_window (only 0 ((m < 1) ⊎ (entries_word run < m)))
    ∷ row wrong_length (only 0 (¬ (length results ≡ window_count (entries_word run) m * (p + 1))))
    ∷ row damaged (only 0 (BadEntry p weights executed (entries_word run)))
    ∷ []

-- The spread, told without computing it: of P loads two, one that none exceeds and one that exceeds none.
pub record Spread (p : ℕ) (load : ℕ → ℕ) (spread : ℕ) : Type 0 where
  pub largest : ℕ
  pub is_largest : (largest < p) × ((i : ℕ) → i < p → load i ≤ load largest)
  pub smallest : ℕ
  pub is_smallest : (smallest < p) × ((i : ℕ) → i < p → load smallest ≤ load i)
  pub apart : spread ≡ load largest - load smallest

-- What an accepted call leaves, "for every run of m neighbouring record entries", w .. w + m − 1: word w·(P+1) + i is worker i's load in it, word
-- w·(P+1) + P the spread of these P words, workers without an entry among them.
pub record ShowsLoads (p m : ℕ) (weights executed run words : List ℕ) : Type 0 where
  pub size : length words ≡ window_count (entries_word run) m * (p + 1)
  pub load : (w i : ℕ) → w + m ≤ entries_word run → i < p → get_or words (w * (p + 1) + i) 0 ≡ load_in weights executed m w i
  -- at most 1,024 · 65,535, also where a forged record names a task more than once
  pub most : (w i : ℕ) → w + m ≤ entries_word run → i < p → get_or words (w * (p + 1) + i) 0 ≤ 67107840
  pub spread : (w : ℕ) → w + m ≤ entries_word run → Spread p (λ i. get_or words (w * (p + 1) + i) 0) (get_or words (w * (p + 1) + p) 0)
  -- a window's P words add up to its m weights
  pub adds : (w : ℕ) → w + m ≤ entries_word run
      → sum_to p (λ i. get_or words (w * (p + 1) + i) 0) ≡ sum_to m (λ k. weight_at weights executed (w + k))

-- a worker's whole finished weight: over all entries recorded
unfoldable pub finished_by : (weights executed : List ℕ) → (entries i : ℕ) → ℕ
finished_by weights executed entries i = sum_to entries (added_by weights executed i)

-- What an accepted call with m = entries leaves: one window, and in it each worker's whole.
pub record ShowsWhole (p : ℕ) (weights executed run words : List ℕ) : Type 0 where
  pub size : length words ≡ p + 1
  pub load : (i : ℕ) → i < p → get_or words i 0 ≡ finished_by weights executed (entries_word run) i
  pub adds : sum_to p (λ i. get_or words i 0) ≡ sum_to (entries_word run) (weight_at weights executed)
