-- PROMISE: "After every list of a run's calls the accepted word is the number of its accepted steps, the entries word that of its accepted
-- Completes. The record begins with one entry for each of these Completes, in their order: the task that the worker's last accepted Fetch before it
-- answered, and that worker." The words behind them are begin's zeros.
use Prim.Native.Nat.{ℕ, zero, suc, ◌+◌, ◌-◌, ◌*◌, ◌≤◌, ◌<◌}
use mathlib.Core.Path.{◌≡◌, refl, sym, ap, ◌∙◌}
use mathlib.Core.List.{List, [], ◌∷◌, ◌++◌}
use native.Mathlib.Omega.{arith}
use borrow.Author.Tests.{le-leb}
use lib.ListN.{length, get_or, take, drop, replicate, take-append-drop, get_or-append}
use Rattle.lists.specs.Lists.{tabulate}
use Rattle.lists.proofs.Blocks.{length-tabulate, tabulate-same}
use Rattle.lists.proofs.Prefixes.{zeros-behind}
use Rattle.task.specs.Types.{nil}
use Rattle.task.specs.Entries.{Entry, entry_of}
use Rattle.memory.specs.Field as list
use Rattle.rules.specs.Memory.{Mem, tasks, entries_in, accepted_in}
use Rattle.rules.specs.Sizes.{Fits}
use Rattle.algorithm1.specs.Reading.{entry_in, record_in}
use Rattle.runs.specs.Calls.{Run, memory_of, events_of, view_of}
use Rattle.runs.specs.Demand.{accepted_completes, task_word, worker_word, accepted_steps}
use Rattle.runs.specs.RunWords.{entries_of, words_of, RunWords}
use Rattle.runs.proofs.Invariant.{tasks_of, Words}
use Rattle.runs.proofs.Calls.{tasks-reached, weights-reached, starts-reached, preds-reached}
use Rattle.runs.proofs.Honest.{honest-run}
use Rattle.runs.proofs.Recounts.{none, Recounts, recounted}

-- The words of a list of entries: each entry's task, then its worker.
two-more : (x : ℕ) → 2 * suc x ≡ suc (suc (2 * x))
two-more x = omega arith

two-more-one : (x : ℕ) → 2 * suc x + 1 ≡ suc (suc (2 * x + 1))
two-more-one x = omega arith

length-words : (es : List (Entry ℕ)) → length (words_of es) ≡ 2 * length es
unfolding words_of
length-words [] = refl
length-words (e ∷ es) = omega (arith, length-words es)

words-task : (es : List (Entry ℕ)) (x d : ℕ) → x < length es → get_or (words_of es) (2 * x) d ≡ get_or (tasks_of es) x d
unfolding words_of tasks_of
words-task [] x d h = absurd (omega arith)
words-task (e ∷ es) zero d h = refl
words-task (e ∷ es) (suc x) d h = ap (λ (n : ℕ). get_or (words_of (e ∷ es)) n d) (two-more x) ∙ words-task es x d (omega arith)

words-worker : (es : List (Entry ℕ)) (x d : ℕ) → x < length es → get_or (words_of es) (2 * x + 1) d ≡ (get_or es x none).worker
unfolding words_of
words-worker [] x d h = absurd (omega arith)
words-worker (e ∷ es) zero d h = refl
words-worker (e ∷ es) (suc x) d h = ap (λ (n : ℕ). get_or (words_of (e ∷ es)) n d) (two-more-one x) ∙ words-worker es x d (omega arith)

-- the first n pairs of words, read as entries
abbrev pair_at : List ℕ → ℕ → Entry ℕ
pair_at l x = entry_of (get_or l (2 * x) 0) (get_or l (2 * x + 1) 0)

words-pairs : (n : ℕ) (l : List ℕ) → 2 * n ≤ length l → words_of (tabulate n (pair_at l)) ≡ take (2 * n) l
unfolding words_of tabulate
words-pairs zero l h = refl
words-pairs (suc n) [] h = absurd (omega arith)
words-pairs (suc n) (a ∷ []) h = absurd (omega arith)
words-pairs (suc n) (a ∷ b ∷ l) h =
    ap (λ (es : List (Entry ℕ)). a ∷ b ∷ words_of es)
    (tabulate-same n (λ x. pair_at (a ∷ b ∷ l) (suc x)) (pair_at l) (λ x m. rw (two-more-one x, two-more x)))
    ∙ ap (λ (k : List ℕ). a ∷ b ∷ k) (words-pairs n l (omega arith))
    ∙ ap (λ (k : ℕ). take k (a ∷ b ∷ l)) (sym (two-more n))

-- a list of two words
two-words : (l : List ℕ) → length l ≡ 2 → l ≡ get_or l 0 0 ∷ get_or l 1 0 ∷ []
two-words [] h = absurd (omega (arith, h))
two-words (a ∷ []) h = absurd (omega (arith, h))
two-words (a ∷ b ∷ []) h = refl
two-words (a ∷ b ∷ c ∷ l) h = absurd (omega (arith, h))

-- After every list of a run's calls.
module _ (r : Run) where
  abbrev now : Mem
  now = memory_of r

  fits : Fits r.limits r.workers r.slots now
  fits = (honest-run r).fits

  words : Words r.workers r.slots now
  words = (honest-run r).words

  recounts : Recounts r.workers now (events_of r)
  recounts = recounted r

  -- the record's words stand first, two for each of its entries, and others follow
  recorded : record_in now ≡ tabulate (entries_in now) (entry_in now)
  unfolding record_in
  recorded = rw (le-leb (entries_in now) (tasks now) words.entries)

  abbrev others : List ℕ
  others = drop (2 * entries_in now) now.executed

  record-first : now.executed ≡ words_of (record_in now) ++ others
  record-first =
      sym (take-append-drop (2 * entries_in now) now.executed)
      ∙ ap (λ (l : List ℕ). l ++ others) (sym (ap words_of recorded ∙ words-pairs (entries_in now) now.executed inside))
    where
      inside : 2 * entries_in now ≤ length now.executed
      inside = omega (arith, words.entries, fits.lengths.list list.executed)

  record-length : length now.executed ≡ 2 * tasks r.lent
  record-length = fits.lengths.list list.executed ∙ ap (λ (n : ℕ). 2 * n) (tasks-reached r)

  others-unused : others ≡ replicate (2 * tasks r.lent - 2 * accepted_completes (events_of r)) 0
  others-unused = zeros-behind (2 * entries_in now) now.executed recounts.unused ∙ rw (record-length, recounts.entries) refl

  -- the run words, as the rules read them
  pub accepted-word : accepted_in (memory_of r) ≡ accepted_steps (events_of r)
  accepted-word = recounts.steps

  pub entries-word : entries_in (memory_of r) ≡ accepted_completes (events_of r)
  entries-word = recounts.entries

  pub run-words : RunWords (view_of r)
  run-words =
      record {
        run = two-words now.run (fits.lengths.list list.run) ∙ rw (entries-word, accepted-word);
        recorded =
            record-first ∙ ap (λ (es : List (Entry ℕ)). words_of es ++ others) recounts.executed
            ∙ ap (λ (l : List ℕ). words_of (entries_of (events_of r)) ++ l) others-unused;
        record-size = record-length;
        weights = weights-reached r;
        pred_starts = starts-reached r;
        preds = preds-reached r;
      }

  pub length-record : length (record_in (memory_of r)) ≡ entries_in (memory_of r)
  length-record = ap length recorded ∙ length-tabulate (entries_in now) (entry_in now)

  record-word : (x d : ℕ) → x < 2 * entries_in now → get_or now.executed x d ≡ get_or (words_of (record_in now)) x d
  record-word x d h =
      ap (λ (l : List ℕ). get_or l x d) record-first
      ∙ get_or-append (words_of (record_in now)) others d x (omega (arith, h, length-words (record_in now), length-record))

  -- pair x names the task of the record's entry x, and one of the workers
  pub record-words : (x : ℕ) → x < entries_in (memory_of r) → task_word (memory_of r) x ≡ get_or (tasks_of (record_in (memory_of r))) x nil.0
  record-words x h =
      record-word (2 * x) nil.0 (omega (arith, h)) ∙ words-task (record_in now) x nil.0 (omega (arith, h, length-record))

  pub recorded-workers : (x : ℕ) → x < accepted_completes (events_of r) → worker_word (memory_of r) x < r.workers
  recorded-workers x h = rw word (recounts.workers none x (omega (arith, below, size)))
    where
      below : x < entries_in now
      below = omega (arith, h, recounts.entries)

      size : length (entries_of (events_of r)) ≡ entries_in now
      size = ap length (sym recounts.executed) ∙ length-record

      word : worker_word now x ≡ (get_or (entries_of (events_of r)) x none).worker
      word =
          record-word (2 * x + 1) nil.0 (omega (arith, below))
          ∙ words-worker (record_in now) x nil.0 (omega (arith, below, length-record))
          ∙ ap (λ (es : List (Entry ℕ)). (get_or es x none).worker) recounts.executed

  -- no run has more than N accepted Completes
  pub at-most-all : accepted_completes (events_of r) ≤ tasks r.lent
  at-most-all = omega (arith, recounts.entries, words.entries, tasks-reached r)
