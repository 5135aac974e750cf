-- PROMISE: after every list of a weak run's calls the accepted word is the number of its accepted steps, the entries word that of its accepted
-- Completes, and the third is R. The record begins with one entry for each of these Completes, in their order: the copy that the worker's last
-- accepted Fetch before it answered, and that worker. The words behind them are begin's zeros.
use Prim.Native.Nat.{ℕ, zero, suc, ◌+◌, ◌-◌, ◌*◌, ◌≤◌, ◌<◌}
use mathlib.Core.Path.{◌≡◌, refl, sym, ap, ◌∙◌}
use mathlib.Core.List.{List, [], ◌∷◌, ◌++◌}
use native.Mathlib.Omega.{arith}
use borrow.Author.Tests.{le-leb}
use lib.ListN.{length, get_or, take, drop, replicate, take-append-drop, get_or-append}
use Rattle.lists.specs.Lists.{tabulate}
use Rattle.lists.proofs.Blocks.{length-tabulate, tabulate-same, is-tabulate}
use Rattle.lists.proofs.Prefixes.{zeros-behind}
use Rattle.task.specs.Types.{nil}
use Rattle.task.specs.Entries.{Entry, entry_of}
use Rattle.graph.specs.Graph.{Graph}
use Rattle.graph.specs.Successors.{roots}
use Rattle.memory.specs.Field as list
use Rattle.plans.specs.Sizes.{Lengths}
use Rattle.weak_task.specs.Types.{Copy, copy}
use Rattle.weak_rules.specs.Memory.{Mem, tasks, edges, roots_word, entries_in, accepted_in}
use Rattle.weak_rules.proofs.Kept.{step_keeps}
use Rattle.weak_rules.proofs.Begun.{laid-roots-few, laid-down}
use Rattle.weak_rules.proofs.Moved.{roots_kept}
use Rattle.weak_algorithm.specs.State.{no_item}
use Rattle.weak_algorithm.specs.Reading.{entry_in, record_in}
use Rattle.runs.proofs.Invariant.{tasks_of}
use Rattle.runs.proofs.Meaning.{length-tasks}
use Rattle.weak_runs.specs.Calls.{accepted_steps, accepted_completes, Run, memory_of, events_of, roots_of, copies_in, view_of}
use Rattle.weak_runs.specs.Demand.{copy_words, worker_word}
use Rattle.weak_runs.specs.RunWords.{entries_of, words_of, RunWords}
use Rattle.weak_runs.proofs.Invariant.{none, Words}
use Rattle.weak_runs.proofs.Calls.{always, weights-reached, starts-reached, preds-reached, graph-reached, tasks-reached, edges-reached}
use Rattle.weak_runs.proofs.Honest.{honest-run}
use Rattle.weak_runs.proofs.Recounts.{Recounts, recounted}

-- The words of a list of entries: each entry's task, then its predecessor, then its worker.
three-more : (x : ℕ) → 3 * suc x ≡ suc (suc (suc (3 * x)))
three-more x = omega arith

three-more-one : (x : ℕ) → 3 * suc x + 1 ≡ suc (suc (suc (3 * x + 1)))
three-more-one x = omega arith

three-more-two : (x : ℕ) → 3 * suc x + 2 ≡ suc (suc (suc (3 * x + 2)))
three-more-two x = omega arith

length-words : (es : List (Entry Copy)) → length (words_of es) ≡ 3 * length es
unfolding words_of
length-words [] = refl
length-words (e ∷ es) = omega (arith, length-words es)

words-task : (es : List (Entry Copy)) (x : ℕ) → x < length es → get_or (words_of es) (3 * x) nil.0 ≡ (get_or (tasks_of es) x no_item).task
unfolding words_of tasks_of
words-task [] x h = absurd (omega (arith, h))
words-task (e ∷ es) zero h = refl
words-task (e ∷ es) (suc x) h = ap (λ (n : ℕ). get_or (words_of (e ∷ es)) n nil.0) (three-more x) ∙ words-task es x (omega (arith, h))

words-predecessor : (es : List (Entry Copy)) (x : ℕ) → x < length es → get_or (words_of es) (3 * x + 1) nil.0 ≡ (get_or (tasks_of es) x no_item).predecessor
unfolding words_of tasks_of
words-predecessor [] x h = absurd (omega (arith, h))
words-predecessor (e ∷ es) zero h = refl
words-predecessor (e ∷ es) (suc x) h = ap (λ (n : ℕ). get_or (words_of (e ∷ es)) n nil.0) (three-more-one x) ∙ words-predecessor es x (omega (arith, h))

words-worker : (es : List (Entry Copy)) (x : ℕ) → x < length es → get_or (words_of es) (3 * x + 2) nil.0 ≡ (get_or es x none).worker
unfolding words_of
words-worker [] x h = absurd (omega (arith, h))
words-worker (e ∷ es) zero h = refl
words-worker (e ∷ es) (suc x) h = ap (λ (n : ℕ). get_or (words_of (e ∷ es)) n nil.0) (three-more-two x) ∙ words-worker es x (omega (arith, h))

items_at : (es : List (Entry Copy)) (x : ℕ) → x < length es → get_or (tasks_of es) x no_item ≡ (get_or es x none).item
unfolding tasks_of
items_at [] x h = absurd (omega (arith, h))
items_at (e ∷ es) zero h = refl
items_at (e ∷ es) (suc x) h = items_at es x (omega (arith, h))

-- the first n triples of words, read as entries
abbrev triple_at : List ℕ → ℕ → Entry Copy
triple_at l x = entry_of (copy (get_or l (3 * x) 0) (get_or l (3 * x + 1) 0)) (get_or l (3 * x + 2) 0)

words-triples : (n : ℕ) (l : List ℕ) → 3 * n ≤ length l → words_of (tabulate n (triple_at l)) ≡ take (3 * n) l
unfolding words_of tabulate
words-triples zero l h = refl
words-triples (suc n) [] h = absurd (omega (arith, h))
words-triples (suc n) (a ∷ []) h = absurd (omega (arith, h))
words-triples (suc n) (a ∷ b ∷ []) h = absurd (omega (arith, h))
words-triples (suc n) (a ∷ b ∷ c ∷ l) h =
    ap (λ (es : List (Entry Copy)). a ∷ b ∷ c ∷ words_of es)
    (tabulate-same n (λ x. triple_at (a ∷ b ∷ c ∷ l) (suc x)) (triple_at l) (λ x m. rw (three-more-two x, three-more-one x, three-more x)))
    ∙ ap (λ (k : List ℕ). a ∷ b ∷ c ∷ k) (words-triples n l (omega (arith, h)))
    ∙ ap (λ (k : ℕ). take k (a ∷ b ∷ c ∷ l)) (sym (three-more n))

-- a list of three words
three-words : (l : List ℕ) → length l ≡ 3 → l ≡ get_or l 0 0 ∷ get_or l 1 0 ∷ get_or l 2 0 ∷ []
three-words [] h = absurd (omega (arith, h))
three-words (a ∷ []) h = absurd (omega (arith, h))
three-words (a ∷ b ∷ []) h = absurd (omega (arith, h))
three-words (a ∷ b ∷ c ∷ []) h = refl
three-words (a ∷ b ∷ c ∷ d ∷ l) h = absurd (omega (arith, h))

-- After every list of a run's calls.
module _ (r : Run) where
  abbrev now : Mem
  now = memory_of r

  -- every list has its length
  pub lengths-reached : Lengths r.workers r.slots (memory_of r)
  lengths-reached = (honest-run r).fits.lengths

  words : Words r.workers r.slots now
  words = (honest-run r).words

  -- R is at most N
  roots_few : roots_word now ≤ tasks now
  roots_few =
      always r.workers r.slots (λ m. roots_word m ≤ tasks m) (λ limits m e. laid-roots-few (laid-down limits r.workers r.slots m e))
      (λ limits m i s a h. rw (roots_kept limits r.workers r.slots i s m, (step_keeps limits r.workers r.slots i s m).graph.weights) h)
      r.limits r.lent r.accepts r.calls

  recounts : Recounts r.workers now (events_of r)
  recounts = recounted r

  -- the record's words stand first, three for each of its entries, and others follow
  recorded : record_in now ≡ tabulate (entries_in now) (entry_in now)
  unfolding record_in
  recorded = rw (le-leb (entries_in now) (edges now + roots_word now) words.entries)

  abbrev others : List ℕ
  others = drop (3 * entries_in now) now.executed

  record-first : now.executed ≡ words_of (record_in now) ++ others
  record-first =
      sym (take-append-drop (3 * entries_in now) now.executed)
      ∙ ap (λ (l : List ℕ). l ++ others) (sym (ap words_of recorded ∙ words-triples (entries_in now) now.executed inside))
    where
      inside : 3 * entries_in now ≤ length now.executed
      inside = omega (arith, words.entries, roots_few, lengths-reached.list list.executed)

  record-length : length now.executed ≡ 3 * (edges r.lent + tasks r.lent)
  record-length = lengths-reached.list list.executed ∙ rw (tasks-reached r, edges-reached r) refl

  others-unused : others ≡ replicate (3 * (edges r.lent + tasks r.lent) - 3 * accepted_completes (events_of r)) 0
  others-unused = zeros-behind (3 * entries_in now) now.executed recounts.unused ∙ rw (record-length, recounts.entries) refl

  -- the run words, as the rules read them
  pub accepted-word : accepted_in (memory_of r) ≡ accepted_steps (events_of r)
  accepted-word = recounts.steps

  pub entries-word : entries_in (memory_of r) ≡ accepted_completes (events_of r)
  entries-word = recounts.entries

  pub roots-word : roots_word (memory_of r) ≡ roots_of (view_of r)
  roots-word = words.roots ∙ ap (λ (g : Graph). length (roots g)) (graph-reached r)

  pub run-words : RunWords (view_of r)
  run-words =
      record {
        run = three-words now.run (lengths-reached.list list.run) ∙ rw (entries-word, accepted-word, roots-word);
        recorded =
            record-first ∙ ap (λ (es : List (Entry Copy)). words_of es ++ others) recounts.executed
            ∙ ap (λ (l : List ℕ). words_of (entries_of (events_of r)) ++ l) others-unused;
        record-size = record-length;
        weights = weights-reached r;
        pred_starts = starts-reached r;
        preds = preds-reached r;
      }

  pub length-record : length (record_in (memory_of r)) ≡ entries_in (memory_of r)
  length-record = ap length recorded ∙ length-tabulate (entries_in now) (entry_in now)

  record-word : (x : ℕ) → x < 3 * entries_in now → get_or now.executed x nil.0 ≡ get_or (words_of (record_in now)) x nil.0
  record-word x h =
      ap (λ (l : List ℕ). get_or l x nil.0) record-first
      ∙ get_or-append (words_of (record_in now)) others nil.0 x (omega (arith, h, length-words (record_in now), length-record))

  -- triple x names the copy of the record's entry x, and its worker
  pub record-copies : (x : ℕ) → x < entries_in (memory_of r) → copy_words (memory_of r) x ≡ get_or (tasks_of (record_in (memory_of r))) x no_item
  record-copies x h =
      rw (
        record-word (3 * x) (omega (arith, h)) ∙ words-task (record_in now) x (omega (arith, h, length-record)),
        record-word (3 * x + 1) (omega (arith, h)) ∙ words-predecessor (record_in now) x (omega (arith, h, length-record)),
      )
      refl

  pub record-items : (x : ℕ) → x < entries_in (memory_of r) → copy_words (memory_of r) x ≡ (get_or (record_in (memory_of r)) x none).item
  record-items x h = record-copies x h ∙ items_at (record_in now) x (omega (arith, h, length-record))

  -- so the record's copies are the words'
  pub recorded-copies : tasks_of (record_in (memory_of r)) ≡ tabulate (entries_in (memory_of r)) (copy_words (memory_of r))
  recorded-copies =
      is-tabulate (entries_in now) (copy_words now) no_item (tasks_of (record_in now)) (length-tasks (record_in now) ∙ length-record)
      (λ x h. sym (record-copies x h))

  pub record-workers : (x : ℕ) → x < entries_in (memory_of r) → worker_word (memory_of r) x ≡ (get_or (record_in (memory_of r)) x none).worker
  record-workers x h =
      record-word (3 * x + 2) (omega (arith, h)) ∙ words-worker (record_in now) x (omega (arith, h, length-record))

  -- one of the workers
  pub recorded-workers : (x : ℕ) → x < accepted_completes (events_of r) → worker_word (memory_of r) x < r.workers
  recorded-workers x h = rw word (recounts.workers none x (omega (arith, below, size)))
    where
      below : x < entries_in now
      below = omega (arith, h, recounts.entries)

      size : length (entries_of (events_of r)) ≡ entries_in now
      size = ap length (sym recounts.executed) ∙ length-record

      word : worker_word now x ≡ (get_or (entries_of (events_of r)) x none).worker
      word = record-workers x below ∙ ap (λ (es : List (Entry Copy)). (get_or es x none).worker) recounts.executed

  -- no run has more than E + R accepted Completes
  pub entries-few : entries_in (memory_of r) ≤ copies_in (view_of r)
  entries-few = omega (arith, words.entries, roots-word, edges-reached r)

  pub at-most-all : accepted_completes (events_of r) ≤ copies_in (view_of r)
  at-most-all = omega (arith, entries-few, entries-word)
