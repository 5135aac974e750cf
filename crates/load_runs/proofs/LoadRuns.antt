-- PROMISE: load windows of a run's memory: never 8, accepted with limits, an m and a results' length that suit, each word what the Completes of its
-- window finished, and a finished run's whole weight.
use Prim.Native.Nat.{ℕ, zero, suc, ◌+◌, ◌-◌, ◌*◌, ◌≤◌, ◌<◌}
use mathlib.Core.Path.{◌≡◌, refl, sym, ap, subst, ◌∙◌}
use mathlib.Core.Logic.{◌⊎◌, inl, inr}
use mathlib.Core.List.{List, [], ◌∷◌, ◌++◌}
use native.Mathlib.Omega.{arith}
use native.Mathlib.Decide.{ℕ_discrete, dec_lt}
use lib.ListN.{length, get_or, take, drop, replicate, length-drop}
use lib.Seq.{take-suc, get_or-drop}
use Rattle.std.specs.Prelude.{Err, Ok}
use Rattle.lists.specs.Lists.{occ, tabulate}
use Rattle.lists.specs.Sums.{sum_to, sum_of}
use Rattle.lists.proofs.Blocks.{get_d_tabulate, tabulate-snoc}
use Rattle.lists.proofs.Decided.{tally-pos}
use Rattle.lists.proofs.Occurrences.{at-occ}
use Rattle.lists.proofs.Sums.{sum_same, sum_of-snoc, sum_of-all}
use Rattle.task.specs.Types.{nil, capped}
use Rattle.task.specs.Entries.{Entry}
use Rattle.task.specs.Refusals.{Said, refused, accepted, damaged, answer_says, Answer}
use Rattle.task.specs.Rows.{Given, Acceptance, Follows}
use Rattle.task.specs.declared.Limits.{Limits}
use Rattle.system.specs.Stages.{places}
use Rattle.rules.specs.Memory.{Mem, tasks, weight_in, entries_in}
use Rattle.loads.specs.Windows.{task_at, worker_at, weight_at, added_by, load_in, window_count, BadEntry, window_rows}
use Rattle.loads.proofs.Windows.{windows-follow, windows-shown, windows-whole}
use Rattle.runs.specs.Calls.{Run, memory_of, events_of, view_of}
use Rattle.runs.specs.Demand.{accepted_completes, Finished, task_word, worker_word, order_of}
use Rattle.runs.specs.RunWords.{entries_of, words_of}
use Rattle.runs.proofs.Calls.{begun-within, weights-reached, tasks-reached}
use Rattle.runs.proofs.Demand.{recorded, recorded-length, recorded-words, invariant-run, finished-full, demand-3}
use Rattle.runs.proofs.Events.{length-record, recorded-workers, entries-word, run-words}
use Rattle.runs.proofs.Recounts.{none, recounted}
use Rattle.runs.proofs.Honest.{honest-run}
use Rattle.load_runs.specs.LoadRuns.{windows_in, finished_in, LoadRuns}

-- what stands inside a list doesn't hang on what is read behind it
inside-same : (l : List ℕ) (i d e : ℕ) → i < length l → get_or l i d ≡ get_or l i e
inside-same [] i d e h = absurd (omega arith)
inside-same (x ∷ l) zero d e h = refl
inside-same (x ∷ l) (suc i) d e h = inside-same l i d e (omega arith)

sum_of-tabulate : (f : ℕ → ℕ) (n : ℕ) (g : ℕ → ℕ) → sum_of f (tabulate n g) ≡ sum_to n (λ x. f (g x))
unfolding tabulate sum_of sum_to
sum_of-tabulate f zero g = refl
sum_of-tabulate f (suc n) g =
    omega (arith, ap (sum_of f) (tabulate-snoc n g), sum_of-snoc f (tabulate n g) (g n), sum_of-tabulate f n g)

-- over the first members of a list
sum_of-take : {A : Type 0} (f : A → ℕ) (d : A) (l : List A) (m : ℕ) → m ≤ length l → sum_of f (take m l) ≡ sum_to m (λ k. f (get_or l k d))
unfolding sum_of sum_to
sum_of-take f d l zero h = refl
sum_of-take f d l (suc m) h =
    ap (sum_of f) (take-suc l m d (omega (arith, h)))
    ∙ sum_of-snoc f (take m l) (get_or l m d)
    ∙ ap (λ (n : ℕ). n + f (get_or l m d)) (sum_of-take f d l m (omega (arith, h)))

-- the words of entry x
words-at : (es : List (Entry ℕ)) (rest : List ℕ) (x : ℕ) → x < length es
    → (task_at (words_of es ++ rest) x ≡ (get_or es x none).item) × (worker_at (words_of es ++ rest) x ≡ (get_or es x none).worker)
unfolding words_of
words-at [] rest x h = absurd (omega arith)
words-at (e ∷ es) rest zero h = (refl, refl)
words-at (e ∷ es) rest (suc x) h =
    let (t, w) = words-at es rest x (omega arith) in (
      ap (λ (n : ℕ). get_or (words_of (e ∷ es) ++ rest) n 0) (two-more x) ∙ t,
      ap (λ (n : ℕ). get_or (words_of (e ∷ es) ++ rest) n 0) (two-more-one x) ∙ w,
    )
  where
    two-more : (x : ℕ) → 2 * suc x ≡ suc (suc (2 * x))
    two-more x = omega arith

    two-more-one : (x : ℕ) → 2 * suc x + 1 ≡ suc (suc (2 * x + 1))
    two-more-one x = omega arith

accepted-said : (a : Answer) → Acceptance (answer_says a) → answer_says a ≡ accepted
accepted-said (Err why) h = absurd h
accepted-said (Ok u) h = refl

module _ (r : Run) where
  abbrev now : Mem
  now = memory_of r

  few-entries : entries_in now ≤ tasks now
  few-entries = (honest-run r).words.entries

  record-size : length now.executed ≡ 2 * tasks now
  record-size = (run-words r).record-size ∙ ap (λ (n : ℕ). 2 * n) (sym (tasks-reached r))

  -- entry x names a task of the graph and one of the workers
  module _ (x : ℕ) (h : x < entries_in now) where
    task-word : task_at now.executed x ≡ task_word now x
    task-word = inside-same now.executed (2 * x) 0 nil.0 (omega (arith, h, few-entries, record-size))

    worker-word : worker_at now.executed x ≡ worker_word now x
    worker-word = inside-same now.executed (2 * x + 1) 0 nil.0 (omega (arith, h, few-entries, record-size))

    entry-task : task_at now.executed x < tasks now
    unfolding places
    entry-task =
        tally-pos (dec_lt (task_at now.executed x) (tasks now))
        (omega (arith, (invariant-run r).stage (task_at now.executed x), here))
      where
        at : get_or (recorded r) x 0 ≡ task_at now.executed x
        at = ap (λ (l : List ℕ). get_or l x 0) (recorded-words r) ∙ get_d_tabulate (entries_in now) (task_word now) 0 x h ∙ sym task-word

        here : 0 < occ (task_at now.executed x) (recorded r)
        here = rw at at (at-occ ℕ_discrete 0 (recorded r) x (omega (arith, h, recorded-length r)))

    entry-worker : worker_at now.executed x < r.workers
    entry-worker = rw worker-word (recorded-workers r x (omega (arith, h, entries-word r)))

  none-bad : ¬ (BadEntry r.workers now.weights now.executed (entries_in now))
  none-bad (x, h, inl b) = omega (arith, b, entry-task x h)
  none-bad (x, h, inr (inl b)) = omega (arith, b, entry-worker x h)
  none-bad (x, h, inr (inr b)) = omega (arith, b, (honest-run r).graph.light (task_at now.executed x) (entry-task x h))

  -- what stands in the record, told from the calls
  abbrev completed : List (Entry ℕ)
  completed = entries_of (events_of r)

  all-completed : length completed ≡ entries_in now
  all-completed = ap length (sym (recounted r).executed) ∙ length-record r

  entry-adds : (i x : ℕ) → x < length completed → added_by now.weights now.executed i x ≡ finished_in r.lent i (get_or completed x none)
  unfolding added_by finished_in
  entry-adds i x h =
      let words = words-at completed (replicate (2 * tasks r.lent - 2 * accepted_completes (events_of r)) 0) x h in
      rw ((run-words r).recorded, words.0, words.1, weights-reached r)

  window-loads : (m w i : ℕ) → w + m ≤ accepted_completes (events_of r)
      → load_in now.weights now.executed m w i ≡ sum_of (finished_in r.lent i) (take m (drop w completed))
  unfolding load_in
  window-loads m w i h =
      sum_same m _ _ (λ k l. entry-adds i (w + k) (omega (arith, l, size)) ∙ ap (finished_in r.lent i) (sym (get_or-drop w completed k none)))
      ∙ sym (sum_of-take (finished_in r.lent i) none (drop w completed) m (omega (arith, size, length-drop w completed)))
    where
      size : w + m ≤ length completed
      size = omega (arith, h, all-completed, entries-word r)

  -- any call for load windows with begin's P
  module _ (limits : Limits) (m : ℕ) (results : List ℕ) where
    abbrev said : Said
    said = answer_says (windows_in limits (view_of r) m results).answer

    follows : Follows (window_rows limits r.workers m now.weights now.executed now.run results) said
    follows = windows-follow limits r.workers m now.weights now.executed now.run results

    windows-undamaged : (d : ℕ) → ¬ (said ≡ refused damaged d)
    windows-undamaged d e = go ((follows.refuses damaged d).0 e)
      where
        go : Given (window_rows limits r.workers m now.weights now.executed now.run results) damaged d → ⊥
        go (inl (n, c)) = omega (arith, n)
        go (inr (_, inl (n, c))) = omega (arith, n)
        go (inr (_, inr (_, inl (n, c)))) = omega (arith, c.1, few-entries)
        go (inr (_, inr (_, inr (_, inl (n, c))))) = omega (arith, n)
        go (inr (_, inr (_, inr (_, inr (_, inl (n, c)))))) = omega (arith, n)
        go (inr (_, inr (_, inr (_, inr (_, inr (_, inl (n, c))))))) = none-bad c.1
        go (inr (_, inr (_, inr (_, inr (_, inr (_, inr (_, g))))))) = g

    windows-accepted : tasks r.lent ≤ (capped limits).tasks → r.workers ≤ (capped limits).workers → 1 ≤ m → m ≤ accepted_completes (events_of r)
        → length results ≡ window_count (accepted_completes (events_of r)) m * (r.workers + 1) → said ≡ accepted
    windows-accepted of_tasks of_workers one few size =
        accepted-said (windows_in limits (view_of r) m results).answer
        (follows.accepts.1 (
          λ d c. far c.1,
          (
            λ d c. long c.1,
            (
              λ d c. omega (arith, c.1, few-entries),
              (
                λ d c. odd c.1,
                (
                  λ d c. c.1 (size ∙ ap (λ (n : ℕ). window_count n m * (r.workers + 1)) (sym (entries-word r))),
                  (
                    λ d c. none-bad c.1,
                    tt,
                  ),
                ),
              ),
            ),
          ),
        ))
      where
        far : ((capped limits).tasks < tasks now) ⊎ ((r.workers < 1) ⊎ ((capped limits).workers < r.workers)) → ⊥
        far (inl h) = omega (arith, h, of_tasks, tasks-reached r)
        far (inr (inl h)) = omega (arith, h, (begun-within r).one_worker)
        far (inr (inr h)) = omega (arith, h, of_workers)

        long : ¬ (length now.executed ≡ 2 * length now.weights) ⊎ ¬ (length now.run ≡ 2) → ⊥
        long (inl n) = n record-size
        long (inr n) = n (ap length (run-words r).run)

        odd : (m < 1) ⊎ (entries_in now < m) → ⊥
        odd (inl h) = omega (arith, h, one)
        odd (inr h) = omega (arith, h, few, entries-word r)

    words-loads : said ≡ accepted → (w i : ℕ) → w + m ≤ accepted_completes (events_of r) → i < r.workers
        → get_or (windows_in limits (view_of r) m results).results (w * (r.workers + 1) + i) 0
        ≡ sum_of (finished_in r.lent i) (take m (drop w completed))
    words-loads e w i h l =
        (windows-shown limits r.workers m now.weights now.executed now.run results e).load w i (omega (arith, h, entries-word r)) l
        ∙ window-loads m w i h

  -- of a finished run each task is recorded once
  module _ (f : Finished (view_of r)) where
    all-entries : entries_in now ≡ tasks r.lent
    all-entries = finished-full r f ∙ tasks-reached r

    entry-weights : sum_to (entries_in now) (weight_at now.weights now.executed) ≡ sum_to (tasks r.lent) (weight_in r.lent)
    unfolding order_of
    entry-weights =
        sum_same (entries_in now) _ _ (λ x h. ap (λ (t : ℕ). weight_in now t) (task-word x h))
        ∙ ap (λ (n : ℕ). sum_to n (λ x. weight_in now (task_word now x))) all-entries
        ∙ sym (sum_of-tabulate (weight_in now) (tasks r.lent) (task_word now))
        ∙ sum_of-all (weight_in now) (tasks r.lent) (order_of (view_of r)) ((demand-3.one r).order f).once
        ∙ ap (λ (w : List ℕ). sum_to (tasks r.lent) (λ t. get_or w t 0)) (weights-reached r)

    abbrev AddsUp : Limits → List ℕ → ℕ → Type 0
    AddsUp limits results m =
        answer_says (windows_in limits (view_of r) m results).answer ≡ accepted
        → sum_to r.workers (λ i. get_or (windows_in limits (view_of r) m results).results i 0) ≡ sum_to (tasks r.lent) (weight_in r.lent)

    windows-total : (limits : Limits) (results : List ℕ) → AddsUp limits results (tasks r.lent)
    windows-total limits results =
        subst (AddsUp limits results) all-entries
        (λ e. (windows-whole limits r.workers now.weights now.executed now.run results e).adds ∙ entry-weights)

pub load-runs : (r : Run) → LoadRuns (view_of r)
load-runs r =
    record {
      undamaged = windows-undamaged r;
      accepts = λ limits n p m results. windows-accepted r limits m results n p;
      loads = words-loads r;
      total = windows-total r;
    }
