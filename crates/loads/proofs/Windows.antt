-- PROMISES: load windows follow the published table; what is refused leaves every result word; what is accepted shows the loads.
use Prim.Native.Nat.{ℕ, zero, suc, ◌+◌, ◌*◌, ◌≤◌, ◌<◌}
use mathlib.Core.Path.{◌≡◌, refl, sym, ap, subst, ◌∙◌}
use mathlib.Core.Bool.{Bool, true}
use mathlib.Core.Logic.{◌⊎◌, inl, inr}
use mathlib.Core.List.{List, [], ◌∷◌}
use native.Mathlib.Omega.{arith}
use native.Mathlib.Decide.{ℕ_discrete, dec_lt, dec_le}
use native.Mathlib.Nat.{zero-mul, one-mul, suc-mul, zero-add, min-le_right}
use lib.ListN.{length, get_or, drop, length-append, get_or-append}
use lib.Seq.{get_or-take, get_or-drop, get_or_at}
use lib.Dec.{ltb}
use borrow.Author.Tests.{ltb-true, ltb-false}
use Rattle.std.specs.Prelude.{Err, Ok}
use Rattle.task.specs.declared.refusal.Refusal.TheVariants.{BadWindow, BeyondLimit, Damaged, WrongLength}
use Rattle.lists.specs.Lists.{joined}
use Rattle.lists.specs.Sums.{sum_to}
use Rattle.lists.proofs.Blocks.{length-tabulate, get_d_tabulate, block_at}
use Rattle.lists.proofs.Decided.{stable}
use Rattle.lists.proofs.Sums.{length-joined, sum_same}
use Rattle.lists.proofs.Told.{Told, told, told-true, told-false, lt-told, le-told, eq-told, and-told, not-told, and-true}
use Rattle.task.specs.Types.{capped}
use Rattle.task.specs.Refusals.{refused, accepted, answer_says, Answer}
use Rattle.task.specs.Rows.{Acceptance, Follows}
use Rattle.task.specs.declared.Limits.{Limits}
use Rattle.task.proofs.Rows.{follows-none, test-row}
use Rattle.loads.specs.Windows.{task_at, worker_at, weight_at, entries_word, load_in, window_sums, spread_of, with_spread, window_words, window_count, windows, counts_fit, entry_fits, record_fits, Recorded, Spans, windows_answer, shown, window_loads, BadEntry, window_rows, Spread, ShowsLoads, ShowsWhole}
use Rattle.loads.proofs.Sums.{load-most, load-whole, window-adds}
use Rattle.loads.proofs.Spread.{spread-of}

-- a number over another
over-told : (a b : ℕ) → Told (ltb a b) (a < b) (¬ (a < b))
over-told a b = told (ltb a b) (ltb-true a b) (λ e h. omega (arith, h, ltb-false a b e))

module _ (p : ℕ) (weights executed : List ℕ) where
  abbrev BadAt : ℕ → Type 0
  BadAt x = (length weights ≤ task_at executed x) ⊎ ((p ≤ worker_at executed x) ⊎ (65535 < weight_at weights executed x))

  entry-told : (x : ℕ) → Told (entry_fits p weights executed x) (¬ (BadAt x)) (BadAt x)
  unfolding entry_fits
  entry-told x =
      and-told (ltb (task_at executed x) (length weights)) _ (lt-told (task_at executed x) (length weights))
      (and-told (ltb (worker_at executed x) p) _ (lt-told (worker_at executed x) p) (le-told (weight_at weights executed x) 65535))

  -- where all fit, each does
  pub each_fits : (n : ℕ) → record_fits p weights executed n ≡ true → (x : ℕ) → x < n → entry_fits p weights executed x ≡ true
  unfolding record_fits
  each_fits zero e x h = absurd (omega arith)
  each_fits (suc n) e x h = go (dec_lt x n) (each_fits n both.0)
    where
      both : (record_fits p weights executed n ≡ true) × (entry_fits p weights executed n ≡ true)
      both = and-true (record_fits p weights executed n) (entry_fits p weights executed n) e

      go : Dec (x < n) → ((x : ℕ) → x < n → entry_fits p weights executed x ≡ true) → entry_fits p weights executed x ≡ true
      go (yes l) rest = rest x l
      go (no m) rest = let last : x ≡ n = omega (arith, h, m) in rw last both.1

  -- where none is bad
  good-recorded : (n : ℕ) → ¬ (BadEntry p weights executed n) → (x : ℕ) → x < n → Recorded p weights executed x
  good-recorded n good x h =
      record {
        task = stable (dec_lt (task_at executed x) (length weights)) (λ l. good (x, h, inl (omega (arith, l))));
        worker = stable (dec_lt (worker_at executed x) p) (λ l. good (x, h, inr (inl (omega (arith, l)))));
        light = stable (dec_le (weight_at weights executed x) 65535) (λ l. good (x, h, inr (inr (omega (arith, l)))));
      }

  record-told : (n : ℕ) → Told (record_fits p weights executed n) (¬ (BadEntry p weights executed n)) (BadEntry p weights executed n)
  unfolding record_fits
  record-told zero = told-true refl (λ b. omega (arith, b.1))
  record-told (suc n) =
      join (and-told (record_fits p weights executed n) (entry_fits p weights executed n) (record-told n) (entry-told n))
    where
      later : BadEntry p weights executed n ⊎ BadAt n → BadEntry p weights executed (suc n)
      later (inl b) = (b.0, omega (arith, b.1), b.2)
      later (inr b) = (n, omega arith, b)

      split : (x : ℕ) → x < suc n → BadAt x → Dec (x < n) → BadEntry p weights executed n ⊎ BadAt n
      split x h b (yes l) = inl (x, l, b)
      split x h b (no m) = let last : x ≡ n = omega (arith, h, m) in inr (subst BadAt last b)

      join : {b : Bool} → Told b (¬ (BadEntry p weights executed n ⊎ BadAt n)) (BadEntry p weights executed n ⊎ BadAt n)
          → Told b (¬ (BadEntry p weights executed (suc n))) (BadEntry p weights executed (suc n))
      join (told-true e f) = told-true e (λ b. f (split b.0 b.1 b.2 (dec_lt b.0 n)))
      join (told-false e b) = told-false e (later b)

-- the words of windows: blocks of P+1
module _ (p : ℕ) (weights executed : List ℕ) (m : ℕ) where
  pub sums-size : (w : ℕ) → length (window_sums p weights executed m w) ≡ p
  unfolding window_sums
  sums-size w = length-tabulate p (load_in weights executed m w)

  pub words_size : (w : ℕ) → length (window_words p weights executed m w) ≡ p + 1
  unfolding with_spread
  words_size w =
      omega (arith, sums-size w, length-append (window_sums p weights executed m w) (spread_of (window_sums p weights executed m w) ∷ []))

  words-before : (n : ℕ) → sum_to n (λ w. length (window_words p weights executed m w)) ≡ n * (p + 1)
  unfolding sum_to
  words-before zero = omega (arith, zero-mul (p + 1))
  words-before (suc n) = omega (arith, words-before n, words_size n, suc-mul n (p + 1))

  windows_size : (entries : ℕ) → length (windows p weights executed entries m) ≡ window_count entries m * (p + 1)
  unfolding windows
  windows_size entries = length-joined (window_count entries m) (window_words p weights executed m) ∙ words-before (window_count entries m)

  -- word x of window w
  window-at : (entries w x : ℕ) → w < window_count entries m → x < p + 1
      → get_or (windows p weights executed entries m) (w * (p + 1) + x) 0 ≡ get_or (window_words p weights executed m w) x 0
  unfolding windows
  window-at entries w x h l =
      ap (λ (k : ℕ). get_or all (k + x) 0) (sym (words-before w))
      ∙ sym (get_or-drop (sum_to w size) all x 0)
      ∙ sym (get_or-take (size w) (drop (sum_to w size) all) x 0 (omega (arith, l, words_size w)))
      ∙ ap (λ (words : List ℕ). get_or words x 0) (block_at (window_words p weights executed m) (window_count entries m) w h)
    where
      all : List ℕ
      all = joined (window_count entries m) (window_words p weights executed m)

      size : ℕ → ℕ
      size k = length (window_words p weights executed m k)

  sum-at-place : (w i : ℕ) → i < p → get_or (window_sums p weights executed m w) i 0 ≡ load_in weights executed m w i
  unfolding window_sums
  sum-at-place w i h = get_d_tabulate p (load_in weights executed m w) 0 i h

  load_at : (w i : ℕ) → i < p → get_or (window_words p weights executed m w) i 0 ≡ get_or (window_sums p weights executed m w) i 0
  unfolding with_spread
  load_at w i h =
      get_or-append (window_sums p weights executed m w) (spread_of (window_sums p weights executed m w) ∷ []) 0 i (omega (arith, h, sums-size w))

  spread_at : (w : ℕ) → get_or (window_words p weights executed m w) p 0 ≡ spread_of (window_sums p weights executed m w)
  unfolding with_spread
  spread_at w = get_or_at (window_sums p weights executed m w) (spread_of (window_sums p weights executed m w)) [] 0 p (sums-size w)

-- all of them, as an accepted call leaves them
module _ (p m : ℕ) (weights executed run : List ℕ) (s : Spans p weights executed (entries_word run) m) where
  abbrev shown-words : List ℕ
  shown-words = windows p weights executed (entries_word run) m

  module _ (w : ℕ) (h : w + m ≤ entries_word run) where
    inside : w < window_count (entries_word run) m
    inside = omega (arith, h)

    sum-shown : (i : ℕ) → i < p → get_or shown-words (w * (p + 1) + i) 0 ≡ get_or (window_sums p weights executed m w) i 0
    sum-shown i l = window-at p weights executed m (entries_word run) w i inside (omega (arith, l)) ∙ load_at p weights executed m w i l

    load-shown : (i : ℕ) → i < p → get_or shown-words (w * (p + 1) + i) 0 ≡ load_in weights executed m w i
    load-shown i l = sum-shown i l ∙ sum-at-place p weights executed m w i l

    load-few : (i : ℕ) → i < p → get_or shown-words (w * (p + 1) + i) 0 ≤ 67107840
    load-few i l =
        omega (
          arith,
          load-shown i l,
          load-most weights executed m w i (λ k q. (s.recorded (w + k) (omega (arith, h, q))).light),
          s.window,
          s.few_entries,
        )

    spread-shown : Spread p (λ i. get_or shown-words (w * (p + 1) + i) 0) (get_or shown-words (w * (p + 1) + p) 0)
    spread-shown =
        subst (Spread p (λ i. get_or shown-words (w * (p + 1) + i) 0))
        (sym (window-at p weights executed m (entries_word run) w p inside (omega arith) ∙ spread_at p weights executed m w))
        (spread-of p (window_sums p weights executed m w) _ (sums-size p weights executed m w) s.some_workers sum-shown)

  windows-show : ShowsLoads p m weights executed run shown-words
  windows-show =
      record {
        size = windows_size p weights executed m (entries_word run);
        load = λ w i h. load-shown w h i;
        most = λ w i h. load-few w h i;
        spread = spread-shown;
        adds = λ w h.
            sum_same p _ _ (load-shown w h) ∙ window-adds weights executed p m w (λ k l. (s.recorded (w + k) (omega (arith, h, l))).worker);
      }

-- with m = entries
whole-shown : (p : ℕ) (weights executed run words : List ℕ) → ShowsLoads p (entries_word run) weights executed run words
    → ShowsWhole p weights executed run words
whole-shown p weights executed run words s =
    record {
      size = s.size ∙ ap (λ (c : ℕ). c * (p + 1)) one ∙ one-mul (p + 1);
      load = λ i h. at i ∙ s.load 0 i (omega arith) h ∙ load-whole weights executed (entries_word run) i;
      adds =
          sum_same p _ _ (λ i h. at i)
          ∙ s.adds 0 (omega arith)
          ∙ sum_same (entries_word run) _ _ (λ k h. ap (weight_at weights executed) (zero-add k));
    }
  where
    one : window_count (entries_word run) (entries_word run) ≡ 1
    one = omega arith

    first : (i : ℕ) → 0 * (p + 1) + i ≡ i
    first i = omega (arith, zero-mul (p + 1))

    at : (i : ℕ) → get_or words i 0 ≡ get_or words (0 * (p + 1) + i) 0
    at i = ap (λ (x : ℕ). get_or words x 0) (sym (first i))

module _ (limits : Limits) (p m : ℕ) (weights executed run results : List ℕ) where
  answer-follows : Follows (window_rows limits p m weights executed run results)
      (answer_says (windows_answer limits p m weights executed run (length results)))
  unfolding windows_answer counts_fit
  answer-follows =
      test-row _ BeyondLimit _ _
      (not-told _ (and-told _ _ (le-told (length weights) (capped limits).tasks) (and-told _ _ (le-told 1 p) (le-told p (capped limits).workers))))
      (λ _.
      test-row _ WrongLength _ _ (not-told _ (and-told _ _ (eq-told (length executed) (2 * length weights)) (eq-told (length run) 2))) (λ _.
      test-row _ Damaged _ _ (over-told (length weights) (entries_word run)) (λ _.
      test-row _ BadWindow _ _ (not-told _ (and-told _ _ (le-told 1 m) (le-told m (entries_word run)))) (λ _.
      test-row _ WrongLength _ _ (not-told _ (eq-told (length results) (window_count (entries_word run) m * (p + 1)))) (λ _.
      test-row _ Damaged _ _ (not-told _ (record-told p weights executed (entries_word run))) (λ _.
      follows-none accepted tt))))))

  -- what an accepted answer says of the lent lists
  pub record Admitted : Type 0 where
    pub spans : Spans p weights executed (entries_word run) m
    pub words : length run ≡ 2
    pub room : length results ≡ window_count (entries_word run) m * (p + 1)

  pub admitted : windows_answer limits p m weights executed run (length results) ≡ Ok tt → Admitted
  unfolding capped
  admitted e =
      let (far, (long, (over, (odd, (short, (bad, end)))))) = answer-follows.accepts.0 (subst Acceptance (ap answer_says (sym e)) tt) in
      let tasks : length weights ≤ (capped limits).tasks = stable (dec_le _ _) (λ n. far 0 (refl, inl (omega (arith, n)))) in
      let workers : p ≤ (capped limits).workers = stable (dec_le _ _) (λ n. far 0 (refl, inr (inr (omega (arith, n))))) in
      let entries : entries_word run ≤ length weights = stable (dec_le _ _) (λ n. over 0 (refl, omega (arith, n))) in
      let size : length executed ≡ 2 * length weights = stable (ℕ_discrete _ _) (λ n. long 0 (refl, inl n)) in
      record {
        spans = record {
          some_workers = stable (dec_le 1 p) (λ n. far 0 (refl, inr (inl (omega (arith, n)))));
          few_workers = omega (arith, workers, min-le_right limits.workers 16);
          some_entries = stable (dec_le 1 m) (λ n. odd 0 (refl, inl (omega (arith, n))));
          window = stable (dec_le m (entries_word run)) (λ n. odd 0 (refl, inr (omega (arith, n))));
          few_entries = omega (arith, entries, tasks, min-le_right limits.tasks 1024);
          inside = omega (arith, entries, size);
          recorded = λ x h. good-recorded p weights executed (entries_word run) (λ b. bad 0 (refl, b)) x h;
        };
        words = stable (ℕ_discrete _ _) (λ n. long 0 (refl, inr n));
        room = stable (ℕ_discrete _ _) (λ n. short 0 (refl, n));
      }

  -- PROMISE: "Refused: 15 for m zero or above the entries recorded, after 2 and every length check but that of the result words, .."
  pub windows-follow : Follows (window_rows limits p m weights executed run results)
      (answer_says (window_loads limits p m weights executed run results).answer)
  unfolding window_loads
  windows-follow = go (windows_answer limits p m weights executed run (length results)) answer-follows
    where
      go : (a : Answer) → Follows (window_rows limits p m weights executed run results) (answer_says a)
          → Follows (window_rows limits p m weights executed run results)
          (answer_says (shown a (windows p weights executed (entries_word run) m) results).answer)
      go (Err why) f = f
      go (Ok u) f = f

  -- what the call comes to, by its answer
  pub call-is : (a : Answer) → windows_answer limits p m weights executed run (length results) ≡ a
      → window_loads limits p m weights executed run results ≡ shown a (windows p weights executed (entries_word run) m) results
  unfolding window_loads
  call-is a e = ap (λ x. shown x (windows p weights executed (entries_word run) m) results) e

  -- PROMISE: "all lent memory keeps its words": weights, record and run words are lent shared, and the results are what they were
  pub windows-leaves : (n d : ℕ) → answer_says (window_loads limits p m weights executed run results).answer ≡ refused n d
      → (window_loads limits p m weights executed run results).results ≡ results
  windows-leaves n d e = go (windows_answer limits p m weights executed run (length results)) (call-is _ refl)
    where
      go : (a : Answer) → window_loads limits p m weights executed run results ≡ shown a (windows p weights executed (entries_word run) m) results
          → (window_loads limits p m weights executed run results).results ≡ results
      go (Err why) q = ap (λ l. l.results) q
      go (Ok u) q = absurd (subst Acceptance (rw q at e) tt)

  -- PROMISE: an accepted call shows the loads of every window in order
  pub windows-shown : answer_says (window_loads limits p m weights executed run results).answer ≡ accepted
      → ShowsLoads p m weights executed run (window_loads limits p m weights executed run results).results
  windows-shown e = go (windows_answer limits p m weights executed run (length results)) refl (call-is _ refl)
    where
      go : (a : Answer) → windows_answer limits p m weights executed run (length results) ≡ a
          → window_loads limits p m weights executed run results ≡ shown a (windows p weights executed (entries_word run) m) results
          → ShowsLoads p m weights executed run (window_loads limits p m weights executed run results).results
      go (Err why) f q = absurd (subst Acceptance (sym (rw q at e)) tt)
      go (Ok u) f q = rw q (windows-show p m weights executed run (admitted f).spans)

-- PROMISE: with m = entries the loads are each worker's whole; without entries m is refused, so no such call is accepted
pub windows-whole : (limits : Limits) (p : ℕ) (weights executed run results : List ℕ)
    → answer_says (window_loads limits p (entries_word run) weights executed run results).answer ≡ accepted
    → ShowsWhole p weights executed run (window_loads limits p (entries_word run) weights executed run results).results
windows-whole limits p weights executed run results e =
    whole-shown p weights executed run _ (windows-shown limits p (entries_word run) weights executed run results e)
