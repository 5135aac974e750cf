-- What the reader's functions find in lines: the next line that is not skipped, numbers one after another, a task's line.
use Prim.Native.Nat.{ℕ, suc, ◌+◌, ◌≤◌, ◌<◌, min}
use mathlib.Core.Path.{◌≡◌, refl, sym, ap, ◌∙◌}
use mathlib.Core.Bool.{Bool, true, false, not, ◌&&◌, ◌||◌}
use mathlib.Core.Option.{Option, none, some}
use mathlib.Core.List.{List, [], ◌∷◌, ◌++◌, append_assoc, append-nil}
use native.Mathlib.Omega.{arith}
use native.Mathlib.Decide.{dec_lt}
use native.Mathlib.Numerals.{add-one}
use native.Mathlib.Nat.{add-zero}
use lib.ListN.{length, take, drop, set, drop_of_length-le, length-append, length-set}
use lib.Dec.{eqb, ltb}
use borrow.Author.Tests.{ltb-false, le-ltb}
use Rattle.lists.proofs.Apart.{unequal, true-and-false}
use Rattle.lists.proofs.Appends.{append-longer, append-cancel}
use Rattle.lists.proofs.Decided.{stable}
use Rattle.lists.proofs.Told.{and-true}
use Rattle.lists.proofs.Prefixes.{take-store}
use Rattle.layout.specs.Marks.{Numbers}
use Rattle.layout.specs.Tasks.{Task, task}
use Rattle.layout.specs.Layout.{task_row}
use Rattle.layout.specs.Reader.{lines, skippable, skipped, row_of, dummy_fits, task_of, contents}
use Rattle.layout.specs.Scan.{line_at, row_at, rest_at, prepend, NoField, Trimmed, NextLine}
use Rattle.layout.specs.Scan.{NumbersAt, Found, found, missing, Closes, closes, stays_open}
use Rattle.layout.specs.Scan.{NextContent, content, no-content, Filling, Filled, filled, too_few, Head, HeadFound, head, no-head, FirstFound, first, not_first}
use Rattle.layout.proofs.Pieces.{lines-nil, row-trim, skipped-is}
use Rattle.layout.proofs.Clauses.{Fitting, task-some, task-none, contents-nil, contents-skip, contents-line}
use Rattle.layout.proofs.Places.{lines_at, next-later, end_line}

-- Numbers in front of a row.

prepend-none : (r : Option Numbers) → r ≡ prepend [] r
prepend-none none = refl
prepend-none (some row) = refl

prepend-append : (us vs : List ℕ) (r : Option Numbers) → prepend us (prepend vs r) ≡ prepend (us ++ vs) r
prepend-append us vs none = refl
prepend-append us vs (some row) = rw append_assoc

-- what stands behind them
prepend-some : (vs : List ℕ) (r : Option Numbers) (row : Numbers) → prepend vs r ≡ some row → (rest : Numbers) × (r ≡ some rest) × (vs ++ rest ≡ row)
prepend-some vs none row e = unequal cc
prepend-some vs (some rest) row e = (rest, refl, cc)

module _ {text : List ℕ} where
  numbers-none : {at : ℕ} → at ≤ length text → NumbersAt text at [] at
  numbers-none {at} h = record { inside = h; row = prepend-none (row_at text at); rest = refl }

  numbers_more : {at p q : ℕ} {us vs : List ℕ} → NumbersAt text at us p → NumbersAt text p vs q → NumbersAt text at (us ++ vs) q
  numbers_more {at} {p} {q} {us} {vs} m n =
      record {
        inside = n.inside;
        row = m.row ∙ ap (prepend us) n.row ∙ prepend-append us vs (row_at text q);
        rest = n.rest ∙ m.rest;
      }

  numbers-next : {at p q : ℕ} {vs : List ℕ} → NumbersAt text at vs p → NextLine text p q → NextLine text at q
  numbers-next m n = record { inside = n.inside; rest = n.rest ∙ m.rest }

  -- numbers found are those that stand there, and the rest of the row stands behind them
  behind : {at p : ℕ} {vs : List ℕ} (us : List ℕ) {row : Numbers} → NumbersAt text at vs p → row_at text at ≡ some (us ++ row) → length vs ≡ length us
      → (vs ≡ us) × (row_at text p ≡ some row)
  behind {at} {p} {vs} us {row} m e h = go (prepend-some vs (row_at text p) (us ++ row) (sym m.row ∙ e))
    where
      go : (rest : Numbers) × (row_at text p ≡ some rest) × (vs ++ rest ≡ us ++ row) → (vs ≡ us) × (row_at text p ≡ some row)
      go (rest, f, g) = ((append-cancel vs us rest row g h).0, f ∙ ap some (append-cancel vs us rest row g h).1)

  -- the number found is the one that stands there
  found-is : {at v next a : ℕ} {row : Numbers} → Found text at v next → row_at text at ≡ some (a ∷ row) → (v ≤ 65535) × (v ≡ a)
  found-is {v = v} {a = a} (found k m) e = go (behind (a ∷ []) m e refl).0
    where
      go : (v ∷ []) ≡ (a ∷ []) → (v ≤ 65535) × (v ≡ a)
      go q = (k, cc)
  found-is {a = a} {row = row} (missing k n) e = absurd (n a row e)

  pub found-numbers : {at v next : ℕ} → Found text at v next → v ≤ 65535 → NumbersAt text at (v ∷ []) next
  found-numbers (found k m) h = m
  found-numbers (missing k n) h = absurd (omega arith)

  pub found-not : {at v next : ℕ} → Found text at v next → 65535 < v → NoField (row_at text at)
  found-not (found k m) h = absurd (omega arith)
  found-not (missing k n) h = n

-- The next line that is not skipped.

busy : (c : List ℕ) → skippable c ≡ false → 0 < length c
busy [] e = unequal cc
busy (b ∷ c) e = omega arith

-- the lines from a place on have no contents but those from p on
pub record Skimmed (text : List ℕ) (at line p l : ℕ) : Type 0 where
  pub inside : p ≤ length text
  pub counted : l ≤ suc p
  pub same : contents line (lines (drop at text)) ≡ contents l (lines (drop p text))
  pub total : line + length (lines (drop at text)) ≡ l + length (lines (drop p text))

pub skim-none : {text : List ℕ} {at line : ℕ} → at ≤ length text → line ≤ suc at → Skimmed text at line at line
skim-none h k = record { inside = h; counted = k; same = refl; total = refl }

module _ {text : List ℕ} {at line p l : ℕ} (s : Skimmed text at line p l) where
  module _ {m : ℕ} (h : p < length text) (k : Trimmed text p m) where
    from-here : contents line (lines (drop at text)) ≡ contents l (line_at text p ∷ lines (rest_at text p))
    from-here = s.same ∙ ap (contents l) (lines_at text p h)

    trimmed-skips : {o : Bool} → skippable (line_at text m) ≡ o → skipped (line_at text p) ≡ o
    trimmed-skips e = skipped-is (line_at text p) ∙ (rw k.line at e)

    pub skim-content : skippable (line_at text m) ≡ false → NextContent text at line m l
    skim-content e =
        content (line_at text p) inside (omega (arith, s.counted, k.onward))
        (sym (row-trim (line_at text p)) ∙ ap row_of (sym k.line))
        (rw k.rest (from-here ∙ contents-line l (line_at text p) (lines (rest_at text p)) (trimmed-skips e)))
        (rw k.rest (omega (arith, s.total, ap length (lines_at text p h))))
      where
        inside : m < length text
        inside = stable (dec_lt m (length text)) (λ n. omega (arith, busy (line_at text m) e, ap length (end_line text m (omega arith))))

    module _ {q : ℕ} (n : NextLine text m q) where
      pub skim-on : p < q
      skim-on = next-later text p q h (record { inside = n.inside; rest = n.rest ∙ k.rest })

      pub skim-more : skippable (line_at text m) ≡ true → Skimmed text at line q (l + 1)
      skim-more e =
          record {
            inside = n.inside;
            counted = omega (arith, s.counted, skim-on);
            same = rw (add-one l, n.rest, k.rest) (from-here ∙ contents-skip l (line_at text p) (lines (rest_at text p)) (trimmed-skips e));
            total = rw (n.rest, k.rest) (omega (arith, s.total, ap length (lines_at text p h)));
          }

  pub skim-end : length text ≤ p → NextContent text at line p l
  skim-end h =
      no-content (omega (arith, s.inside)) s.counted (s.same ∙ rw none_left (contents-nil l)) (omega (arith, s.total, ap length none_left))
    where
      none_left : lines (drop p text) ≡ []
      none_left = ap lines (drop_of_length-le text h) ∙ lines-nil

-- Count numbers of a line, one after another.

pub fill_none : {text : List ℕ} {at e : ℕ} {words : List ℕ} → at ≤ length text → length words ≡ 8193 → Filling text at e words at e words
fill_none {text} {at} {e} {words} h k =
    record { values = []; counted = add-zero e; numbers = numbers-none h; room = k; taken = λ _. sym (append-nil (take e words)) }

module _ {text : List ℕ} {at e : ℕ} {words : List ℕ} {p k : ℕ} {new : List ℕ} (f : Filling text at e words p k new) where
  pub fill_more : {v next place : ℕ} → NumbersAt text p (v ∷ []) next → place ≡ min k 8192 → Filling text at e words next (k + 1) (set new place v)
  fill_more {v} {next} {place} n s =
      record {
        values = f.values ++ (v ∷ []);
        counted = omega (arith, length-append f.values (v ∷ []), f.counted);
        numbers = numbers_more f.numbers n;
        room = omega (arith, length-set new place v, f.room);
        taken = more;
      }
    where
      more : k + 1 ≤ 8192 → take (k + 1) (set new place v) ≡ take e words ++ (f.values ++ (v ∷ []))
      more h =
          rw there
          (take-store new k v (omega (arith, f.room)) ∙ ap (λ l. l ++ (v ∷ [])) (f.taken (omega arith))
          ∙ append_assoc (take e words) f.values (v ∷ []))
        where
          there : place ≡ k
          there = omega arith

  pub fill-short : {count : ℕ} → k < e + count → NoField (row_at text p)
      → (us : List ℕ) (row : Numbers) → length us ≡ count → ¬ (row_at text at ≡ some (us ++ row))
  fill-short {count} h n us row q r = go (prepend-some f.values (row_at text p) (us ++ row) (sym f.numbers.row ∙ r))
    where
      go : (rest : Numbers) × (row_at text p ≡ some rest) × (f.values ++ rest ≡ us ++ row) → ⊥
      go (rest, g, j) = stop (append-longer f.values us rest row j (omega (arith, f.counted)))
        where
          stop : (u : ℕ) × (l : List ℕ) × (rest ≡ u ∷ l) → ⊥
          stop (u, l, q) = n u l (g ∙ ap some q)

  pub fill-whole : {count : ℕ} → k ≡ e + count → Filled text at count e true p words new
  fill-whole h = filled refl (rw (sym h) f)

-- A task's row.

-- the row spells no task t
abbrev NoTask : ℕ → Bool → Option Numbers → Type 0
NoTask t last r = (x : Task) → r ≡ some (task_row t x) → ¬ (Fitting t last x)

-- the tests of a time and of a count: too large, or not 0 where only 0 fits
passes : (a b c : Bool) → (a || (not b && c)) ≡ false → (a ≡ false) × ((b || not c) ≡ true)
passes true b c e = true-and-false refl e
passes false true c e = (refl, refl)
passes false false true e = true-and-false refl e
passes false false false e = (refl, refl)

fails : (a b c : Bool) → (a || (not b && c)) ≡ true → a ≡ false → ¬ ((b || not c) ≡ true)
fails true b c e f g = true-and-false refl f
fails false true c e f g = true-and-false e refl
fails false false true e f g = true-and-false g refl
fails false false false e f g = true-and-false e refl

abbrev pub wrong : ℕ → Bool → Bool
wrong v zeroed = ltb 65535 v || (not (eqb v 0) && zeroed)

small : (v : ℕ) (zeroed : Bool) → wrong v zeroed ≡ false → v ≤ 65535
small v z e = ltb-false 65535 v (passes (ltb 65535 v) (eqb v 0) z e).0

wrong-value : {text : List ℕ} {p v next a : ℕ} {row : Numbers} (z : Bool) → Found text p v next → row_at text p ≡ some (a ∷ row) → wrong v z ≡ true
    → ¬ ((eqb a 0 || not z) ≡ true)
wrong-value {v = v} z f e w g =
    fails (ltb 65535 v) (eqb v 0) z w (le-ltb 65535 v (found-is f e).0) (ap (λ n. eqb n 0 || not z) (found-is f e).1 ∙ g)

-- The first three numbers of task t's line.

module _ {text : List ℕ} {at t : ℕ} {last : Bool} {time count next : ℕ} where
  -- a line that spells no task t has no head, whatever else is answered
  headless : NoTask t last (row_at text at) → HeadFound text at t last false time count next
  headless n = no-head refl (task-none t last (row_at text at) n)

  pub number-wrong : {v q : ℕ} → Found text at v q → ¬ (v ≡ t) → HeadFound text at t last false time count next
  number-wrong f n = headless (λ x e g. n (found-is f e).1)

  pub time-wrong : {p v q : ℕ} → NumbersAt text at (t ∷ []) p → Found text p v q → wrong v (eqb t 0 || last) ≡ true
      → HeadFound text at t last false time count next
  time-wrong m f w =
      headless
      (λ x e g. wrong-value (eqb t 0 || last) f (behind (t ∷ []) m e refl).1 w
      (and-true (eqb x.time 0 || not (eqb t 0 || last)) (eqb (length x.preds) 0 || not (eqb t 0)) g).0)

  pub count-wrong : {p u v q : ℕ} → NumbersAt text at (t ∷ u ∷ []) p → Found text p v q → wrong v (eqb t 0) ≡ true
      → HeadFound text at t last false time count next
  count-wrong m f w =
      headless
      (λ x e g. wrong-value (eqb t 0) f (behind (t ∷ x.time ∷ []) m e refl).1 w
      (and-true (eqb x.time 0 || not (eqb t 0 || last)) (eqb (length x.preds) 0 || not (eqb t 0)) g).1)

module _ {text : List ℕ} {at t : ℕ} where
  pub number-right : {v next : ℕ} → Found text at v next → v ≡ t → t < 1024 → NumbersAt text at (t ∷ []) next
  number-right f e h = rw e at (found-numbers f (omega arith))

  module _ (last : Bool) {p time next : ℕ} (m : NumbersAt text at (t ∷ []) p) (f : Found text p time next)
      (e : wrong time (eqb t 0 || last) ≡ false) where
    pub time-right : NumbersAt text at (t ∷ time ∷ []) next
    time-right = numbers_more m (found-numbers f (small time (eqb t 0 || last) e))

    pub count-right : {count q : ℕ} → Found text next count q → wrong count (eqb t 0) ≡ false → HeadFound text at t last true time count q
    count-right {count} g k =
        head refl (record {
          few = small count (eqb t 0) k;
          fits = both;
          numbers = numbers_more time-right (found-numbers g (small count (eqb t 0) k));
        })
      where
        both : dummy_fits t last time count ≡ true
        both = rw ((passes (ltb 65535 time) (eqb time 0) (eqb t 0 || last) e).1, (passes (ltb 65535 count) (eqb count 0) (eqb t 0) k).1) refl

-- A task's line.

pub head-is : {text : List ℕ} {at t : ℕ} {last fits : Bool} {time count next : ℕ} → HeadFound text at t last fits time count next → fits ≡ true
    → Head text at t last time count next
head-is (head e h) f = h
head-is (no-head e n) f = true-and-false f e

pub head-not : {text : List ℕ} {at t : ℕ} {last fits : Bool} {time count next : ℕ} → HeadFound text at t last fits time count next → fits ≡ false
    → task_of t last (row_at text at) ≡ none
head-not (head e h) f = true-and-false e f
head-not (no-head e n) f = n

pub filled_is : {text : List ℕ} {at count e next : ℕ} {full : Bool} {words new : List ℕ} → Filled text at count e full next words new → full ≡ true
    → Filling text at e words next (e + count) new
filled_is (filled o f) q = f
filled_is (too_few o n) q = true-and-false q o

pub closes-is : {text : List ℕ} {at next : ℕ} {closed : Bool} → Closes text at closed next → closed ≡ true
    → (row_at text at ≡ some []) × NextLine text at next
closes-is (closes o r n) q = (r, n)
closes-is (stays_open o n) q = true-and-false q o

pub closes-not : {text : List ℕ} {at next : ℕ} {closed : Bool} → Closes text at closed next → closed ≡ false → ¬ (row_at text at ≡ some [])
closes-not (closes o r n) q = true-and-false o q
closes-not (stays_open o n) q = n

module _ {text : List ℕ} {at t : ℕ} {last : Bool} {time count p : ℕ} (h : Head text at t last time count p) where
  -- the predecessors of a task stand behind its head, as many as counted
  preds-behind : (x : Task) → row_at text at ≡ some (task_row t x) → (length x.preds ≡ count) × (row_at text p ≡ some (x.preds ++ []))
  preds-behind x e = go (behind (t ∷ x.time ∷ length x.preds ∷ []) h.numbers e refl)
    where
      go : ((t ∷ time ∷ count ∷ []) ≡ (t ∷ x.time ∷ length x.preds ∷ [])) × (row_at text p ≡ some x.preds)
          → (length x.preds ≡ count) × (row_at text p ≡ some (x.preds ++ []))
      go (f, g) = (cc, g ∙ ap some (sym (append-nil x.preds)))

  pub line-short : {e next : ℕ} {full : Bool} {words new : List ℕ} → Filled text p count e full next words new → full ≡ false
      → task_of t last (row_at text at) ≡ none
  line-short (filled o f) q = true-and-false o q
  line-short (too_few o n) q =
      task-none t last (row_at text at)
      (λ x e g. n x.preds [] (preds-behind x e).0 (preds-behind x e).1)

  module _ {e next : ℕ} {words new : List ℕ} (f : Filling text p e words next (e + count) new) where
    line-count : length f.values ≡ count
    line-count = omega (arith, f.counted)

    pub line-open : ¬ (row_at text next ≡ some []) → task_of t last (row_at text at) ≡ none
    line-open n =
        task-none t last (row_at text at)
        (λ x e g. n (behind x.preds f.numbers (preds-behind x e).1 (line-count ∙ sym (preds-behind x e).0)).1)

    pub line-task : row_at text next ≡ some [] → task_of t last (row_at text at) ≡ some (record { time = time; preds = f.values })
    line-task e = rw row (task-some t last (task time f.values) (rw line-count h.fits))
      where
        row : row_at text at ≡ some (t ∷ time ∷ length f.values ∷ f.values)
        row =
            rw line-count
            (h.numbers.row ∙ ap (prepend (t ∷ time ∷ count ∷ [])) (f.numbers.row ∙ ap (prepend f.values) e ∙ ap some (append-nil f.values)))

    pub line-next : {q : ℕ} → NextLine text next q → NextLine text at q
    line-next n = numbers-next h.numbers (numbers-next f.numbers n)

-- The first line.

module _ {text : List ℕ} {at : ℕ} where
  pub first-none : {next : ℕ} → NoField (row_at text at) → FirstFound text at 0 next
  first-none n = not_first refl (λ v. n v [])

  module _ {v p : ℕ} (m : NumbersAt text at (v ∷ []) p) where
    pub first-open : {next : ℕ} → ¬ (row_at text p ≡ some []) → FirstFound text at 0 next
    first-open n = not_first refl (λ u e. n (behind (u ∷ []) m e refl).1)

    pub first-whole : {next : ℕ} → v ≤ 65535 → (row_at text p ≡ some []) × NextLine text p next → FirstFound text at (v + 2) next
    first-whole k (e, n) = first v refl k (m.row ∙ ap (prepend (v ∷ [])) e) (numbers-next m n)
