-- The reader's tables while tasks are read, and its verdict from a place on.
use Prim.Native.Nat.{ℕ, zero, suc, ◌+◌, ◌≤◌, ◌<◌}
use mathlib.Core.Path.{◌≡◌, refl, sym, ap, ◌∙◌}
use mathlib.Core.Bool.{true, false}
use mathlib.Core.Option.{Option, none, some}
use mathlib.Core.List.{List, [], ◌∷◌, ◌++◌}
use native.Mathlib.Omega.{arith}
use native.Mathlib.Numerals.{add-one}
use lib.ListN.{length, get_or, set, take, drop, length-append, length-set}
use lib.Seq.{length-take-le}
use lib.Dec.{eqb, leb}
use borrow.Author.Tests.{eq-eqb, ne_eqb, le-leb, lt-leb}
use Rattle.std.specs.Prelude.{Err, Ok}
use Rattle.task.specs.declared.refusal.Refusal.{Refusal}
use Rattle.task.specs.declared.refusal.Refusal.TheVariants.{BeyondLimit, WrongLength}
use Rattle.lists.proofs.Prefixes.{take_more, take-store}
use Rattle.task.specs.Refusals.{ReadAnswer}
use Rattle.layout.specs.Tasks.{Task, weights_of, starts_from, starts_of, preds_of, edges_of}
use Rattle.layout.specs.Reader.{lines, row_of, task_of, numbered, contents, Verdict, broken, over, more, headed, verdict, read_as, onto, laid, lent_fit, read_text}
use Rattle.layout.specs.Scan.{row_at, rest_at, NextLine, NextContent, content, no-content, FirstFound, first, not_first, Outcome, tasks-read, line-broken, limit-passed, weight_count, start_count, pred_count, due_from}
use Rattle.layout.proofs.Clauses.{all_read, line_after, ends-early, one_more, not-headed, verdict-is}
use Rattle.layout.proofs.Tables.{weights-snoc, preds-snoc, edges-snoc, starts-snoc}
use Rattle.layout.proofs.Answers.{lent-room, laid-spelled, laid-broken, laid-over, read-wrong, read-long, read-judged}
use Rattle.layout.proofs.Places.{next-later}

-- where the next line that is not skipped stands, and its number
module _ {text : List ℕ} {at line place number : ℕ} where
  pub place_of : NextContent text at line place number → ¬ (place ≡ length text) → (place < length text) × (number ≤ suc place)
  place_of (content c h l r q k) a = (h, l)
  place_of (no-content h l q k) a = absurd (a h)

  pub number_small : NextContent text at line place number → number ≤ suc (length text)
  number_small (content c h l r q k) = omega (arith, h, l)
  number_small (no-content h l q k) = omega (arith, h, l)

  pub line-counted : {next : ℕ} → NextContent text at line place number → ¬ (place ≡ length text) → NextLine text place next → number + 1 ≤ suc next
  line-counted {next} k a m = omega (arith, place_of k a, next-later text place next (place_of k a).0 m)

-- Tasks that are read.

-- v is the verdict, t tasks with e edges are done, and a line that starts at a place is next
pub record SoFar (v : Verdict) (text : List ℕ) (n : ℕ) (w s p : List ℕ) (at line t e : ℕ) : Type 0 where
  pub done : List Task
  pub left : ℕ
  pub tasks : length done ≡ t
  pub due : t + left ≡ n
  pub few : n ≤ 1024
  pub inside : at ≤ length text
  pub short : length text ≤ 65536
  pub counted : line ≤ suc at
  pub edges : edges_of done ≡ e
  pub limit : e ≤ 8192
  pub weights : take t w ≡ weights_of done
  pub starts : take (t + 1) s ≡ starts_of done
  pub preds : take e p ≡ preds_of done
  pub room-w : length w ≡ 1024
  pub room-s : length s ≡ 1025
  pub room-p : length p ≡ 8193
  pub rest : v ≡ due_from (drop at text) line left done

pub so-far-none : (text : List ℕ) (at line n : ℕ) (w s p : List ℕ) → n ≤ 1024 → at ≤ length text → length text ≤ 65536 → line ≤ suc at
    → length w ≡ 1024 → length s ≡ 1025 → get_or s 0 0 ≡ 0 → length p ≡ 8193
    → SoFar (due_from (drop at text) line n []) text n w s p at line 0 0
unfolding weights_of starts_from preds_of
so-far-none text at line n w s p few inside short counted lw ls zero-first lp = record {
  done = [];
  left = n;
  tasks = refl;
  due = omega arith;
  few = few;
  inside = inside;
  short = short;
  counted = counted;
  edges = refl;
  limit = omega arith;
  weights = refl;
  starts = take_more s 0 (omega (arith, ls)) ∙ ap (λ (x : ℕ). x ∷ []) zero-first;
  preds = refl;
  room-w = lw;
  room-s = ls;
  room-p = lp;
  rest = refl;
}

-- whether none is left after this one, as the code asks it
last-told : (t left n : ℕ) → t + suc left ≡ n → eqb left 0 ≡ eqb (t + 1) n
last-told t zero n h = sym (eq-eqb (t + 1) n (omega (arith, h)))
last-told t (suc left) n h = ne_eqb (suc left) 0 (λ e. omega (arith, e)) ∙ sym (ne_eqb (t + 1) n (λ e. omega (arith, e, h)))

module _ {v : Verdict} {text : List ℕ} {n : ℕ} {w s p : List ℕ} {at line t e : ℕ} (f : SoFar v text n w s p at line t e) where
  none_left : n ≤ t → v ≡ due_from (drop at text) line zero f.done
  none_left h =
      let z : f.left ≡ 0 = omega (arith, f.due) in
      rw z at f.rest

  some_left : t < n → (m : ℕ) × ((t + suc m ≡ n) × (v ≡ due_from (drop at text) line (suc m) f.done))
  some_left h = go f.left f.due f.rest
    where
      go : (m : ℕ) → t + m ≡ n → v ≡ due_from (drop at text) line m f.done
          → (m : ℕ) × ((t + suc m ≡ n) × (v ≡ due_from (drop at text) line (suc m) f.done))
      go zero d z = absurd (omega (arith, d, h))
      go (suc m) d z = (m, (d, z))

  module _ {place number : ℕ} where
    -- the text ends before the last task
    pub early : NextContent text at line place number → place ≡ length text → t < n → v ≡ broken number
    early (content c h l r q k) a b = absurd (omega (arith, a, h))
    early (no-content h l q k) a b = (some_left b).1.1 ∙ rw (q, k) (ends-early number f.done (some_left b).0)

    -- a line follows the last task
    pub late : NextContent text at line place number → place < length text → n ≤ t → v ≡ broken number
    late (content c h l r q k) a b = none_left b ∙ rw q (line_after _ _ (numbered number c) _)
    late (no-content h l q k) a b = absurd (omega (arith, a, h))

    -- nothing follows it
    pub all_done : NextContent text at line place number → length text ≤ place → n ≤ t → Outcome v (Ok (n, e)) w s p
    all_done (content c h l r q k) a b = absurd (omega (arith, a, h))
    all_done (no-content h l q k) a b =
        let same : n ≡ t = omega (arith, f.due) in
        tasks-read f.done (none_left b ∙ rw q (all_read _ _)) (rw (f.tasks, f.edges, same) refl) record {
          few = omega (arith, f.tasks, f.few);
          edges = omega (arith, f.edges, f.limit);
          weights = rw f.tasks f.weights;
          starts = rw f.tasks f.starts;
          preds = rw f.edges f.preds;
          room-w = f.room-w;
          room-s = f.room-s;
          room-p = f.room-p;
        }

    -- the verdict by the task that the next line gives, and how many are left then
    turn : NextContent text at line place number → ¬ (place ≡ length text) → t < n → (o : Option Task)
        → task_of t (eqb (t + 1) n) (row_at text place) ≡ o
        → (m : ℕ) × ((t + suc m ≡ n) × (v ≡ more number o f.done (due_from (rest_at text place) (suc number) m)))
    turn (no-content h l q k) a b o x = absurd (a h)
    turn (content c h l r q k) a b o x = (m, (d, (some_left b).1.1 ∙ rw (q, k) (one_more _ _ m (numbered number c) _) ∙ ap next same))
      where
        m : ℕ
        m = (some_left b).0

        d : t + suc m ≡ n
        d = (some_left b).1.0

        next : Option Task → Verdict
        next o = more number o f.done (due_from (rest_at text place) (suc number) m)

        same : task_of (length f.done) (eqb m 0) (row_of c) ≡ o
        same = rw (f.tasks, last-told t m n d, r) x

    module _ (k : NextContent text at line place number) (a : ¬ (place ≡ length text)) (b : t < n) where
      pub no-task : task_of t (eqb (t + 1) n) (row_at text place) ≡ none → v ≡ broken number
      no-task h = (turn k a b none h).1.1

      module _ (x : Task) (h : task_of t (eqb (t + 1) n) (row_at text place) ≡ some x) where
        edges-now : edges_of (f.done ++ (x ∷ [])) ≡ e + length x.preds
        edges-now = omega (arith, edges-snoc x f.done, f.edges)

        pub too_many : 8192 < e + length x.preds → v ≡ over
        too_many m = (turn k a b (some x) h).1.1 ∙ rw (lt-leb (edges_of (f.done ++ (x ∷ []))) 8192 (omega (arith, edges-now, m))) refl

        pub one-done : {next edges : ℕ} {w' s' p' : List ℕ} → NextLine text place next → edges ≡ e + length x.preds → edges ≤ 8192
            → w' ≡ set w t x.time → s' ≡ set s (t + 1) edges → take edges p' ≡ take e p ++ x.preds → length p' ≡ 8193
            → SoFar v text n w' s' p' next (number + 1) (t + 1) edges
        one-done {next} {edges} after counted limit wq sq pq lp = record {
          done = f.done ++ (x ∷ []);
          left = (turn k a b (some x) h).0;
          tasks = length-append f.done (x ∷ []) ∙ rw f.tasks refl;
          due = omega (arith, (turn k a b (some x) h).1.0);
          few = f.few;
          inside = after.inside;
          short = f.short;
          counted = line-counted k a after;
          edges = edges-now ∙ sym counted;
          limit = limit;
          weights = rw (wq, take-store w t x.time (omega (arith, f.room-w, f.few, b)), weights-snoc x f.done, f.weights) refl;
          starts = rw (sq, stored, starts-snoc x f.done, f.starts, edges-now, counted) refl;
          preds = pq ∙ rw (preds-snoc x f.done, f.preds) refl;
          room-w = rw wq (length-set w t x.time ∙ f.room-w);
          room-s = rw sq (length-set s (t + 1) edges ∙ f.room-s);
          room-p = lp;
          rest = (turn k a b (some x) h).1.1 ∙ rw (within, add-one number, after.rest) refl;
        }
          where
            stored : take (t + 1 + 1) (set s (t + 1) edges) ≡ take (t + 1) s ++ (edges ∷ [])
            stored = take-store s (t + 1) edges (omega (arith, f.room-s, f.few, b))

            within : leb (edges_of (f.done ++ (x ∷ []))) 8192 ≡ true
            within = le-leb (edges_of (f.done ++ (x ∷ []))) 8192 (omega (arith, edges-now, counted, limit))

-- From the first line on.

module _ {text : List ℕ} {place number : ℕ} where
  -- the text has no first line
  pub no-first : NextContent text 0 1 place number → place ≡ length text → verdict text ≡ broken number
  no-first (content c h l r q k) a = absurd (omega (arith, a, h))
  no-first (no-content h l q k) a =
      let e : suc (length (lines text)) ≡ number = omega (arith, k) in
      rw (verdict-is text, q, e) refl

  by_first : NextContent text 0 1 place number → ¬ (place ≡ length text)
      → verdict text
      ≡ headed (suc number + length (lines (rest_at text place))) number (row_at text place) (contents (suc number) (lines (rest_at text place)))
  by_first (content c h l r q k) a =
      let e : suc (length (lines text)) ≡ suc number + length (lines (rest_at text place)) = omega (arith, k) in
      rw (verdict-is text, q, e, r) refl
  by_first (no-content h l q k) a = absurd (a h)

  module _ (k : NextContent text 0 1 place number) (a : ¬ (place ≡ length text)) {next : ℕ} where
    pub bad-first : {tasks : ℕ} → FirstFound text place tasks next → tasks ≡ 0 → verdict text ≡ broken number
    bad-first (first n q l r m) z = absurd (omega (arith, q, z))
    bad-first (not_first q m) z = by_first k a ∙ not-headed _ _ _ _ m

    pub over_first : {tasks : ℕ} → FirstFound text place tasks next → 1024 < tasks → verdict text ≡ over
    over_first (first n q l r m) z = by_first k a ∙ rw (r, lt-leb n 1022 (omega (arith, q, z))) refl
    over_first (not_first q m) z = absurd (omega (arith, q, z))

    -- the lines of the tasks follow
    pub after_first : {tasks : ℕ} → FirstFound text place tasks next → ¬ (tasks ≡ 0) → tasks ≤ 1024
        → (NextLine text place next) × (verdict text ≡ due_from (drop next text) (number + 1) tasks [])
    after_first (first n q l r m) y z = (m, by_first k a ∙ rw (r, le-leb n 1022 (omega (arith, q, z)), add-one number, m.rest, q) refl)
    after_first (not_first q m) y z = absurd (y q)

-- What is left.

-- the words that a scratch list starts with, copied over an old list
copied : (words from old : List ℕ) (n : ℕ) → take n from ≡ words → n ≤ length from → take n from ++ drop n old ≡ onto words old
copied words from old n e h = rw (e, size) refl
  where
    size : n ≡ length words
    size = sym (length-take-le n from h) ∙ ap length e

-- so many words of each list are written
abbrev pub Counted : ReadAnswer → ℕ → ℕ → ℕ → Type 0
Counted r k l m = (k ≡ weight_count r) × ((l ≡ start_count r) × (m ≡ pred_count r))

pub sizes-refused : (r : ReadAnswer) (why : Refusal) → r ≡ Err why → Counted r 0 0 0
sizes-refused r why q = rw q (refl, (refl, refl))

pub sizes-accepted : (r : ReadAnswer) (n e : ℕ) → r ≡ Ok (n, e) → Counted r n (n + 1) e
sizes-accepted r n e q = rw q (refl, (refl, refl))

-- the scratch lists and the lent ones hold them
pub record Holds (k l m : ℕ) (a b c w s p : List ℕ) : Type 0 where
  pub weights : (k ≤ length a) × (k ≤ length w)
  pub starts : (l ≤ length b) × (l ≤ length s)
  pub preds : (m ≤ length c) × (m ≤ length p)

pub copy-room : {v : Verdict} {r : ReadAnswer} {k l m : ℕ} {a b c : List ℕ} (w s p : List ℕ) → lent_fit w s p ≡ true → Outcome v r a b c → Counted r k l m
    → Holds k l m a b c w s p
copy-room w s p f (tasks-read xs v q t) (d, (e, g)) = rw (d, e, g, q) (omega (arith, lent-room w s p f, t))
copy-room w s p f (line-broken l v q) (d, (e, g)) = rw (d, e, g, q) (omega arith)
copy-room w s p f (limit-passed v q) (d, (e, g)) = rw (d, e, g, q) (omega arith)

module _ (text w s p : List ℕ) where
  pub read-unfit : lent_fit w s p ≡ false → read_as (Err WrongLength) w s p ≡ read_text text w s p
  read-unfit f = sym (read-wrong text w s p f)

  module _ (f : lent_fit w s p ≡ true) where
    pub read-over : 65536 < length text → read_as (Err BeyondLimit) w s p ≡ read_text text w s p
    read-over h = sym (read-long text w s p f (lt-leb (length text) 65536 h))

    module _ (short : length text ≤ 65536) where
      laid-read : {v : Verdict} → verdict text ≡ v → laid v w s p ≡ read_text text w s p
      laid-read e = rw (← e) (sym (read-judged text w s p f (le-leb (length text) 65536 short)))

      laid-words : {r : ReadAnswer} {a b c : List ℕ} → Outcome (verdict text) r a b c
          → read_as r (take (weight_count r) a ++ drop (weight_count r) w) (take (start_count r) b ++ drop (start_count r) s)
          (take (pred_count r) c ++ drop (pred_count r) p) ≡ read_text text w s p
      laid-words {a = a} {b = b} {c = c} (tasks-read xs v q m) = rw (
        q,
        ← laid-read v,
        laid-spelled w s p xs,
        copied (weights_of xs) a w (length xs) m.weights (omega (arith, m)),
        copied (starts_of xs) b s (length xs + 1) m.starts (omega (arith, m)),
        copied (preds_of xs) c p (edges_of xs) m.preds (omega (arith, m)),
      ) refl
      laid-words (line-broken l v q) = rw q (sym (laid-broken w s p l) ∙ laid-read v)
      laid-words (limit-passed v q) = rw q (sym (laid-over w s p) ∙ laid-read v)

      -- the judged answer, and as many words as it writes copied over the lent lists
      pub read-laid : {r : ReadAnswer} {k l m : ℕ} {a b c : List ℕ} → Outcome (verdict text) r a b c → Counted r k l m → (w' s' p' : List ℕ)
          → w' ≡ take k a ++ drop k w → s' ≡ take l b ++ drop l s → p' ≡ take m c ++ drop m p → read_as r w' s' p' ≡ read_text text w s p
      read-laid o (d, (e, g)) w' s' p' wq sq pq = rw (wq, sq, pq, d, e, g) (laid-words o)
