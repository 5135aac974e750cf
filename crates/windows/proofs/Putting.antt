-- A window's words and all windows put, over plain lists; the call as a whole.
use Prim.Native.Nat.{ℕ, suc, ◌+◌, ◌-◌, ◌*◌, ◌≤◌, ◌<◌, min, max}
use mathlib.Core.Path.{◌≡◌, refl, sym, ap, ◌∙◌}
use mathlib.Core.List.{List, [], ◌∷◌, ◌++◌, append_assoc}
use native.Mathlib.Omega.{arith}
use native.Mathlib.Nat.{zero-mul, one-mul, suc-mul, le_refl, le_trans, min-le_left, le-max_left, min-eq_left, max-eq_left}
use native.Mathlib.Numerals.{add-one}
use lib.ListN.{length, get_or, take, drop, set, replicate, length-append, length-drop}
use lib.Seq.{drop-cons, drop-length, take_all, take_at, set_at, length-take-le, get_or-take}
use Rattle.std.specs.Prelude.{Err, Ok}
use Rattle.task.specs.declared.refusal.Refusal.{Refusal}
use Rattle.task.specs.Refusals.{Answer}
use Rattle.lists.specs.Lists.{joined}
use Rattle.lists.proofs.Blocks.{is-tabulate}
use Rattle.lists.proofs.Prefixes.{zeros}
use Rattle.lists.proofs.Places.{place_end}
use Rattle.task.specs.declared.Limits.{Limits}
use Rattle.loads.specs.Windows.{entries_word, load_in, window_sums, largest_of, smallest_of, spread_of, with_spread, window_words, window_count, windows, Spans, windows_answer, shown_as, window_loads}
use Rattle.loads.proofs.Windows.{words_size, call-is, Admitted, admitted}
use Rattle.loads.proofs.Sums.{load-none}
use Rattle.windows.proofs.Sliding.{sums-length}

-- the spread, the first sum counted twice
spread-first : (x : ℕ) (l : List ℕ) → spread_of (x ∷ l) ≡ largest_of x (x ∷ l) - smallest_of x (x ∷ l)
unfolding spread_of largest_of smallest_of
spread-first x l = rw (max-eq_left (le_refl x), min-eq_left (le_refl x))

-- The spread of the sums, i of them looked at.
module _ (sums : List ℕ) where
  pub record Spreading (low high i : ℕ) : Type 0 where
    pub order : low ≤ high
    pub left : spread_of sums ≡ largest_of high (drop i sums) - smallest_of low (drop i sums)

  pub spread-none : 1 ≤ length sums → Spreading (get_or sums 0 0) (get_or sums 0 0) 0
  spread-none h = record { order = omega arith; left = first sums h }
    where
      first : (l : List ℕ) → 1 ≤ length l → spread_of l ≡ largest_of (get_or l 0 0) (drop 0 l) - smallest_of (get_or l 0 0) (drop 0 l)
      first [] h = absurd (omega arith)
      first (x ∷ l) h = spread-first x l

  module _ (low high i : ℕ) (q : Spreading low high i) where
    pub spread-next : i < length sums → Spreading (min low (get_or sums i 0)) (max high (get_or sums i 0)) (i + 1)
    unfolding largest_of smallest_of
    spread-next h =
        record {
          order = le_trans (min-le_left low (get_or sums i 0)) (le_trans q.order (le-max_left high (get_or sums i 0)));
          left =
              q.left
              ∙ ap (λ (l : List ℕ). largest_of high l - smallest_of low l)
              (drop-cons sums i 0 h ∙ ap (λ (k : ℕ). get_or sums i 0 ∷ drop k sums) (sym (add-one i)));
        }

    -- the sums in their places, the spread behind them
    pub spread-put : i ≡ length sums → (rest : List ℕ) → length rest ≡ 1 → set (sums ++ rest) (length sums) (high - low) ≡ with_spread sums
    unfolding with_spread largest_of smallest_of
    spread-put h [] size = absurd (omega arith)
    spread-put h (x ∷ []) size = set_at sums x [] (high - low) (length sums) refl ∙ ap (λ (s : ℕ). sums ++ (s ∷ [])) (sym spread)
      where
        none : drop i sums ≡ []
        none = rw h (drop-length sums)

        spread : spread_of sums ≡ high - low
        spread = q.left ∙ ap (λ (l : List ℕ). largest_of high l - smallest_of low l) none
    spread-put h (x ∷ y ∷ l) size = absurd (omega arith)

-- words in the place of as many others
module _ (l words : List ℕ) (at k : ℕ) (size : length words ≡ k) (room : at + k ≤ length l) where
  abbrev replaced : List ℕ
  replaced = take at l ++ (words ++ drop k (drop at l))

  front : length (take at l ++ words) ≡ at + k
  front = omega (arith, length-append (take at l) words, length-take-le at l (omega (arith, room)), size)

  replaced-size : length replaced ≡ length l
  replaced-size =
      omega (
        arith,
        length-append (take at l) (words ++ drop k (drop at l)),
        length-append words (drop k (drop at l)),
        length-take-le at l (omega (arith, room)),
        length-drop k (drop at l),
        length-drop at l,
        size,
        room,
      )

  replaced-front : take (at + k) replaced ≡ take at l ++ words
  replaced-front = rw (← append_assoc (take at l) words (drop k (drop at l))) (take_at (take at l ++ words) (drop k (drop at l)) (at + k) front)

-- The windows up to window w put, whose sums stand in `sums`; the next one begins at `at`.
module _ (p : ℕ) (weights executed : List ℕ) (entries m : ℕ) where
  pub record WindowsPut (results sums : List ℕ) (w at : ℕ) : Type 0 where
    pub now : sums ≡ window_sums p weights executed m w
    pub place : at ≡ (w + 1) * (p + 1)
    pub size : length results ≡ window_count entries m * (p + 1)
    pub words : take at results ≡ joined (suc w) (window_words p weights executed m)
    pub within : w + m ≤ entries

  window-size : (w : ℕ) (sums words : List ℕ) → sums ≡ window_sums p weights executed m w → words ≡ with_spread sums → length words ≡ p + 1
  window-size w sums words e f = ap length (f ∙ ap with_spread e) ∙ words_size p weights executed m w

  module _ (spans : Spans p weights executed entries m) (results : List ℕ) (size : length results ≡ window_count entries m * (p + 1)) where
    pub first-room : p + 1 ≤ length results
    first-room = omega (arith, size, place_end (p + 1) (window_count entries m) 0 (omega (arith, spans.window)), zero-mul (p + 1))

    pub first-windows : (sums words : List ℕ) → sums ≡ window_sums p weights executed m 0 → words ≡ with_spread sums
        → WindowsPut (words ++ drop (p + 1) results) sums 0 (p + 1)
    unfolding joined
    first-windows sums words e f =
        record {
          now = e;
          place = omega (arith, one-mul (p + 1));
          size = replaced-size results words 0 (p + 1) long room ∙ size;
          words =
              ap (λ (k : ℕ). take k (words ++ drop (p + 1) results)) end
              ∙ replaced-front results words 0 (p + 1) long room
              ∙ f
              ∙ ap with_spread e;
          within = omega (arith, spans.window);
        }
      where
        long : length words ≡ p + 1
        long = omega (arith, window-size 0 sums words e f)

        end : p + 1 ≡ 0 + (p + 1)
        end = omega arith

        room : 0 + (p + 1) ≤ length results
        room = omega (arith, first-room)

  module _ (spans : Spans p weights executed entries m) (results sums : List ℕ) (w at : ℕ) (s : WindowsPut results sums w at) (more : w + m < entries) where
    sums-here : length sums ≡ p
    sums-here = sums-length p weights executed m w sums s.now

    pub next-room : at + (p + 1) ≤ length results
    next-room = omega (arith, s.size, s.place, place_end (p + 1) (window_count entries m) (w + 1) (omega (arith, more)))

    module _ (new : List ℕ) (e : new ≡ window_sums (length sums) weights executed m (w + 1)) where
      new-here : new ≡ window_sums p weights executed m (w + 1)
      new-here = rw sums-here at e

      pub next-window : (words : List ℕ) → words ≡ with_spread new
          → WindowsPut (take at results ++ (words ++ drop (at + (p + 1) - at) (drop at results))) new (w + 1) (at + (p + 1))
      unfolding joined
      next-window words f =
          record {
            now = new-here;
            place = omega (arith, s.place, suc-mul (w + 1) (p + 1), ap (λ (k : ℕ). k * (p + 1)) (add-one (w + 1)));
            size = replaced-size results words at (at + (p + 1) - at) long room ∙ s.size;
            words = both;
            within = omega (arith, more);
          }
        where
          joined-more : (k : ℕ) → k ≡ suc w
              → joined (suc w) (window_words p weights executed m) ++ window_words p weights executed m k ≡ joined (suc k) (window_words p weights executed m)
          joined-more k q = rw q refl

          long : length words ≡ at + (p + 1) - at
          long = omega (arith, window-size (w + 1) new words new-here f)

          room : at + (at + (p + 1) - at) ≤ length results
          room = omega (arith, next-room)

          end : at + (at + (p + 1) - at) ≡ at + (p + 1)
          end = omega arith

          both : take (at + (p + 1)) (take at results ++ (words ++ drop (at + (p + 1) - at) (drop at results)))
              ≡ joined (suc (w + 1)) (window_words p weights executed m)
          both =
              ap (λ (k : ℕ). take k (take at results ++ (words ++ drop (at + (p + 1) - at) (drop at results)))) (sym end)
              ∙ replaced-front results words at (at + (p + 1) - at) long room
              ∙ ap (λ (l : List ℕ). take at results ++ l) (f ∙ ap with_spread new-here)
              ∙ ap (λ (l : List ℕ). l ++ window_words p weights executed m (w + 1)) s.words
              ∙ joined-more (w + 1) (add-one w)

  pub all-windows : (results sums : List ℕ) (w at : ℕ) → WindowsPut results sums w at → entries ≤ w + m → results ≡ windows p weights executed entries m
  unfolding windows
  all-windows results sums w at s h =
      sym (take_all at results (omega (arith, s.size, s.place, ap (λ (k : ℕ). k * (p + 1)) count)))
      ∙ s.words
      ∙ ap (λ (k : ℕ). joined k (window_words p weights executed m)) (omega (arith, count))
    where
      count : window_count entries m ≡ w + 1
      count = omega (arith, h, s.within)

-- The scratch: 16 zeros, P of them lent.
abbrev pub scratch : List ℕ
scratch = replicate 16 0

pub scratch-size : (p : ℕ) → p ≤ 16 → length (take p scratch) ≡ p
scratch-size p h = length-take-le p scratch h

module _ (limits : Limits) (p m : ℕ) (weights executed run results : List ℕ) {a : Answer}
    (ha : a ≡ windows_answer limits p m weights executed run (length results)) where
  pub call-refused : (why : Refusal) → a ≡ Err why → shown_as (Err why) results ≡ window_loads limits p m weights executed run results
  call-refused why e = sym (call-is limits p m weights executed run results (Err why) (sym ha ∙ e))

  module _ (e : a ≡ Ok tt) where
    given : Admitted limits p m weights executed run results
    given = admitted limits p m weights executed run results (sym ha ∙ e)

    pub two-words : length run ≡ 2
    two-words = given.words

    pub few-workers : p ≤ 16
    few-workers = given.spans.few_workers

    pub call_asks : (take p scratch ≡ window_sums (length (take p scratch)) weights executed 0 0)
        × Spans (length (take p scratch)) weights executed (entries_word run) m
        × (length results ≡ window_count (entries_word run) m * (length (take p scratch) + 1))
    unfolding window_sums
    call_asks = (
      is-tabulate (length (take p scratch)) (load_in weights executed 0 0) 0 (take p scratch) refl zero-there,
      rw (scratch-size p few-workers) given.spans,
      rw (scratch-size p few-workers) given.room,
    )
      where
        zero-there : (i : ℕ) → i < length (take p scratch) → get_or (take p scratch) i 0 ≡ load_in weights executed 0 0 i
        zero-there i h =
            get_or-take p scratch i 0 (omega (arith, h, scratch-size p few-workers)) ∙ zeros 16 i ∙ sym (load-none weights executed 0 i)

    pub call-whole : (words : List ℕ) → words ≡ windows (length (take p scratch)) weights executed (entries_word run) m
        → shown_as (Ok tt) words ≡ window_loads limits p m weights executed run results
    call-whole words q =
        ap (shown_as (Ok tt)) (rw (scratch-size p few-workers) at q) ∙ sym (call-is limits p m weights executed run results (Ok tt) (sym ha ∙ e))
