-- Laws over plain lists and numbers that the proofs of functions that put bytes cite, here and in the crates above.
use Prim.Native.Nat.{ℕ, zero, suc, ◌+◌, ◌-◌, ◌/◌, ◌%◌, ◌≤◌, ◌<◌}
use mathlib.Core.Path.{◌≡◌, refl, sym, ap, ◌∙◌}
use mathlib.Core.List.{List, [], ◌∷◌, ◌++◌, append_assoc, append-nil}
use native.Mathlib.Omega.{arith}
use lib.ListN.{length, take, drop, set, length-append, length-drop, take-append-drop}
use lib.Seq.{drop-drop, take-set-lt, take-suc-set, set-append_left, append_snoc, take_at, drop_at, length-take-le}
use borrow.Rule.Slice.PartMut.{put_mid}
use Rattle.layout.specs.Marks.{digit0}
use Rattle.layout.specs.Digits.{digits_before, digits_of}
use Rattle.layout.proofs.Digits.{tenth-less, last_turn, next-turn, by_digits, spelled}
use Rattle.text_put.specs.Appending.{Appends}

-- Bytes put behind others.

-- what stays from one place on stays from every later one
drop-later : (a b : ℕ) (l k : List ℕ) → a ≤ b → drop a l ≡ drop a k → drop b l ≡ drop b k
drop-later a b l k h e =
    let d : b ≡ a + (b - a) = omega (arith, h) in
    rw d (sym (drop-drop (b - a) a l) ∙ ap (drop (b - a)) e ∙ drop-drop (b - a) a k)

pub appends-then : {at mid end : ℕ} {first second before between after : List ℕ}
    → Appends at first before between mid → Appends mid second between after end → Appends at (first ++ second) before after end
appends-then {at} {mid} {end} {first} {second} {before} {between} p q =
    record {
      size = q.size ∙ p.size;
      end = omega (arith, p.end, q.end, length-append first second);
      text = q.text ∙ ap (λ (l : List ℕ). l ++ second) p.text ∙ append_assoc (take at before) first second;
      rest = q.rest ∙ drop-later mid end between before (omega (arith, q.end)) p.rest;
    }

-- A text put piece by piece: what is done, and the rest at a place of its making, which is to come.
pub record Underway (text : List ℕ) (rest : ℕ → List ℕ) (at : ℕ) (before : List ℕ) (i : ℕ) (out : List ℕ) (end : ℕ) : Type 0 where
  pub done : List ℕ
  pub put : Appends at done before out end
  pub whole : text ≡ done ++ rest i

module _ (text : List ℕ) (rest : ℕ → List ℕ) (at : ℕ) (before : List ℕ) where
  module _ (i : ℕ) (out : List ℕ) (end : ℕ) (u : Underway text rest at before i out end) where
    module _ (piece : List ℕ) (j : ℕ) (e : rest i ≡ piece ++ rest j) where
      piece-whole : text ≡ (u.done ++ piece) ++ rest j
      piece-whole = u.whole ∙ ap (λ (l : List ℕ). u.done ++ l) e ∙ sym (append_assoc u.done piece (rest j))

      pub piece-room : at + length text ≤ length before → end + length piece ≤ length out
      piece-room room =
          omega (arith, room, u.put.size, u.put.end, ap length piece-whole, length-append (u.done ++ piece) (rest j), length-append u.done piece)

      pub next-piece : (new : List ℕ) (r : ℕ) → Appends end piece out new r → Underway text rest at before j new r
      next-piece new r p = record { done = u.done ++ piece; put = appends-then u.put p; whole = piece-whole }

    pub all_done : rest i ≡ [] → Appends at text before out end
    all_done e = rw (rw (e, append-nil u.done) at u.whole) u.put

-- The digits of a number before others, with turns enough, are its digits and the others.
digits-before : (f g n : ℕ) (rest later : List ℕ) → n < f → n < g → digits_before g n (rest ++ later) ≡ digits_before f n rest ++ later
digits-before f g n rest later h =
    by_digits (λ m rest text. (g : ℕ) → m < g → digits_before g m (rest ++ later) ≡ text ++ later) last more f n rest h g
  where
    last : (m : ℕ) (rest : List ℕ) → m < 10 → (g : ℕ) → m < g → digits_before g m (rest ++ later) ≡ (digit0 + m) ∷ rest ++ later
    last m rest l zero k = absurd (omega (arith, k))
    last m rest l (suc g) k = last_turn g m (rest ++ later) l

    more : (m : ℕ) (rest text : List ℕ) → 10 ≤ m
        → ((g : ℕ) → m / 10 < g → digits_before g (m / 10) ((digit0 + m % 10) ∷ rest ++ later) ≡ text ++ later)
        → (g : ℕ) → m < g → digits_before g m (rest ++ later) ≡ text ++ later
    more m rest text l e zero k = absurd (omega (arith, k))
    more m rest text l e (suc g) k = next-turn g m (rest ++ later) l ∙ e g (omega (arith, k, tenth-less m l))

pub one-digit : (n : ℕ) → n < 10 → digits_of n ≡ (digit0 + n) ∷ []
unfolding digits_of
one-digit n h = last_turn n n [] h

pub last-digit : (n : ℕ) → 10 ≤ n → digits_of n ≡ digits_of (n / 10) ++ ((digit0 + n % 10) ∷ [])
unfolding digits_of
last-digit n h = next-turn n n [] h ∙ digits-before (suc (n / 10)) n (n / 10) [] ((digit0 + n % 10) ∷ []) (omega arith) (tenth-less n h)

-- a store at the last of the first members of a list
store-last : (l later : List ℕ) (i x : ℕ) → i < length l → set (take (suc i) l ++ later) i x ≡ take i l ++ (x ∷ later)
store-last l later i x h =
    set-append_left (take (suc i) l) later i x (omega (arith, length-take-le (suc i) l h))
    ∙ ap (λ (k : List ℕ). k ++ later) (sym (take-set-lt (suc i) l i x (omega arith)) ∙ take-suc-set l i x h)
    ∙ append_snoc (take i l) x later

-- bytes between the first members of a list and its rest
laid : (at : ℕ) (bytes before : List ℕ) → at + length bytes ≤ length before
    → Appends at bytes before (take at before ++ (bytes ++ drop (at + length bytes) before)) (at + length bytes)
laid at bytes before h =
    record {
      size = rw (← whole) (omega (arith, length-append first behind, front, length-drop (at + length bytes) before, h));
      end = refl;
      text = rw (← whole) (take_at first behind (at + length bytes) front);
      rest = rw (← whole) (drop_at first behind (at + length bytes) front);
    }
  where
    first : List ℕ
    first = take at before ++ bytes

    behind : List ℕ
    behind = drop (at + length bytes) before

    front : length first ≡ at + length bytes
    front = omega (arith, length-append (take at before) bytes, length-take-le at before (omega (arith, h)))

    whole : first ++ behind ≡ take at before ++ (bytes ++ behind)
    whole = append_assoc (take at before) bytes behind

-- bytes written over the part of a buffer that is as long as they are
pub bytes_put : (at k : ℕ) (bytes before new : List ℕ) → new ≡ bytes → k ≡ length bytes → at + length bytes ≤ length before
    → Appends at bytes before (put_mid at k before new) (at + length bytes)
bytes_put at k bytes before new e d h = rw (e, d, drop-drop (length bytes) at before) (laid at bytes before h)

-- A number's last digits put, back from its end: n is left of it, and its digits go before the others, up to `place`.
pub record Partly (at number : ℕ) (before : List ℕ) (n place : ℕ) (out : List ℕ) : Type 0 where
  pub put : List ℕ
  pub whole : digits_of number ≡ digits_of n ++ put
  pub here : suc place ≡ at + length (digits_of n)
  pub left : out ≡ take (suc place) before ++ (put ++ drop (at + length (digits_of number)) before)

module _ (at number : ℕ) (before : List ℕ) (room : at + length (digits_of number) ≤ length before) where
  pub no-digits : (place : ℕ) → suc place ≡ at + length (digits_of number) → Partly at number before number place before
  no-digits place e =
      record {
        put = [];
        whole = sym (append-nil (digits_of number));
        here = e;
        left = rw e (sym (take-append-drop (at + length (digits_of number)) before));
      }

  module _ (n place : ℕ) (out : List ℕ) (p : Partly at number before n place out) where
    pub inside : place < length before
    inside = omega (arith, room, p.here, ap length p.whole, length-append (digits_of n) p.put)

    stored : (x : ℕ) → set out place x ≡ take place before ++ (x ∷ p.put ++ drop (at + length (digits_of number)) before)
    stored x = rw p.left (store-last before (p.put ++ drop (at + length (digits_of number)) before) place x inside)

    before_last : 10 ≤ n → place ≡ at + length (digits_of (n / 10))
    before_last h =
        omega (arith, p.here, ap length (last-digit n h), length-append (digits_of (n / 10)) ((digit0 + n % 10) ∷ []))

    pub one-before : 10 ≤ n → 1 ≤ place
    one-before h = omega (arith, before_last h, (spelled (n / 10)).one)

    pub next-digit : 10 ≤ n → Partly at number before (n / 10) (place - 1) (set out place (digit0 + n % 10))
    next-digit h =
        let back : suc (place - 1) ≡ place = omega (arith, one-before h) in
        record {
          put = (digit0 + n % 10) ∷ p.put;
          whole =
              p.whole
              ∙ ap (λ (k : List ℕ). k ++ p.put) (last-digit n h)
              ∙ append_snoc (digits_of (n / 10)) (digit0 + n % 10) p.put;
          here = back ∙ before_last h;
          left = rw back (stored (digit0 + n % 10));
        }

    pub all_digits : n < 10 → Appends at (digits_of number) before (set out place (digit0 + n)) (at + length (digits_of number))
    all_digits h = rw whole (laid at (digits_of number) before room)
      where
        later : List ℕ
        later = drop (at + length (digits_of number)) before

        digits : digits_of number ≡ (digit0 + n) ∷ p.put
        digits = p.whole ∙ ap (λ (k : List ℕ). k ++ p.put) (one-digit n h)

        first : place ≡ at
        first = omega (arith, p.here, ap length (one-digit n h))

        whole : set out place (digit0 + n) ≡ take at before ++ (digits_of number ++ later)
        whole =
            stored (digit0 + n)
            ∙ ap (λ (i : ℕ). take i before ++ ((digit0 + n) ∷ p.put ++ later)) first
            ∙ sym (ap (λ (k : List ℕ). take at before ++ (k ++ later)) digits)
