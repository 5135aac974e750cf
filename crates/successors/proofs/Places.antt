-- Laws of the stores at next free places: what room they need, and how they fill the blocks.
use Prim.Native.Nat.{ℕ, suc, ◌+◌, ◌-◌, ◌≤◌, ◌<◌}
use mathlib.Core.Path.{◌≡◌, refl, sym, ap, ◌∙◌}
use mathlib.Core.List.{List, [], ◌∷◌, ◌++◌, append-nil, append_assoc}
use native.Mathlib.Omega.{arith}
use native.Mathlib.Decide.{ℕ_discrete, dec_lt}
use native.Mathlib.Numerals.{add-one}
use lib.ListN.{length, get_or, set, take, drop, replicate, length-set, length-append, length-drop, length-replicate, replicate-append-replicate}
use lib.Seq.{get_or-set_same, get_or-set_other, drop-cons, drop-length, drop-set-add, drop-set-lt, take-set-le, take-length}
use Rattle.lists.specs.Decided.{tally}
use Rattle.lists.specs.Lists.{occ, joined}
use Rattle.lists.specs.Sums.{sum_to}
use Rattle.lists.proofs.Decided.{tally-yes, tally-no}
use Rattle.lists.proofs.Occurrences.{occ-nil, occ-cons, occ-hit, occ-miss}
use Rattle.lists.proofs.Sums.{sum-prefix}
use Rattle.lists.proofs.Prefixes.{take-store}
use Rattle.lists.proofs.Blocks.{joined_same, joined-parts}
use Rattle.graph.specs.Graph.{Among}
use Rattle.successors.specs.Filling.{Placed, placed_of, place_one, place_all, Room}

-- the first word's place, and the room that it leaves to the others
module _ (u : ℕ) (words next succs : List ℕ) (r : Room (u ∷ words) next succs) where
  room-first : (u < length next) × (get_or next u 0 < length succs)
  room-first = (
    r.inside u (omega (arith, occ-hit ℕ_discrete u u words refl)),
    omega (arith, r.room u (omega (arith, occ-hit ℕ_discrete u u words refl)), occ-hit ℕ_discrete u u words refl),
  )

  room-rest : (at t : ℕ) → Room words (set next u (get_or next u 0 + 1)) (set succs at t)
  room-rest at t =
      record {
        inside = λ v h. omega (arith, length-set next u (get_or next u 0 + 1), r.inside v (more v h));
        room = λ v h. omega (arith, length-set succs at t, go v h (ℕ_discrete v u));
      }
    where
      more : (v : ℕ) → Among v words → Among v (u ∷ words)
      more v h = omega (arith, occ-cons ℕ_discrete v u words)

      go : (v : ℕ) → Among v words → Dec (v ≡ u) → get_or (set next u (get_or next u 0 + 1)) v 0 + occ v words ≤ length succs
      go v h (yes q) =
          omega (arith, ap (λ (k : ℕ). get_or (set next u (get_or next u 0 + 1)) k 0) q, ap (λ (k : ℕ). get_or next k 0) q, get_or-set_same next u (get_or next u 0 + 1) 0 room-first.0, r.room v (more v h), occ-hit ℕ_discrete v u words q)
      go v h (no m) = omega (arith, get_or-set_other next u v (get_or next u 0 + 1) 0 m, r.room v (more v h), occ-miss ℕ_discrete v u words m)

-- the words below i are placed
pub record Placing (t : ℕ) (words next₀ succs₀ next succs : List ℕ) (i : ℕ) : Type 0 where
  pub upto : i ≤ length words
  pub same : place_all t words (placed_of next₀ succs₀) ≡ place_all t (drop i words) (placed_of next succs)
  pub room : Room (drop i words) next succs
  pub kept_next : length next ≡ length next₀
  pub kept-succs : length succs ≡ length succs₀

place-step : (t u : ℕ) (words : List ℕ) (p : Placed) → place_all t (u ∷ words) p ≡ place_all t words (place_one t u p)
unfolding place_all
place-step t u words p = refl

place_end : (t : ℕ) (p : Placed) → place_all t [] p ≡ p
unfolding place_all
place_end t p = refl

module _ (t : ℕ) (words next₀ succs₀ next succs : List ℕ) (i : ℕ) (s : Placing t words next₀ succs₀ next succs i) where
  opened : i < length words → Room (get_or words i 0 ∷ drop (suc i) words) next succs
  opened h = rw (drop-cons words i 0 h) at s.room

  pub placing-here : i < length words → (get_or words i 0 < length next) × (get_or next (get_or words i 0) 0 < length succs)
  placing-here h = room-first (get_or words i 0) (drop (suc i) words) next succs (opened h)

  pub placing-more : i < length words → (next' succs' : List ℕ) → next' ≡ set next (get_or words i 0) (get_or next (get_or words i 0) 0 + 1) → succs' ≡ set succs (get_or next (get_or words i 0) 0) t
      → Placing t words next₀ succs₀ next' succs' (i + 1)
  unfolding place_one
  placing-more h next' succs' a b =
      rw (a, b, add-one i) (record {
        upto = h;
        same = s.same ∙ ap (λ (l : List ℕ). place_all t l (placed_of next succs)) (drop-cons words i 0 h) ∙ place-step t (get_or words i 0) (drop (suc i) words) (placed_of next succs);
        room = room-rest (get_or words i 0) (drop (suc i) words) next succs (opened h) (get_or next (get_or words i 0) 0) t;
        kept_next = length-set next (get_or words i 0) (get_or next (get_or words i 0) 0 + 1) ∙ s.kept_next;
        kept-succs = length-set succs (get_or next (get_or words i 0) 0) t ∙ s.kept-succs;
      })

  pub placing-whole : length words ≤ i → placed_of next succs ≡ place_all t words (placed_of next₀ succs₀)
  placing-whole h = sym (s.same ∙ ap (λ (l : List ℕ). place_all t l (placed_of next succs)) (all (omega (arith, s.upto))) ∙ place_end t (placed_of next succs))
    where
      all : i ≡ length words → drop i words ≡ []
      all e = rw e (drop-length words)

-- the next n blocks of the given sizes: block u begins with `filled u`, and its next free place is after these
pub record Filled (n : ℕ) (size : ℕ → ℕ) (filled : ℕ → List ℕ) (p : Placed) : Type 0 where
  pub inside : n ≤ length p.next
  pub whole : length p.succs ≡ sum_to n size
  pub fits : (u : ℕ) → u < n → length (filled u) ≤ size u
  pub free : (u : ℕ) → u < n → get_or p.next u 0 ≡ sum_to u size + length (filled u)
  pub laid : (u : ℕ) → u < n → take (length (filled u)) (drop (sum_to u size) p.succs) ≡ filled u

-- a store right after a block's first elements, before a block, and after a block's first elements
store-here : (k l : List ℕ) (s t : ℕ) → s + length k < length l → take (length k) (drop s l) ≡ k
    → take (length (k ++ (t ∷ []))) (drop s (set l (s + length k) t)) ≡ k ++ (t ∷ [])
store-here k l s t h e =
    rw (length-append k (t ∷ []), drop-set-add s l (length k) t)
    (take-store (drop s l) (length k) t (omega (arith, length-drop s l)) ∙ ap (λ (r : List ℕ). r ++ (t ∷ [])) e)

store-before : (k s i t : ℕ) (l : List ℕ) → i < s → take k (drop s (set l i t)) ≡ take k (drop s l)
store-before k s i t l h = ap (λ (r : List ℕ). take k r) (drop-set-lt s l i t h)

store-after : (k s i t : ℕ) (l : List ℕ) → s + k ≤ i → take k (drop s (set l i t)) ≡ take k (drop s l)
store-after k s i t l h =
    ap (λ (j : ℕ). take k (drop s (set l j t))) (at i s (omega arith)) ∙ ap (λ (r : List ℕ). take k r) (drop-set-add s l (i - s) t) ∙ take-set-le k (drop s l) (i - s) t (omega arith)
  where
    at : (i s : ℕ) → s ≤ i → i ≡ s + (i - s)
    at i s m = omega arith

module _ (n : ℕ) (size : ℕ → ℕ) where
  pub filled-same : (f f' : ℕ → List ℕ) (p : Placed) → ((u : ℕ) → f' u ≡ f u) → Filled n size f p → Filled n size f' p
  filled-same f f' p e s =
      record {
        inside = s.inside;
        whole = s.whole;
        fits = λ u h. rw (e u) (s.fits u h);
        free = λ u h. rw (e u) (s.free u h);
        laid = λ u h. rw (e u) (s.laid u h);
      }

  module _ (f f' : ℕ → List ℕ) (p : Placed) (t u : ℕ) (s : Filled n size f p) (h : u < n) (m : length (f u) < size u) (here : f' u ≡ f u ++ (t ∷ [])) (others : (v : ℕ) → ¬ (v ≡ u) → f' v ≡ f v) where
    one_more : length (f' u) ≡ suc (length (f u))
    one_more = ap length here ∙ length-append (f u) (t ∷ []) ∙ add-one (length (f u))

    one-fits : (v : ℕ) → v < n → Dec (v ≡ u) → length (f' v) ≤ size v
    one-fits v k (yes e) = rw e (omega (arith, one_more))
    one-fits v k (no d) = rw (others v d) (s.fits v k)

    one_free : (v : ℕ) → v < n → Dec (v ≡ u) → get_or (set p.next u (get_or p.next u 0 + 1)) v 0 ≡ sum_to v size + length (f' v)
    one_free v k (yes e) = rw e (omega (arith, get_or-set_same p.next u (get_or p.next u 0 + 1) 0 (omega (arith, s.inside)), s.free u h, one_more))
    one_free v k (no d) = rw (others v d) (get_or-set_other p.next u v (get_or p.next u 0 + 1) 0 d ∙ s.free v k)

    one-other : (v : ℕ) → v < n → ¬ (v ≡ u) → Dec (v < u) → take (length (f v)) (drop (sum_to v size) (set p.succs (sum_to u size + length (f u)) t)) ≡ take (length (f v)) (drop (sum_to v size) p.succs)
    one-other v k d (yes l) = store-after (length (f v)) (sum_to v size) (sum_to u size + length (f u)) t p.succs (omega (arith, sum-prefix u size v l, s.fits v k))
    one-other v k d (no l) = store-before (length (f v)) (sum_to v size) (sum_to u size + length (f u)) t p.succs (omega (arith, sum-prefix v size u (omega arith)))

    one-laid : (v : ℕ) → v < n → Dec (v ≡ u) → take (length (f' v)) (drop (sum_to v size) (set p.succs (sum_to u size + length (f u)) t)) ≡ f' v
    one-laid v k (yes e) = rw (e, here) (store-here (f u) p.succs (sum_to u size) t (omega (arith, s.whole, sum-prefix n size u h)) (s.laid u h))
    one-laid v k (no d) = rw (others v d) (one-other v k d (dec_lt v u) ∙ s.laid v k)

    filled-one : Filled n size f' (place_one t u p)
    unfolding place_one
    filled-one =
        record {
          inside = omega (arith, s.inside, length-set p.next u (get_or p.next u 0 + 1));
          whole = length-set p.succs (get_or p.next u 0) t ∙ s.whole;
          fits = λ v k. one-fits v k (ℕ_discrete v u);
          free = λ v k. one_free v k (ℕ_discrete v u);
          laid = λ v k. rw (s.free u h) (one-laid v k (ℕ_discrete v u));
        }

  -- each word's block has room for it as often as it stands there
  pub filled-room : (f : ℕ → List ℕ) (p : Placed) (words : List ℕ) → Filled n size f p → ((u : ℕ) → Among u words → u < n) → ((u : ℕ) → u < n → length (f u) + occ u words ≤ size u)
      → Room words p.next p.succs
  filled-room f p words s b r =
      record {
        inside = λ u h. omega (arith, b u h, s.inside);
        room = λ u h. omega (arith, s.free u (b u h), r u (b u h), s.whole, sum-prefix n size u (b u h));
      }

  pub filled-all : (t : ℕ) (words : List ℕ) (f : ℕ → List ℕ) (p : Placed) → Filled n size f p → ((u : ℕ) → Among u words → u < n) → ((u : ℕ) → u < n → length (f u) + occ u words ≤ size u)
      → Filled n size (λ u. f u ++ replicate (occ u words) t) (place_all t words p)
  unfolding place_all
  filled-all t [] f p s b r = filled-same f (λ u. f u ++ replicate (occ u []) t) p (λ u. rw (occ-nil ℕ_discrete u) (append-nil (f u))) s
  filled-all t (x ∷ words) f p s b r =
      filled-same (λ u. with-x u ++ replicate (occ u words) t) (λ u. f u ++ replicate (occ u (x ∷ words)) t) (place_all t words (place_one t x p)) joins
      (filled-all t words with-x (place_one t x p) first (λ u h. b u (omega (arith, occ-cons ℕ_discrete u x words))) rest)
    where
      with-x : ℕ → List ℕ
      with-x u = f u ++ replicate (tally (ℕ_discrete u x)) t

      joins : (u : ℕ) → f u ++ replicate (occ u (x ∷ words)) t ≡ with-x u ++ replicate (occ u words) t
      joins u =
          ap (λ (k : ℕ). f u ++ replicate k t) (occ-cons ℕ_discrete u x words)
          ∙ ap (λ (l : List ℕ). f u ++ l) (sym (replicate-append-replicate (tally (ℕ_discrete u x)) (occ u words) t))
          ∙ sym (append_assoc (f u) (replicate (tally (ℕ_discrete u x)) t) (replicate (occ u words) t))

      here : with-x x ≡ f x ++ (t ∷ [])
      here = ap (λ (k : ℕ). f x ++ replicate k t) (tally-yes (ℕ_discrete x x) refl)

      others : (v : ℕ) → ¬ (v ≡ x) → with-x v ≡ f v
      others v d = ap (λ (k : ℕ). f v ++ replicate k t) (tally-no (ℕ_discrete v x) d) ∙ append-nil (f v)

      x_below : x < n
      x_below = b x (omega (arith, occ-hit ℕ_discrete x x words refl))

      first : Filled n size with-x (place_one t x p)
      first = filled-one f with-x p t x s x_below (omega (arith, r x x_below, occ-hit ℕ_discrete x x words refl)) here others

      rest : (u : ℕ) → u < n → length (with-x u) + occ u words ≤ size u
      rest u h = omega (arith, r u h, occ-cons ℕ_discrete u x words, length-append (f u) (replicate (tally (ℕ_discrete u x)) t), length-replicate (tally (ℕ_discrete u x)) t)

-- when every block is full, the blocks are all
pub filled-whole : (n : ℕ) (size : ℕ → ℕ) (f : ℕ → List ℕ) (p : Placed) → Filled n size f p → ((u : ℕ) → u < n → length (f u) ≡ size u) → p.succs ≡ joined n f
filled-whole n size f p s e =
    sym (joined_same n (λ u. take (size u) (drop (sum_to u size) p.succs)) f (λ u h. sym (s.laid u h) ∙ ap (λ (k : ℕ). take k (drop (sum_to u size) p.succs)) (e u h))
    ∙ joined-parts n size p.succs ∙ ap (λ (k : ℕ). take k p.succs) (sym s.whole) ∙ take-length p.succs)
