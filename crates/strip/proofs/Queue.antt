-- Laws of the queue over plain lists: what one task more at its end changes, and how steps compose.
use Prim.Native.Nat.{ℕ, zero, suc, ◌+◌, ◌-◌, ◌≤◌, ◌<◌}
use mathlib.Core.Path.{◌≡◌, refl, sym, ap, ◌∙◌}
use mathlib.Core.List.{List, [], ◌∷◌, ◌++◌, append-nil}
use native.Mathlib.Omega.{arith}
use native.Mathlib.Decide.{ℕ_discrete, dec_lt}
use lib.ListN.{length, get_or, set, take, drop, length-set}
use lib.Seq.{length-take-le, take-set-le, drop-set-lt, drop-drop, get_or-set_same, get_or-set_other, append_snoc}
use Rattle.lists.specs.Decided.{tally}
use Rattle.lists.specs.Lists.{occ}
use Rattle.lists.proofs.Decided.{stable, tally-yes, tally-no, tally-le-one, tally-pos}
use Rattle.lists.proofs.Occurrences.{occ-nil, occ-hit, occ-miss, occ-split}
use Rattle.lists.proofs.Sums.{short-without}
use Rattle.lists.proofs.Prefixes.{occ-single, occ-more, occ-more-hit, occ-store, take-store, take_same, inside}
use Rattle.graph.specs.Graph.{Among}
use Rattle.graph.specs.Stripping.{keep_if}
use Rattle.strip.specs.Queue.{stripped, queued_at, Queued, nones_below, Falling, Emptied, Lowered}

-- lists that agree from place m on agree from place n on
pub drop-later : (a b : List ℕ) (m n : ℕ) → m ≤ n → drop m a ≡ drop m b → drop n a ≡ drop n b
drop-later a b m n h e = sym (at a) ∙ ap (drop (n - m)) e ∙ at b
  where
    at : (l : List ℕ) → drop (n - m) (drop m l) ≡ drop n l
    at l = drop-drop (n - m) m l ∙ ap (λ (k : ℕ). drop k l) {x = m + (n - m)} {y = n} (omega (arith, h))

-- a task without successors left is counted as 1, another as 0
pub stripped-none : (left : List ℕ) (u : ℕ) → get_or left u 0 ≡ 0 → stripped left u ≡ 1
stripped-none left u e = tally-yes (ℕ_discrete (get_or left u 0) 0) e

pub stripped-some : (left : List ℕ) (u : ℕ) → 0 < get_or left u 0 → stripped left u ≡ 0
stripped-some left u h = tally-no (ℕ_discrete (get_or left u 0) 0) (λ e. omega arith)

stripped-is : (left : List ℕ) (u : ℕ) → 0 < stripped left u → get_or left u 0 ≡ 0
stripped-is left u h = tally-pos (ℕ_discrete (get_or left u 0) 0) h

pub stripped-le : (left : List ℕ) (u : ℕ) → stripped left u ≤ 1
stripped-le left u = tally-le-one (ℕ_discrete (get_or left u 0) 0)

module _ (left queue : List ℕ) (tail : ℕ) (q : Queued left queue tail) where
  -- there is room for a task that is not queued
  pub room_for : (t : ℕ) → t < 1024 → queued_at queue tail t ≡ 0 → tail < 1024
  room_for t h z =
      omega (
        arith,
        length-take-le tail queue (omega (arith, q.short, q.room)),
        short-without 1024 (take tail queue) q.below (λ u. omega (arith, q.few u, stripped-le left u)) t h z,
      )

  -- a task with successors left is not queued
  pub not-queued : (t : ℕ) → 0 < get_or left t 0 → queued_at queue tail t ≡ 0
  not-queued t h = omega (arith, q.few t, stripped-some left t h)

  -- a queued task is queued once and has no successor left
  pub queued-once : (u : ℕ) → queued_at queue tail u ≤ 1
  queued-once u = omega (arith, q.few u, stripped-le left u)

  pub queued-none : (u : ℕ) → Among u (take tail queue) → get_or left u 0 ≡ 0
  queued-none u h = stripped-is left u (omega (arith, q.few u))

  module _ (t : ℕ) (h : t < 1024) (z : queued_at queue tail t ≡ 0) where
    push-here : queued_at (set queue tail t) (tail + 1) t ≡ 1
    push-here = omega (arith, occ-store queue tail t (omega (arith, q.room, room_for t h z)) t, tally-yes (ℕ_discrete t t) refl)

    push-other : (u : ℕ) → ¬ (u ≡ t) → queued_at (set queue tail t) (tail + 1) u ≡ queued_at queue tail u
    push-other u n = omega (arith, occ-store queue tail t (omega (arith, q.room, room_for t h z)) u, tally-no (ℕ_discrete u t) n)

    -- the queue with one task more, for counts in which that task has none left and the others what they had
    pushed : (left' : List ℕ) → length left' ≡ 1024 → get_or left' t 0 ≡ 0 → ((u : ℕ) → ¬ (u ≡ t) → get_or left' u 0 ≡ get_or left u 0) → Queued left' (set queue tail t) (tail + 1)
    pushed left' l e o =
        record {
          lefts = l;
          room = length-set queue tail t ∙ q.room;
          short = omega (arith, room_for t h z);
          below = λ u m. at u m (ℕ_discrete u t);
          few = λ u. count u (ℕ_discrete u t);
        }
      where
        at : (u : ℕ) → Among u (take (tail + 1) (set queue tail t)) → Dec (u ≡ t) → u < 1024
        at u m (yes p) = omega arith
        at u m (no n) = q.below u (omega (arith, push-other u n))

        count : (u : ℕ) → Dec (u ≡ t) → queued_at (set queue tail t) (tail + 1) u ≤ stripped left' u
        count u (yes p) = rw p (omega (arith, push-here, stripped-none left' t e))
        count u (no n) = rw (o u n) (omega (arith, push-other u n, q.few u))

  -- one successor less for task u
  module _ (u : ℕ) (some : 0 < get_or left u 0) where
    pub lower-at : u < 1024
    lower-at = omega (arith, inside left u some, q.lefts)

    fewer : List ℕ
    fewer = set left u (get_or left u 0 - 1)

    fewer-here : get_or fewer u 0 ≡ get_or left u 0 - 1
    unfolding fewer
    fewer-here = get_or-set_same left u (get_or left u 0 - 1) 0 (inside left u some)

    fewer-other : (v : ℕ) → ¬ (v ≡ u) → get_or fewer v 0 ≡ get_or left v 0
    unfolding fewer
    fewer-other v n = get_or-set_other left u v (get_or left u 0 - 1) 0 n

    fewer-length : length fewer ≡ 1024
    unfolding fewer
    fewer-length = length-set left u (get_or left u 0 - 1) ∙ q.lefts

    fewer-counts : (v : ℕ) → get_or fewer v 0 + occ v (u ∷ []) ≡ get_or left v 0
    fewer-counts v = go (ℕ_discrete v u)
      where
        go : Dec (v ≡ u) → get_or fewer v 0 + occ v (u ∷ []) ≡ get_or left v 0
        go (yes e) = rw e (omega (arith, fewer-here, occ-hit ℕ_discrete u u [] refl, occ-nil ℕ_discrete u))
        go (no n) = omega (arith, fewer-other v n, occ-miss ℕ_discrete v u [] n, occ-nil ℕ_discrete v)

    lowered-last : get_or left u 0 - 1 ≡ 0 → Lowered (u ∷ []) left fewer queue (set queue tail u) tail (tail + 1)
    lowered-last e =
        record {
          queued = pushed u lower-at (not-queued u some) fewer fewer-length (fewer-here ∙ e) fewer-other;
          counts = fewer-counts;
          joins = λ v. joined v (ℕ_discrete v u);
          front = take-set-le tail queue tail u (omega arith);
          behind = drop-set-lt (tail + 1) queue tail u (omega arith);
          longer = omega arith;
        }
      where
        joined : (v : ℕ) → Dec (v ≡ u) → queued_at (set queue tail u) (tail + 1) v + stripped left v ≡ queued_at queue tail v + stripped fewer v
        joined v (yes p) =
            rw p (omega (arith, push-here u lower-at (not-queued u some), not-queued u some, stripped-some left u some, stripped-none fewer u (fewer-here ∙ e)))
        joined v (no n) = rw (fewer-other v n) (omega (arith, push-other u lower-at (not-queued u some) v n))

    lowered-more : (get_or left u 0 - 1 ≡ 0 → ⊥) → Lowered (u ∷ []) left fewer queue queue tail tail
    lowered-more m =
        record {
          queued = record { lefts = fewer-length; room = q.room; short = q.short; below = q.below; few = λ v. count v (ℕ_discrete v u) };
          counts = fewer-counts;
          joins = λ v. ap (λ (k : ℕ). queued_at queue tail v + k) (sym (same v (ℕ_discrete v u)));
          front = refl;
          behind = refl;
          longer = omega arith;
        }
      where
        same : (v : ℕ) → Dec (v ≡ u) → stripped fewer v ≡ stripped left v
        same v (yes p) = rw p (omega (arith, stripped-some left u some, stripped-some fewer u (stable (dec_lt 0 (get_or fewer u 0)) (λ n. m (omega (arith, fewer-here))))))
        same v (no n) = rw (fewer-other v n)

        count : (v : ℕ) → Dec (v ≡ u) → queued_at queue tail v ≤ stripped fewer v
        count v d = omega (arith, same v d, q.few v)

    pub lower_last : get_or left u 0 - 1 ≡ 0 → Lowered (u ∷ []) left (set left u (get_or left u 0 - 1)) queue (set queue tail u) tail (tail + 1)
    unfolding fewer
    lower_last e = lowered-last e

    pub lower-more : (get_or left u 0 - 1 ≡ 0 → ⊥) → Lowered (u ∷ []) left (set left u (get_or left u 0 - 1)) queue queue tail tail
    unfolding fewer
    lower-more m = lowered-more m

-- a number that is kept or not
module _ {A : Type 0} where
  keep-yes : (d : Dec A) (x : ℕ) (l : List ℕ) → A → keep_if d x l ≡ x ∷ l
  keep-yes (yes a) x l b = refl
  keep-yes (no n) x l b = absurd (n b)

  keep-no : (d : Dec A) (x : ℕ) (l : List ℕ) → ¬ A → keep_if d x l ≡ l
  keep-no (yes a) x l n = absurd (n a)
  keep-no (no m) x l n = refl

  keep-behind : (d : Dec A) (x : ℕ) (k l : List ℕ) → k ++ keep_if d x [] ++ l ≡ k ++ keep_if d x l
  keep-behind (yes a) x k l = append_snoc k x l
  keep-behind (no n) x k l = ap (λ (m : List ℕ). m ++ l) (append-nil k)

  keep-hit : (d : Dec A) (x : ℕ) (l : List ℕ) → occ x (keep_if d x l) ≡ tally d + occ x l
  keep-hit (yes a) x l = omega (arith, occ-hit ℕ_discrete x x l refl)
  keep-hit (no n) x l = omega arith

  keep-miss : (d : Dec A) (x : ℕ) (l : List ℕ) (u : ℕ) → ¬ (u ≡ x) → occ u (keep_if d x l) ≡ occ u l
  keep-miss (yes a) x l u n = occ-miss ℕ_discrete u x l n
  keep-miss (no m) x l u n = refl

pub keep_same : {A B : Type 0} (d : Dec A) (e : Dec B) (x : ℕ) (l : List ℕ) → (A → B) → (B → A) → keep_if d x l ≡ keep_if e x l
keep_same (yes a) e x l f g = sym (keep-yes e x l (f a))
keep_same (no n) e x l f g = sym (keep-no e x l (λ b. n (g b)))

-- one task looked at
module _ (left queue : List ℕ) (tail t : ℕ) where
  pub queue-one : tail < length queue → get_or left t 0 ≡ 0 → take (tail + 1) (set queue tail t) ≡ take tail queue ++ keep_if (ℕ_discrete (get_or left t 0) 0) t []
  queue-one h e = take-store queue tail t h ∙ ap (λ (l : List ℕ). take tail queue ++ l) (sym (keep-yes (ℕ_discrete (get_or left t 0) 0) t [] e))

  pub queue-none : (get_or left t 0 ≡ 0 → ⊥) → take tail queue ≡ take tail queue ++ keep_if (ℕ_discrete (get_or left t 0) 0) t []
  queue-none n = sym (append-nil (take tail queue)) ∙ ap (λ (l : List ℕ). take tail queue ++ l) (sym (keep-no (ℕ_discrete (get_or left t 0) 0) t [] n))

-- no task yet
pub falling-none : (n : ℕ) (left queue : List ℕ) → length queue ≡ 1024 → Falling n n left queue queue 0
falling-none n left queue r = record { room = r; few = omega arith; falls = refl; behind = refl }

-- the tasks from t on, after those from t + 1 on
pub falling-more : (t k n : ℕ) (left queue₀ queue queue' : List ℕ) (tail tail' : ℕ) → k ≡ suc t → Falling k n left queue₀ queue tail → length queue' ≡ 1024
    → take tail' queue' ≡ take tail queue ++ keep_if (ℕ_discrete (get_or left t 0) 0) t []
    → (tail ≤ tail') × ((tail' ≤ tail + 1) × (drop tail' queue' ≡ drop tail' queue)) → Falling t n left queue₀ queue' tail'
unfolding nones_below
falling-more t k n left queue₀ queue queue' tail tail' e f r q (l, (m, d)) =
    record {
      room = r;
      few = omega (arith, f.few);
      falls = ap (λ (l : List ℕ). l ++ nones_below left t) q
          ∙ keep-behind (ℕ_discrete (get_or left t 0) 0) t (take tail queue) (nones_below left t) ∙ rw e at f.falls;
      behind = d ∙ drop-later queue queue₀ tail tail' l f.behind;
    }

nones-beyond : (left : List ℕ) (n u : ℕ) → n ≤ u → occ u (nones_below left n) ≡ 0
unfolding nones_below
nones-beyond left zero u h = occ-nil ℕ_discrete u
nones-beyond left (suc n) u h = keep-miss (ℕ_discrete (get_or left n 0) 0) n (nones_below left n) u (λ e. omega arith) ∙ nones-beyond left n u (omega arith)

nones-at : (left : List ℕ) (n u : ℕ) → u < n → occ u (nones_below left n) ≡ stripped left u
unfolding nones_below
nones-at left zero u h = absurd (omega arith)
nones-at left (suc n) u h = go (ℕ_discrete u n) (nones-at left n u)
  where
    go : Dec (u ≡ n) → (u < n → occ u (nones_below left n) ≡ stripped left u) → occ u (keep_if (ℕ_discrete (get_or left n 0) 0) n (nones_below left n)) ≡ stripped left u
    go (yes e) rec = rw e (omega (arith, keep-hit (ℕ_discrete (get_or left n 0) 0) n (nones_below left n), nones-beyond left n n (omega arith)))
    go (no m) rec = keep-miss (ℕ_discrete (get_or left n 0) 0) n (nones_below left n) u m ∙ rec (omega arith)

-- all of them: the queue holds the tasks without successors, and no other
module _ (n : ℕ) (left queue₀ queue : List ℕ) (tail : ℕ) (f : Falling 0 n left queue₀ queue tail) where
  pub falling-all : take tail queue ≡ nones_below left n
  unfolding nones_below
  falling-all = sym (append-nil (take tail queue)) ∙ f.falls

  pub falling-emptied : n ≤ 1024 → length left ≡ 1024 → Emptied n left queue tail
  falling-emptied h l =
      record {
        queued = record {
          lefts = l;
          room = f.room;
          short = omega (arith, f.few);
          below = λ u m. stable (dec_lt u 1024) (λ k. omega (arith, beyond u (omega arith)));
          few = λ u. few u (dec_lt u n);
        };
        looked = looked;
        beyond = beyond;
      }
    where
      beyond : (u : ℕ) → n ≤ u → queued_at queue tail u ≡ 0
      beyond u k = ap (occ u) falling-all ∙ nones-beyond left n u k

      looked : (u : ℕ) → u < n → queued_at queue tail u ≡ stripped left u
      looked u k = ap (occ u) falling-all ∙ nones-at left n u k

      few : (u : ℕ) → Dec (u < n) → queued_at queue tail u ≤ stripped left u
      few u (yes k) = omega (arith, looked u k)
      few u (no m) = omega (arith, beyond u (omega arith))

pub falling-done : (k n : ℕ) (left queue₀ queue : List ℕ) (tail : ℕ) → k ≡ 0 → Falling k n left queue₀ queue tail → Falling 0 n left queue₀ queue tail
falling-done k n left queue₀ queue tail e f = rw e at f

-- no word yet
pub lowered_none : (left queue : List ℕ) (tail : ℕ) → Queued left queue tail → Lowered [] left left queue queue tail tail
lowered_none left queue tail q =
    record { queued = q; counts = λ u. omega (arith, occ-nil ℕ_discrete u); joins = λ u. refl; front = refl; behind = refl; longer = omega arith }

module _ (words left₀ left queue₀ queue : List ℕ) (tail₀ tail i : ℕ) (h : i < length words) (l : Lowered (take i words) left₀ left queue₀ queue tail₀ tail) where
  -- the next word's task has a successor left
  pub lower-next : ((u : ℕ) → occ u words ≤ get_or left₀ u 0) → 0 < get_or left (get_or words i 0) 0
  lower-next f =
      omega (
        arith,
        l.counts (get_or words i 0),
        f (get_or words i 0),
        occ-more-hit words i h (get_or words i 0) refl,
        occ-split ℕ_discrete (get_or words i 0) (i + 1) words,
      )

  pub lowered-next : (left' queue' : List ℕ) (tail' : ℕ) → Lowered (get_or words i 0 ∷ []) left left' queue queue' tail tail'
      → Lowered (take (i + 1) words) left₀ left' queue₀ queue' tail₀ tail'
  lowered-next left' queue' tail' m =
      record {
        queued = m.queued;
        counts = λ u. omega (arith, l.counts u, m.counts u, occ-more words i h u, occ-single u (get_or words i 0));
        joins = λ u. omega (arith, l.joins u, m.joins u);
        front = take_same queue' queue tail₀ tail l.longer m.front ∙ l.front;
        behind = m.behind ∙ drop-later queue queue₀ tail tail' m.longer l.behind;
        longer = omega (arith, l.longer, m.longer);
      }
