-- The roots' items laid into rings that were cleared, one after the other.
use Prim.Native.Nat.{ℕ, suc, ◌+◌, ◌*◌, ◌%◌, ◌≤◌, ◌<◌}
use mathlib.Core.Path.{◌≡◌, refl, sym, ap, ◌∙◌}
use mathlib.Core.Bool.{Bool, true, false, cond}
use mathlib.Core.List.{List, [], ◌∷◌, ◌++◌, append-nil, map}
use native.Mathlib.Omega.{arith}
use native.Mathlib.Decide.{dec_lt}
use native.Mathlib.Nat.{mod-lt, mod-eq_of_lt}
use lib.Dec.{eqb}
use lib.IntN.{pos}
use lib.ListN.{length, get_or, length-append, get_or-eq_default}
use lib.Seq.{append_snoc}
use borrow.Author.Tests.{eq-eqb}
use Rattle.lists.specs.Sums.{sum_of}
use Rattle.lists.proofs.Sums.{sum_of-nil}
use Rattle.lists.proofs.Told.{Told, same-told, told-true, told-false}
use Rattle.lists.proofs.Places.{place-lt}
use Rattle.task.specs.declared.Ends.{Ends}
use Rattle.ring.specs.Ring.{end_words, slot_at, ends_at, queue, filled_ends}
use Rattle.ring.proofs.Ends.{ends-cleared}
use Rattle.ring.proofs.Queues.{queue-cleared}
use Rattle.memory.specs.Family.{Family}
use Rattle.memory.specs.Field as list
use Rattle.memory.specs.Memory.{Mem}
use Rattle.memory.specs.Updates.{Update, updated, written, spares}
use Rattle.memory.proofs.Fields.{written_both, written-other}
use Rattle.memory.proofs.Shape.{written-shaped}
use Rattle.plans.specs.Memory.{ring_number, rings_in, ends_in, counter_in}
use Rattle.plans.specs.Sizes.{Lengths}
use Rattle.plans.specs.Laying.{join_ring, roots_laid, dealt, to_ring}
use Rattle.plans.proofs.Dealt.{to-own, to-other, to-any}
use Rattle.plans.proofs.Joins.{Holds, join-lengths, join-own, join-other}

regrouped : (b : Bool) (l : List ℕ) (t : ℕ) (rest : List ℕ) → l ++ cond b (t ∷ rest) rest ≡ cond b (l ++ (t ∷ [])) l ++ rest
regrouped true l t rest = sym (append_snoc l t rest)
regrouped false l t rest = refl

-- the lists after t has joined ring q
abbrev added : ℕ → ℕ → (ℕ → List ℕ) → ℕ → List ℕ
added q t hold r = cond (eqb q r) (hold r ++ (t ∷ [])) (hold r)

-- updates that leave weights, rings, ends and counters alone
pub record Beside {F : Family} (us : List (Update F)) : Type 0 where
  pub weights : spares list.weights us ≡ true
  pub rings : spares list.rings us ≡ true
  pub ends : spares list.ends us ≡ true
  pub counters : spares list.counters us ≡ true

module _ {F : Family} (item : ℕ → F.Item) (p k : ℕ) where
  -- what no root's updates touch stays as it is
  pub laid-keeps : (beside : ℕ → ℕ → List (Update F)) {A : Type 0} (f : Mem F → A)
      → ((n t : ℕ) (m : Mem F) → f (written (beside n t ++ join_ring p k (n % p) (n % p) (item t) t m) m) ≡ f m)
      → (n : ℕ) (ts : List ℕ) (m : Mem F) → f (roots_laid p k item beside n ts m) ≡ f m
  unfolding roots_laid
  laid-keeps beside f h n [] m = refl
  laid-keeps beside f h n (t ∷ ts) m =
      laid-keeps beside f h (n + 1) ts (written (beside n t ++ join_ring p k (n % p) (n % p) (item t) t m) m) ∙ h n t m

  -- one root more is laid down
  pub laid-snoc : (beside : ℕ → ℕ → List (Update F)) (n : ℕ) (ts : List ℕ) (t : ℕ) (m : Mem F)
      → roots_laid p k item beside n (ts ++ (t ∷ [])) m
      ≡ written (beside (n + length ts) t ++ join_ring p k ((n + length ts) % p) ((n + length ts) % p) (item t) t (roots_laid p k item beside n ts m))
      (roots_laid p k item beside n ts m)
  unfolding roots_laid
  laid-snoc beside n [] t m =
      ap (λ (x : ℕ). written (beside x t ++ join_ring p k (x % p) (x % p) (item t) t m) m) (omega arith)
  laid-snoc beside n (x ∷ ts) t m =
      laid-snoc beside (n + 1) ts t (written (beside n x ++ join_ring p k (n % p) (n % p) (item x) x m) m)
      ∙ ap (λ (y : ℕ). written (beside y t ++ join_ring p k (y % p) (y % p) (item t) t b) b) (omega arith)
    where
      b : Mem F
      b = roots_laid p k item beside (n + 1) ts (written (beside n x ++ join_ring p k (n % p) (n % p) (item x) x m) m)

  module _ (given : List ℕ) where
    -- each ring q holds the items of the tasks `hold q`
    pub record Filled (hold : ℕ → List ℕ) (m : Mem F) : Type 0 where
      pub lengths : Lengths p k m
      pub weights : m.weights ≡ given
      pub rings : (q : ℕ) → q < p * p → Holds item k (λ t. get_or given t 0) m q (hold q)

    filled-same : (hold now : ℕ → List ℕ) (m : Mem F) → ((q : ℕ) → now q ≡ hold q) → Filled hold m → Filled now m
    filled-same hold now m e f = record { lengths = f.lengths; weights = f.weights; rings = λ q h. rw (e q) (f.rings q h) }

    filled-join : (hold : ℕ → List ℕ) (o t : ℕ) (m : Mem F) → o < p → length (hold (ring_number p o o)) < k → Filled hold m
        → Filled (added (ring_number p o o) t hold) (written (join_ring p k o o (item t) t m) m)
    unfolding written updated
    filled-join hold o t m h room f =
        record {
          lengths = join-lengths item p k o o t m f.lengths;
          weights = f.weights;
          rings = λ r l. at r l (same-told (ring_number p o o) r);
        }
      where
        own : Holds item k (λ t. get_or given t 0) m (ring_number p o o) (hold (ring_number p o o))
        own = f.rings (ring_number p o o) (place-lt p p o o h h)

        small : (ends_in m (ring_number p o o)).tail < k
        small = rw own.ends (mod-lt (length (hold (ring_number p o o))) (omega (arith, room)))

        at : (r : ℕ) → r < p * p → Told (eqb (ring_number p o o) r) (ring_number p o o ≡ r) (¬ (ring_number p o o ≡ r))
            → Holds item k (λ t. get_or given t 0) (written (join_ring p k o o (item t) t m) m) r (added (ring_number p o o) t hold r)
        at r l (told-true e s) =
            rw (e, sym s)
            (join-own item p k o o t m (λ t. get_or given t 0) (hold (ring_number p o o)) f.lengths (place-lt p p o o h h) (rw f.weights) room own)
        at r l (told-false e n) = rw e (join-other item p k o o t m (λ t. get_or given t 0) (hold r) r small (λ s. n (sym s)) (f.rings r l))

    -- what is written beside changes nothing of it
    filled_beside : (hold : ℕ → List ℕ) (us : List (Update F)) (m : Mem F) → Beside us → Filled hold m → Filled hold (written us m)
    filled_beside hold us m b f =
        record {
          lengths = written-shaped p k us m f.lengths;
          weights = written-other us m list.weights b.weights ∙ f.weights;
          rings = λ q h.
              let r : Holds item k (λ t. get_or given t 0) m q (hold q) = f.rings q h in
              record {
                ends = rw (written-other us m list.ends b.ends) r.ends;
                slot = rw (written-other us m list.rings b.rings) r.slot;
                items = rw (written-other us m list.rings b.rings, written-other us m list.ends b.ends) r.items;
                counter = rw (written-other us m list.counters b.counters) r.counter;
              };
        }

    -- so a root's item joins as if it joined afterwards
    join-beside : (us : List (Update F)) (o t : ℕ) (m : Mem F) → Beside us
        → written (us ++ join_ring p k o o (item t) t m) m ≡ written (join_ring p k o o (item t) t (written us m)) (written us m)
    join-beside us o t m b =
        written_both us (join_ring p k o o (item t) t m) m
        ∙ rw (written-other us m list.weights b.weights, written-other us m list.ends b.ends, written-other us m list.counters b.counters)

    module _ (beside : ℕ → ℕ → List (Update F)) (spared : (n t : ℕ) → Beside (beside n t)) where
      pub filled-laid : (n : ℕ) (ts : List ℕ) (hold : ℕ → List ℕ) (m : Mem F) → 0 < p
          → ((q : ℕ) → q < p * p → length (hold q) + length (to_ring p q n ts) ≤ k)
          → Filled hold m → Filled (λ q. hold q ++ to_ring p q n ts) (roots_laid p k item beside n ts m)
      unfolding roots_laid to_ring
      filled-laid n [] hold m h room f = filled-same hold (λ q. hold q ++ []) m (λ q. append-nil (hold q)) f
      filled-laid n (t ∷ ts) hold m h room f =
          filled-same (λ q. added o t hold q ++ to_ring p q (n + 1) ts) (λ q. hold q ++ to_ring p q n (t ∷ ts)) _ regroup
          (filled-laid (n + 1) ts (added o t hold) (written (beside n t ++ join_ring p k (n % p) (n % p) (item t) t m) m) h still
          (rw (join-beside (beside n t) (n % p) t m (spared n t))
          (filled-join hold (n % p) t (written (beside n t) m) (mod-lt n h) (omega (arith, own)) (filled_beside hold (beside n t) m (spared n t) f))))
        where
          o : ℕ
          o = ring_number p (n % p) (n % p)

          regroup : (q : ℕ) → hold q ++ to_ring p q n (t ∷ ts) ≡ added o t hold q ++ to_ring p q (n + 1) ts
          regroup q = regrouped (eqb o q) (hold q) t (to_ring p q (n + 1) ts)

          still : (q : ℕ) → q < p * p → length (added o t hold q) + length (to_ring p q (n + 1) ts) ≤ k
          still q l =
              omega (
                arith,
                room q l,
                ap length (regroup q),
                length-append (hold q) (to_ring p q n (t ∷ ts)),
                length-append (added o t hold q) (to_ring p q (n + 1) ts),
              )

          own : length (hold o) + suc (length (to_ring p o (n + 1) ts)) ≤ k
          own = rw (eq-eqb o o refl) at (room o (place-lt p p (n % p) (n % p) (mod-lt n h) (mod-lt n h)))

-- a memory whose rings, ends and counters are cleared
pub record Blank {F : Family} (m : Mem F) : Type 0 where
  pub rings : (x : ℕ) → get_or m.rings x F.no_item ≡ F.no_item
  pub ends : (x : ℕ) → ◌≡◌ {A = ℕ} (get_or m.ends x 0) 0
  pub counters : (q : ℕ) → counter_in m q ≡ pos 0

cond_of : {A B : Type 0} (f : A → B) (b : Bool) (x y : A) → f (cond b x y) ≡ cond b (f x) (f y)
cond_of f true x y = refl
cond_of f false x y = refl

module _ {F : Family} (item : ℕ → F.Item) (p k : ℕ) (slots : 0 < k) (given : List ℕ) where
  pub blank-filled : (m : Mem F) → Lengths p k m → m.weights ≡ given → Blank m → Filled item p k given (λ q. []) m
  blank-filled m lengths same blank =
      record {
        lengths = lengths;
        weights = same;
        rings = λ q h.
            record {
              ends = none q;
              slot = λ x hx. blank.rings (slot_at k q x);
              items = queue-cleared F.no_item k (rings_in m) q slots (none q);
              counter = blank.counters q ∙ ap pos (sym (sum_of-nil (λ (t : ℕ). get_or given t 0)));
            };
      }
    where
      none : (q : ℕ) → ends_in m q ≡ filled_ends k 0
      none q = ends-cleared m.ends q k slots blank.ends

  -- the roots dealt out to p workers: what rings, ends and counters hold
  module _ (one : 1 ≤ p) (rs : List ℕ) (b : Mem F) (f : Filled item p k given (λ q. to_ring p q 0 rs) b) where
    abbrev weight : ℕ → ℕ
    weight t = get_or given t 0

    at : (i j : ℕ) → i < p → j < p → Holds item k weight b (ring_number p i j) (to_ring p (ring_number p i j) 0 rs)
    at i j hi hj = f.rings (ring_number p i j) (place-lt p p i j hi hj)

    pub laid-own : (i : ℕ) → i < p → queue F.no_item k (rings_in b) (ring_number p i i) ≡ map item (dealt p i 0 rs)
    laid-own i h = (at i i h h).items ∙ ap (map item) (to-own p one i 0 rs h)

    pub laid-empty : (i j : ℕ) → i < p → j < p → ¬ (i ≡ j) → queue F.no_item k (rings_in b) (ring_number p i j) ≡ []
    laid-empty i j hi hj n = (at i j hi hj).items ∙ ap (map item) (to-other p one i j 0 rs hj n)

    pub laid-own-counter : (i : ℕ) → i < p → counter_in b (ring_number p i i) ≡ pos (sum_of weight (dealt p i 0 rs))
    laid-own-counter i h = (at i i h h).counter ∙ ap (λ (l : List ℕ). pos (sum_of weight l)) (to-own p one i 0 rs h)

    pub laid-other-counter : (i j : ℕ) → i < p → j < p → ¬ (i ≡ j) → counter_in b (ring_number p i j) ≡ pos 0
    laid-other-counter i j hi hj n =
        (at i j hi hj).counter ∙ ap (λ (l : List ℕ). pos (sum_of weight l)) (to-other p one i j 0 rs hj n) ∙ ap pos (sum_of-nil weight)

    pub laid-head : (q : ℕ) → ◌≡◌ {A = ℕ} (ends_in b q).head 0
    unfolding ends_at
    laid-head q = go (dec_lt q (p * p))
      where
        go : Dec (q < p * p) → ◌≡◌ {A = ℕ} (ends_in b q).head 0
        go (yes h) = ap (λ (e : Ends). e.head) (f.rings q h).ends
        go (no n) = get_or-eq_default b.ends 0 {n = q * end_words} (omega (arith, n, f.lengths.list list.ends))

    pub laid-tail : (i j : ℕ) → i < p → j < p → (ends_in b (ring_number p i j)).tail ≡ cond (eqb i j) (length (dealt p i 0 rs) % k) 0
    laid-tail i j hi hj =
        ap (λ (e : Ends). e.tail) (at i j hi hj).ends
        ∙ ap (λ (l : List ℕ). length l % k) (to-any p one i j 0 rs hi hj)
        ∙ cond_of (λ (l : List ℕ). length l % k) (eqb i j) (dealt p i 0 rs) []
        ∙ ap (cond (eqb i j) (length (dealt p i 0 rs) % k)) (mod-eq_of_lt slots)

    pub laid-count : (i j : ℕ) → i < p → j < p → (ends_in b (ring_number p i j)).count ≡ cond (eqb i j) (length (dealt p i 0 rs)) 0
    laid-count i j hi hj =
        ap (λ (e : Ends). e.count) (at i j hi hj).ends
        ∙ ap length (to-any p one i j 0 rs hi hj)
        ∙ cond_of length (eqb i j) (dealt p i 0 rs) []

    pub laid-slot : (i j x : ℕ) → i < p → j < p → x < k
        → get_or b.rings (slot_at k (ring_number p i j) x) F.no_item ≡ cond (eqb i j) (get_or (map item (dealt p i 0 rs)) x F.no_item) F.no_item
    laid-slot i j x hi hj hx =
        (at i j hi hj).slot x hx
        ∙ ap (λ (l : List ℕ). get_or (map item l) x F.no_item) (to-any p one i j 0 rs hi hj)
        ∙ cond_of (λ (l : List ℕ). get_or (map item l) x F.no_item) (eqb i j) (dealt p i 0 rs) []
