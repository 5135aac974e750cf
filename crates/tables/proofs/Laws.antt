-- Laws over plain lists and numbers that the leaves' proofs cite.
use Prim.Native.Nat.{ℕ, ◌+◌, ◌-◌, ◌≤◌, ◌<◌}
use mathlib.Core.Path.{◌≡◌, refl, sym, ◌∙◌}
use mathlib.Core.Logic.{◌↔◌}
use mathlib.Core.List.{List}
use native.Mathlib.Omega.{arith}
use native.Mathlib.Decide.{ℕ_discrete, dec_le, dec_lt}
use native.Mathlib.Numerals.{add-one}
use mathlib.Core.Bool.{Bool, true, false, not, ◌&&◌}
use borrow.Author.Tests.{not-true, not-false, ltb-true, ltb-false}
use borrow.Author.Count.{below_more}
use lib.Dec.{leb, ltb}
use lib.ListN.{length, get_or, set, take, drop, length-take, length-drop}
use lib.Seq.{take_all, length-take-le, get_or-set_same, get_or-set_other}
use Rattle.lists.specs.Lists.{occ}
use Rattle.lists.specs.Sums.{sum_to}
use Rattle.lists.specs.Decided.{holds}
use Rattle.lists.proofs.Decided.{stable, yes-holds, no-holds, holds-yes, holds-no, first-is, first-none}
use Rattle.lists.proofs.Apart.{true-and-false}
use Rattle.lists.proofs.Told.{and-true}
use Rattle.task.specs.Types.{capped}
use Rattle.task.specs.declared.Limits.{Limits}
use Rattle.graph.specs.Graph.{Among, part, Graph, graph_of, preds_of}
use Rattle.graph.specs.Conditions.{Good, Twice, Sound}
use Rattle.graph.specs.Decide.{light?, among?, good?, bad?, twice_in?, twice?}
use Rattle.graph.specs.Check.{sizes_fit, first_bad, first_twice}
use Rattle.graph.proofs.Parts.{occ-preds}
use Rattle.lists.proofs.Sums.{sum-suc}
use Rattle.tables.specs.Ranges.{RangesRise}
use Rattle.lists.proofs.Occurrences.{occ-nil, occ-le-length, occ-split, at-occ, occ-at}
use Rattle.lists.proofs.Prefixes.{occ-more-hit, occ-more-miss}

-- a word of a part is one of the words
inside-among : (u a k : ℕ) (words : List ℕ) → Among u (take k (drop a words)) → Among u words
inside-among u a k words h = omega (arith, occ-split ℕ_discrete u k (drop a words), occ-split ℕ_discrete u a words)

-- what holds of every word holds of each
pub word_below : (words : List ℕ) (i : ℕ) → i < length words → (n : ℕ) → ((u : ℕ) → Among u words → u < n) → get_or words i 0 < n
word_below words i h n f = f (get_or words i 0) (at-occ ℕ_discrete 0 words i h)

-- After i words each count has grown by how often its number stands among them.
pub record Counted (words base counts : List ℕ) (i : ℕ) : Type 0 where
  pub count : (u : ℕ) → get_or counts u 0 ≡ get_or base u 0 + occ u (take i words)

pub count_none : (words base : List ℕ) → Counted words base base 0
count_none words base = record { count = λ u. omega (arith, occ-nil ℕ_discrete u) }

module _ {words base counts : List ℕ} {i : ℕ} (k : Counted words base counts i) where
  pub count_small : i ≤ length words → (u : ℕ) → get_or counts u 0 ≤ get_or base u 0 + i
  count_small h u = omega (arith, k.count u, occ-le-length ℕ_discrete u (take i words), length-take-le i words h)

  pub count_turn : i < length words → get_or words i 0 < length counts
      → Counted words base (set counts (get_or words i 0) (get_or counts (get_or words i 0) 0 + 1)) (i + 1)
  count_turn h m = record { count = λ u. go u (ℕ_discrete u (get_or words i 0)) }
    where
      go : (u : ℕ) → Dec (u ≡ get_or words i 0)
          → get_or (set counts (get_or words i 0) (get_or counts (get_or words i 0) 0 + 1)) u 0 ≡ get_or base u 0 + occ u (take (i + 1) words)
      go u (yes e) =
          rw e
          (omega (arith, get_or-set_same counts (get_or words i 0) (get_or counts (get_or words i 0) 0 + 1) 0 m, k.count (get_or words i 0), occ-more-hit words i h (get_or words i 0) refl))
      go u (no n) =
          omega (arith, get_or-set_other counts (get_or words i 0) u (get_or counts (get_or words i 0) 0 + 1) 0 n, k.count u, occ-more-miss words i h u n)

  pub count-whole : length words ≤ i → (u : ℕ) → get_or counts u 0 ≡ get_or base u 0 + occ u words
  count-whole h u = rw (take_all i words h) at (k.count u)

-- Sizes and weights.
pub sizes-made : (l k : Limits) (n e : ℕ) → k ≡ capped l → leb n k.tasks && leb e k.edges ≡ sizes_fit l n e
unfolding sizes_fit
sizes-made l k n e h = rw h

-- Words below n.
module _ (words : List ℕ) (n : ℕ) where
  pub words-below : (i : ℕ) → length words ≤ i → ((k : ℕ) → k < i → get_or words k 0 < n) → true ≡ holds (among? (λ u. dec_lt u n) words)
  words-below i h f = sym (yes-holds (among? (λ u. dec_lt u n) words) all)
    where
      all : (u : ℕ) → Among u words → u < n
      all u m = let w : (k : ℕ) × (k < length words) × (get_or words k 0 ≡ u) = occ-at ℕ_discrete 0 u words m in omega (arith, f w.0 (omega (arith, w.1)), w.2)

  pub word-beyond : (i : ℕ) → i < length words → n ≤ get_or words i 0 → false ≡ holds (among? (λ u. dec_lt u n) words)
  word-beyond i h b = sym (no-holds (among? (λ u. dec_lt u n) words) (λ f. omega (arith, word_below words i h n f)))

  -- what tells of each word decides
  pub below-told : (r : Bool) → (r ≡ true) ↔ ((k : ℕ) → k < length words → get_or words k 0 < n) → r ≡ holds (among? (λ u. dec_lt u n) words)
  below-told true f = words-below (length words) (omega arith) (f.0 refl)
  below-told false f = sym (no-holds (among? (λ u. dec_lt u n) words) (λ g. true-and-false (f.1 (λ k h. word_below words k h n g)) refl))

-- Of the first i words, whether all are below n.
pub record BelowTo (words : List ℕ) (n i : ℕ) (below : Bool) : Type 0 where
  pub all : below ≡ true → (k : ℕ) → k < i → get_or words k 0 < n
  pub some : below ≡ false → ¬ ((u : ℕ) → Among u words → u < n)

module _ (words : List ℕ) (n : ℕ) where
  pub below_on : (i : ℕ) (below : Bool) → BelowTo words n i below → i < length words → BelowTo words n (i + 1) (below && ltb (get_or words i 0) n)
  below_on i true b h =
      record {
        all = λ e. below_more _ _ (b.all refl) (ltb-true (get_or words i 0) n e);
        some = λ e f. omega (arith, ltb-false (get_or words i 0) n e, word_below words i h n f);
      }
  below_on i false b h = record { all = λ e k l. true-and-false e refl; some = λ e. b.some refl }

  pub below-whole : (i : ℕ) (below : Bool) → BelowTo words n i below → length words ≤ i → below ≡ holds (among? (λ u. dec_lt u n) words)
  below-whole i true b h = words-below words n i h (b.all refl)
  below-whole i false b h = sym (no-holds (among? (λ u. dec_lt u n) words) (b.some refl))

-- Weights are words below 65,536.
pub light-made : (weights : List ℕ) (r : Bool) → r ≡ holds (among? (λ u. dec_lt u 65536) weights) → r ≡ holds (light? weights)
light-made weights true e =
    sym (yes-holds (light? weights) (λ t h. omega (arith, word_below weights t h 65536 (holds-yes (among? (λ u. dec_lt u 65536) weights) (sym e)))))
light-made weights false e = sym (no-holds (light? weights) (λ f. holds-no (among? (λ u. dec_lt u 65536) weights) (sym e) (all f)))
  where
    all : ((t : ℕ) → t < length weights → get_or weights t 0 ≤ 65535) → (u : ℕ) → Among u weights → u < 65536
    all f u m =
        let w : (k : ℕ) × (k < length weights) × (get_or weights k 0 ≡ u) = occ-at ℕ_discrete 0 u weights m in
        omega (arith, f w.0 w.1, w.2)

-- A part: its range, and its words.
module _ (n : ℕ) (starts words : List ℕ) (t : ℕ) where
  pub part-words : (r : Bool) → get_or starts t 0 ≤ get_or starts (t + 1) 0 → get_or starts (t + 1) 0 ≤ length words
      → r ≡ holds (among? (λ u. dec_lt u n) (take (get_or starts (t + 1) 0 - get_or starts t 0) (drop (get_or starts t 0) words)))
      → r ≡ holds (good? n starts words t)
  unfolding part
  part-words true a b e = sym (yes-holds (good? n starts words t) (record { rises = a; inside = b; below = holds-yes (among? (λ u. dec_lt u n) (take (get_or starts (t + 1) 0 - get_or starts t 0) (drop (get_or starts t 0) words))) (sym e) }))
  part-words false a b e = sym (no-holds (good? n starts words t) (λ g. holds-no (among? (λ u. dec_lt u n) (take (get_or starts (t + 1) 0 - get_or starts t 0) (drop (get_or starts t 0) words))) (sym e) g.below))

-- The first part that is not good, found by asking one after the other.
module _ (n : ℕ) (starts preds : List ℕ) (t : ℕ) where
  pub bad-found : (r : Bool) → t < n → not r ≡ true → r ≡ holds (good? n starts preds t) → ((k : ℕ) → k < t → Good n starts preds k)
      → t ≡ first_bad (graph_of n starts preds)
  unfolding first_bad
  bad-found r h e m f =
      first-is n (bad? (graph_of n starts preds)) t h (holds-no (good? n starts preds t) (sym m ∙ not-true r e)) (λ k l b. b (f k l))

  pub good-found : (r : Bool) → not r ≡ false → r ≡ holds (good? n starts preds t) → Good n starts preds t
  good-found r e m = holds-yes (good? n starts preds t) (sym m ∙ not-false r e)

  pub bad-none : n ≤ t → ((k : ℕ) → k < t → Good n starts preds k) → n ≡ first_bad (graph_of n starts preds)
  unfolding first_bad
  bad-none h f = first-none n (bad? (graph_of n starts preds)) (λ k l b. b (f k (omega arith)))

-- Where all words are below n and all ranges rise up to their number, no part is bad.
pub flat_good : (n : ℕ) (starts preds : List ℕ) (bound most : ℕ) → bound ≤ n → most ≤ length preds
    → (below rise : Bool) → (below && rise) ≡ true → below ≡ holds (among? (λ u. dec_lt u bound) preds) → (rise ≡ true → RangesRise n starts most)
    → n ≡ first_bad (graph_of n starts preds)
unfolding part
flat_good n starts preds bound most h l below rise e b r = bad-none n starts preds n (omega arith) good
  where
    both : (below ≡ true) × (rise ≡ true)
    both = and-true below rise e

    good : (k : ℕ) → k < n → Good n starts preds k
    good k m =
        record {
          rises = (r both.1 k m).0;
          inside = omega (arith, (r both.1 k m).1);
          below = λ u q. omega (arith, holds-yes (among? (λ u. dec_lt u bound) preds) (sym b ∙ both.0) u (inside-among u (get_or starts k 0) (get_or starts (k + 1) 0 - get_or starts k 0) preds q));
        }

-- After i words no word was met twice, and those that were met are the ones whose mark carries the stamp.
pub record Met (words marks : List ℕ) (stamp i : ℕ) : Type 0 where
  pub once : (u : ℕ) → occ u (take i words) ≤ 1
  pub low : (u : ℕ) → get_or marks u 0 < stamp + occ u (take i words)
  pub stamped : (u : ℕ) → 0 < occ u (take i words) → get_or marks u 0 ≡ stamp

pub met-none : (words marks : List ℕ) (stamp : ℕ) → ((u : ℕ) → get_or marks u 0 < stamp) → Met words marks stamp 0
met-none words marks stamp f =
    record {
      once = λ u. omega (arith, occ-nil ℕ_discrete u);
      low = λ u. omega (arith, f u, occ-nil ℕ_discrete u);
      stamped = λ u h. absurd (omega (arith, occ-nil ℕ_discrete u));
    }

module _ {words marks : List ℕ} {stamp i : ℕ} (k : Met words marks stamp i) where
  pub met-low : (u : ℕ) → get_or marks u 0 ≤ stamp
  met-low u = omega (arith, k.once u, k.low u)

  pub met-twin : i < length words → get_or marks (get_or words i 0) 0 ≡ stamp → true ≡ holds (twice_in? words)
  met-twin h e =
      sym
      (yes-holds (twice_in? words) (
        get_or words i 0,
        omega (arith, k.low (get_or words i 0), occ-more-hit words i h (get_or words i 0) refl, occ-split ℕ_discrete (get_or words i 0) (i + 1) words),
      ))

  pub met-turn : i < length words → get_or words i 0 < length marks → ¬ (get_or marks (get_or words i 0) 0 ≡ stamp)
      → Met words (set marks (get_or words i 0) stamp) stamp (i + 1)
  met-turn h m n =
      record { once = λ u. first u (ℕ_discrete u (get_or words i 0)); low = λ u. second u (ℕ_discrete u (get_or words i 0)); stamped = λ u. third u (ℕ_discrete u (get_or words i 0)) }
    where
      fresh : occ (get_or words i 0) (take i words) ≡ 0
      fresh = stable (ℕ_discrete (occ (get_or words i 0) (take i words)) 0) (λ q. n (k.stamped (get_or words i 0) (omega arith)))

      first : (u : ℕ) → Dec (u ≡ get_or words i 0) → occ u (take (i + 1) words) ≤ 1
      first u (yes e) = rw e (omega (arith, fresh, occ-more-hit words i h (get_or words i 0) refl))
      first u (no q) = omega (arith, k.once u, occ-more-miss words i h u q)

      second : (u : ℕ) → Dec (u ≡ get_or words i 0) → get_or (set marks (get_or words i 0) stamp) u 0 < stamp + occ u (take (i + 1) words)
      second u (yes e) =
          rw e (omega (arith, get_or-set_same marks (get_or words i 0) stamp 0 m, occ-more-hit words i h (get_or words i 0) refl))
      second u (no q) = omega (arith, k.low u, get_or-set_other marks (get_or words i 0) u stamp 0 q, occ-more-miss words i h u q)

      third : (u : ℕ) → Dec (u ≡ get_or words i 0) → 0 < occ u (take (i + 1) words) → get_or (set marks (get_or words i 0) stamp) u 0 ≡ stamp
      third u (yes e) o = rw e (get_or-set_same marks (get_or words i 0) stamp 0 m)
      third u (no q) o = get_or-set_other marks (get_or words i 0) u stamp 0 q ∙ k.stamped u (omega (arith, occ-more-miss words i h u q))

  pub met-whole : length words ≤ i → false ≡ holds (twice_in? words)
  met-whole h =
      sym (no-holds (twice_in? words) (λ w. omega (arith, w.1, rw (take_all i words h) at (k.once w.0))))

-- The first part with a word twice.
module _ {g : Graph} (s : Sound g) (t : ℕ) where
  pub part_small : t < g.tasks → (u : ℕ) → Among u (preds_of g t) → u < 1024
  part_small h u m = omega (arith, s.sized.tasks, (s.good t h).below u m)

  pub twice_found : (r : Bool) → t < g.tasks → r ≡ true → r ≡ holds (twice_in? (preds_of g t)) → ((k : ℕ) → k < t → ¬ (Twice g k)) → t ≡ first_twice g
  unfolding first_twice
  twice_found r h e m f = first-is g.tasks (twice? g) t h (holds-yes (twice_in? (preds_of g t)) (sym m ∙ e)) f

  pub once-found : (r : Bool) → r ≡ false → r ≡ holds (twice_in? (preds_of g t)) → ¬ (Twice g t)
  once-found r e m = holds-no (twice_in? (preds_of g t)) (sym m ∙ e)

  pub twice-none : g.tasks ≤ t → ((k : ℕ) → k < t → ¬ (Twice g k)) → g.tasks ≡ first_twice g
  unfolding first_twice
  twice-none h f = first-none g.tasks (twice? g) (λ k l. f k (omega arith))

pub part-short : (starts words : List ℕ) (t n : ℕ) → length words ≤ n → length (part starts words t) ≤ n
unfolding part
part-short starts words t n h =
    omega (arith, length-take (get_or starts (t + 1) 0 - get_or starts t 0) (drop (get_or starts t 0) words), length-drop (get_or starts t 0) words)

-- The words of the parts before t, counted; each stands there at most once in a part.
pub record Tallied (g : Graph) (counts : List ℕ) (t : ℕ) : Type 0 where
  pub count : (u : ℕ) → get_or counts u 0 ≡ sum_to t (λ k. occ u (preds_of g k))
  pub few : (u : ℕ) → get_or counts u 0 ≤ t

pub tallied-none : (g : Graph) (counts : List ℕ) → ((u : ℕ) → get_or counts u 0 ≡ 0) → Tallied g counts 0
unfolding sum_to
tallied-none g counts z = record { count = z; few = λ u. omega (arith, z u) }

pub tallied-more : {g : Graph} {counts : List ℕ} {t : ℕ} (counts' : List ℕ) → Tallied g counts t → ¬ (Twice g t)
    → ((u : ℕ) → get_or counts' u 0 ≡ get_or counts u 0 + occ u (preds_of g t)) → Tallied g counts' (t + 1)
tallied-more {g} {counts} {t} counts' a n e =
    record {
      count = λ u. rw (add-one t) (e u ∙ omega (arith, a.count u, sum-suc t (λ k. occ u (preds_of g k))));
      few = λ u. omega (arith, e u, a.few u, stable (dec_le (occ u (preds_of g t)) 1) (λ m. n (u, omega arith)));
    }

pub tallied-all : {g : Graph} {counts : List ℕ} {t : ℕ} → Sound g → t ≡ g.tasks → Tallied g counts t → (u : ℕ) → get_or counts u 0 ≡ occ u g.preds
tallied-all {g} {counts} {t} s e a u = a.count u ∙ rw e (sym (occ-preds s u))
