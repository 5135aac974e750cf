-- One task of a weak job after the other laid down: what it makes of the fixed words and the rings.
use Prim.Native.Nat.{ℕ, ◌+◌, ◌*◌, ◌%◌, ◌≤◌, ◌<◌}
use mathlib.Core.Path.{◌≡◌, refl, sym, ap, ◌∙◌, subst}
use mathlib.Core.List.{List, [], ◌∷◌, ◌++◌}
use native.Mathlib.Omega.{arith}
use lib.IntN.{ℤ, pos, ◌+ℤ◌}
use lib.ListN.{length, get_or, set, replicate, length-set, length-replicate}
use Rattle.lists.specs.Circles.{after}
use Rattle.lists.specs.Lists.{joined}
use Rattle.task.specs.Types.{nil}
use Rattle.weak_task.specs.Types.{Copy, copy, unfixed}
use Rattle.ring.specs.Ring.{end_words, rings_of, appended_at}
use Rattle.memory.specs.Updates.{updated, written}
use Rattle.plans.specs.Laying.{join_ring, roots_laid}
use Rattle.plans.proofs.Laid.{laid-snoc}
use Rattle.weak_rules.specs.Memory.{weak, Mem}
use Rattle.weak_rules.specs.Updates.{put_fixed}
use Rattle.weak_rows.specs.Copies.{copies_of}
use Rattle.weak_rows.proofs.Copies.{length-copies}
use Rattle.roots.specs.Laying.{roots_below, Job, Room}
use Rattle.roots.proofs.Laying.{below-skip, below_root, dealt-none, dealt-skip, new-rings, new-ends, dealt-root}
use Rattle.weak_roots.specs.Laying.{roots_fixed, laid_in, Placed, Laid}

-- "a root has one copy with NIL"
abbrev root_copy : ℕ → Copy
root_copy t = copy t nil.0

-- one root more is placed
placed_snoc : (p k n : ℕ) (ts : List ℕ) (t : ℕ) (m : Mem)
    → roots_fixed p k n (ts ++ (t ∷ [])) m
    ≡ written
    (put_fixed t ((n + length ts) % p) ∷ join_ring p k ((n + length ts) % p) ((n + length ts) % p) (root_copy t) t (roots_fixed p k n ts m))
    (roots_fixed p k n ts m)
placed_snoc p k n ts t m = laid-snoc {F = weak} root_copy p k (λ x t. put_fixed t (x % p) ∷ []) n ts t m

laid_same : (m : Mem) (w : List ℕ) {f f' : List ℕ} {r r' : List Copy} {e e' : List ℕ} {c c' : List ℤ}
    → f ≡ f' → r ≡ r' → e ≡ e' → c ≡ c' → laid_in m w f r e c ≡ laid_in m w f' r' e' c'
laid_same m w a b d g = rw (a, b, d, g)

-- as many copies in as many cells
pub rings-kept : (n : ℕ) (l d : List (List ℕ)) → length (copies_of l) ≡ n → length (copies_of d) ≡ n → length l ≡ length d
rings-kept n l d a b = sym (length-copies l) ∙ a ∙ sym b ∙ length-copies d

-- cleared lists, before any task
pub laid_none : (p k : ℕ) (weights degrees : List ℕ) (tasks : ℕ) (fixed' : List ℕ) (rings rings' : List (List ℕ)) (ends ends' : List ℕ) (counters counters' : List ℤ)
    → Job p k weights degrees → Room p k (copies_of rings) ends counters → tasks ≡ length degrees
    → fixed' ≡ replicate tasks unfixed.0 → copies_of rings' ≡ replicate (length rings) (copy 0 0) → ends' ≡ replicate (length ends) 0
    → counters' ≡ replicate (length counters) (pos 0)
    → Laid p k weights degrees 0 0 fixed' (copies_of rings') ends' counters'
unfolding roots_below joined roots_laid
laid_none p k weights degrees tasks fixed' rings rings' ends ends' counters counters' job room words f r e c =
    record {
      dealt =
          dealt-none p k weights degrees (copies_of rings) (copies_of rings') ends ends' counters counters' job room
          (ap length r ∙ length-replicate _ _ ∙ sym (length-copies rings)) e c;
      words = ap length f ∙ length-replicate _ _ ∙ words;
      placed = λ m.
          laid_same m weights (f ∙ ap (λ (n : ℕ). replicate n unfixed.0) words)
          (r ∙ ap (λ (n : ℕ). replicate n (copy 0 0)) (sym (length-copies rings) ∙ room.rings))
          (e ∙ ap (λ (n : ℕ). replicate n 0) room.ends)
          (c ∙ ap (λ (n : ℕ). replicate n (pos 0)) room.counters);
    }

module _ (p k : ℕ) (weights degrees : List ℕ) (t owner : ℕ) (fixed : List ℕ) (rings : List Copy) (ends : List ℕ) (counters : List ℤ)
    (l : Laid p k weights degrees t owner fixed rings ends counters) (h : t < length degrees) where
  pub laid-skip : ¬ (get_or degrees t 0 ≡ 0) → Laid p k weights degrees (t + 1) owner fixed rings ends counters
  laid-skip n =
      record {
        dealt = dealt-skip p k weights degrees t owner rings ends counters l.dealt h n;
        words = l.words;
        placed = rw (below-skip degrees t n) l.placed;
      }

  module _ (q : ℕ) (inside : q < p * p) (own : q ≡ owner * p + owner) (root : get_or degrees t 0 ≡ 0) (rings' : List Copy) (ends' : List ℕ)
      (counters' : List ℤ)
      (appends : rings_of rings' ends' ≡ appended_at k q (copy t nil.0) (rings_of rings ends))
      (raises : counters' ≡ set counters q (get_or counters q (pos 0) +ℤ pos (get_or weights t 0))) where
    joins : (m : Mem) → laid_in m weights (set fixed t owner) rings' ends' counters'
        ≡ written (put_fixed t owner ∷ join_ring p k owner owner (root_copy t) t (laid_in m weights fixed rings ends counters))
        (laid_in m weights fixed rings ends counters)
    unfolding written updated
    joins m =
        rw (← own)
        (laid_same m weights refl
        (new-rings p k weights degrees t owner rings ends counters l.dealt h q inside own root (root_copy t) rings' ends' counters' appends raises)
        (new-ends p k weights degrees t owner rings ends counters l.dealt h q inside own root (root_copy t) rings' ends' counters' appends raises)
        raises)

    placed-after : Placed p k weights degrees (t + 1) (set fixed t owner) rings' ends' counters'
    placed-after m =
        joins m
        ∙ ap (λ (b : Mem). written (put_fixed t owner ∷ join_ring p k owner owner (root_copy t) t b) b) (l.placed m)
        ∙ ap (λ (o : ℕ). written (put_fixed t o ∷ join_ring p k o o (root_copy t) t before) before) (l.dealt.next ∙ ap (λ (n : ℕ). n % p) (omega arith))
        ∙ sym (placed_snoc p k 0 (roots_below degrees t) t start)
        ∙ ap (λ (ts : List ℕ). roots_fixed p k 0 ts start) (sym (below_root degrees t root))
      where
        start : Mem
        start =
            laid_in m weights (replicate (length degrees) unfixed.0) (replicate (p * p * k) (copy 0 0)) (replicate (p * p * end_words) 0)
            (replicate (p * p) (pos 0))

        before : Mem
        before = roots_fixed p k 0 (roots_below degrees t) start

    pub laid_root : (next : ℕ) → next ≡ after p owner → Laid p k weights degrees (t + 1) next (set fixed t owner) rings' ends' counters'
    laid_root next e =
        record {
          dealt =
              dealt-root p k weights degrees t owner rings ends counters l.dealt h q inside own root (root_copy t) rings' ends' counters' appends
              raises next e;
          words = length-set fixed t owner ∙ l.words;
          placed = placed-after;
        }

pub laid-whole : (p k : ℕ) (weights degrees : List ℕ) (t owner : ℕ) (fixed : List ℕ) (rings : List Copy) (ends : List ℕ) (counters : List ℤ)
    → Laid p k weights degrees t owner fixed rings ends counters → length degrees ≤ t
    → Placed p k weights degrees (length degrees) fixed rings ends counters
laid-whole p k weights degrees t owner fixed rings ends counters l h =
    subst (λ (n : ℕ). Placed p k weights degrees n fixed rings ends counters) (at l.dealt.upto) l.placed
  where
    at : t ≤ length degrees → t ≡ length degrees
    at u = omega arith
