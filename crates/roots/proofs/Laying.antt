-- One task after the other laid down: what lets the next one be, and what it makes of the rings.
use Prim.Native.Nat.{ℕ, zero, suc, ◌+◌, ◌*◌, ◌%◌, ◌≤◌, ◌<◌}
use mathlib.Core.Path.{◌≡◌, refl, sym, ap, ◌∙◌}
use mathlib.Core.Bool.{true, cond}
use mathlib.Core.List.{List, [], ◌∷◌, ◌++◌, append-nil}
use native.Mathlib.Omega.{arith}
use native.Mathlib.Decide.{ℕ_discrete}
use native.Mathlib.Numerals.{add-one}
use native.Mathlib.Nat.{add-zero, mod-lt, mod-eq_of_lt, mod-add-mod}
use lib.IntN.{ℤ, pos, ◌+ℤ◌}
use lib.ListN.{length, get_or, set, replicate, length-set, length-append, length-replicate}
use lib.Seq.{get_or-set_same, get_or-set_other}
use lib.Dec.{eqb}
use borrow.Author.Tests.{le-leb, eq-eqb, ne_eqb}
use Rattle.lists.specs.Circles.{after}
use Rattle.lists.specs.Decided.{holds}
use Rattle.lists.specs.Lists.{joined}
use Rattle.lists.proofs.Decided.{yes-holds, no-holds}
use Rattle.lists.proofs.Prefixes.{get_d-equals, zeros}
use Rattle.lists.proofs.Blocks.{joined_same, get_d_tabulate}
use Rattle.task.specs.Types.{engine}
use Rattle.task.specs.declared.Ends.{Ends}
use Rattle.graph.specs.Graph.{Graph, preds_of}
use Rattle.graph.specs.Successors.{degree_list, roots}
use Rattle.graph.proofs.Reversed.{length-degrees}
use Rattle.ring.specs.Ring.{capacity, end_words, Sound, slot_at, ends_at, store_ends, tail_on, filled_ends, Rings, rings_of, appended_at, Inside}
use Rattle.ring.proofs.Ends.{length-stored, ends-cleared, ends-stored, ends-other, filled-sound, filled-append}
use Rattle.ring.proofs.Inside.{ring-inside}
use Rattle.memory.specs.Updates.{updated, written}
use Rattle.plans.proofs.Dealt.{to-fits, to-snoc}
use Rattle.plans.proofs.Laid.{laid-snoc}
use Rattle.rules.specs.Memory.{Mem, ring_number}
use Rattle.rules.specs.Words.{counter_fits}
use Rattle.rules.specs.Steps.{join}
use Rattle.rules.specs.Begin.{roots_laid, roots_placed}
use Rattle.rules.specs.Begun.{to_ring}
use Rattle.roots.specs.Laying.{roots_below, laid_in, Placed, Job, Room, Dealt, Laid}

module _ (degrees : List ℕ) (t : ℕ) where
  pub below-skip : ¬ (get_or degrees t 0 ≡ 0) → roots_below degrees (t + 1) ≡ roots_below degrees t
  unfolding roots_below joined
  below-skip n = ap (roots_below degrees) (add-one t) ∙ rw (no-holds (ℕ_discrete (get_or degrees t 0) 0) n) (append-nil (roots_below degrees t))

  pub below_root : get_or degrees t 0 ≡ 0 → roots_below degrees (t + 1) ≡ roots_below degrees t ++ (t ∷ [])
  unfolding roots_below joined
  below_root e = ap (roots_below degrees) (add-one t) ∙ rw (yes-holds (ℕ_discrete (get_or degrees t 0) 0) e)

-- the further, the more roots
below-fewer : (degrees : List ℕ) (t n : ℕ) → t ≤ n → length (roots_below degrees t) ≤ length (roots_below degrees n)
unfolding roots_below joined
below-fewer degrees t zero h = none (omega arith)
  where
    none : t ≡ 0 → length (roots_below degrees t) ≤ length (roots_below degrees 0)
    none e = rw e (omega arith)
below-fewer degrees t (suc n) h = go (ℕ_discrete t (suc n)) (below-fewer degrees t n)
  where
    go : Dec (t ≡ suc n) → (t ≤ n → length (roots_below degrees t) ≤ length (roots_below degrees n))
        → length (roots_below degrees t) ≤ length (roots_below degrees (suc n))
    go (yes e) before = rw e (omega arith)
    go (no m) before = omega (arith, before (omega (arith, h, m)), length-append (roots_below degrees n) (cond (holds (ℕ_discrete (get_or degrees n 0) 0)) (n ∷ []) []))

counter-fits : (x : ℕ) → x ≤ 1073741824 → counter_fits (pos x) ≡ true
counter-fits x h = le-leb x 1073741824 h

-- cleared lists, before any task
pub dealt-none : {A : Type 0} (p k : ℕ) (weights degrees : List ℕ) (rings rings' : List A) (ends ends' : List ℕ) (counters counters' : List ℤ)
    → Job p k weights degrees → Room p k rings ends counters
    → length rings' ≡ length rings → ends' ≡ replicate (length ends) 0 → counters' ≡ replicate (length counters) (pos 0)
    → Dealt p k weights degrees 0 0 rings' ends' counters'
unfolding roots_below joined to_ring
dealt-none p k weights degrees rings rings' ends ends' counters counters' job room r e c =
    record {
      job = job;
      room =
          record {
            rings = r ∙ room.rings;
            ends = ap length e ∙ length-replicate _ _ ∙ room.ends;
            counters = ap length c ∙ length-replicate _ _ ∙ room.counters;
          };
      upto = omega arith;
      next = sym (mod-eq_of_lt job.one_worker);
      filled = λ q h. rw e (ends-cleared (replicate (length ends) 0) q k job.one_slot (zeros (length ends)));
      small = λ q h. (0, (rw c (get_d-equals (length counters) q (pos 0)), omega arith));
    }

-- one task more, whatever an item is
module _ {A : Type 0} (p k : ℕ) (weights degrees : List ℕ) (t owner : ℕ) (rings : List A) (ends : List ℕ) (counters : List ℤ)
    (l : Dealt p k weights degrees t owner rings ends counters) (h : t < length degrees) where
  pub dealt-skip : ¬ (get_or degrees t 0 ≡ 0) → Dealt p k weights degrees (t + 1) owner rings ends counters
  dealt-skip n =
      record {
        job = l.job;
        room = l.room;
        upto = omega arith;
        next = rw (below-skip degrees t n) l.next;
        filled = rw (below-skip degrees t n) l.filled;
        small = λ q i. let (x, (e, b)) = l.small q i in (x, (e, omega arith));
      }

  pub owner-ready : (owner < p) × ((owner < p) × (p ≤ engine.workers))
  owner-ready = (fits, (fits, l.job.few_workers))
    where
      fits : owner < p
      fits = rw l.next (mod-lt (length (roots_below degrees t)) l.job.one_worker)

  module _ (q : ℕ) (inside : q < p * p) where
    pub ring-ready : (both : Ends) → both ≡ ends_at ends q → Inside k q (rings_of rings ends) × ((both ≡ ends_at ends q) × Sound k both)
    ring-ready both e = (
      ring-inside k (p * p) q rings ends l.job.few_slots l.room.rings l.room.ends inside,
      (e, rw (e, l.filled q inside) (filled-sound k _ l.job.one_slot (to-fits p l.job.one_worker k q (roots_below degrees t) few))),
    )
      where
        few : length (roots_below degrees t) ≤ p * capacity k
        few = omega (arith, below-fewer degrees t (length degrees) l.upto, l.job.few)

    light : get_or weights t 0 ≤ 65535
    light = l.job.light t (omega (arith, l.job.weighed))

    pub counter-ready : (q < length counters) × ((counter_fits (get_or counters q (pos 0)) ≡ true) × (get_or weights t 0 ≤ 65535))
    counter-ready =
        let (x, (e, b)) = l.small q inside in
        (omega (arith, l.room.counters), (rw e (counter-fits x (omega (arith, l.job.few_tasks))), light))

    -- a root in its owner's own ring
    module _ (own : q ≡ owner * p + owner) (root : get_or degrees t 0 ≡ 0) (a : A) (rings' : List A) (ends' : List ℕ) (counters' : List ℤ)
        (appends : rings_of rings' ends' ≡ appended_at k q a (rings_of rings ends))
        (raises : counters' ≡ set counters q (get_or counters q (pos 0) +ℤ pos (get_or weights t 0))) where
      pub new-rings : rings' ≡ set rings (slot_at k q (ends_at ends q).tail) a
      unfolding appended_at
      new-rings = ap (λ (r : Rings A). r.slots) appends

      pub new-ends : ends' ≡ store_ends ends q (tail_on k (ends_at ends q))
      unfolding appended_at
      new-ends = ap (λ (r : Rings A). r.ends) appends

      small-after : (r : ℕ) → r < p * p → Dec (r ≡ q) → (x : ℕ) × ((get_or counters' r (pos 0) ≡ pos x) × (x ≤ (t + 1) * 65535))
      small-after r i (yes e) =
          let (x, (a, b)) = l.small q inside in
          (x + get_or weights t 0, (rw (raises, e) (get_or-set_same counters q _ (pos 0) (omega (arith, l.room.counters)) ∙ rw a), omega (arith, light)))
      small-after r i (no n) =
          let (x, (a, b)) = l.small r i in
          (x, (ap (λ (c : List ℤ). get_or c r (pos 0)) raises ∙ get_or-set_other counters q r _ (pos 0) n ∙ a, omega arith))

      -- the number of the root's own ring, as the roots are dealt out
      dealt-to : ring_number p ((0 + length (roots_below degrees t)) % p) ((0 + length (roots_below degrees t)) % p) ≡ q
      dealt-to = sym (own ∙ ap (λ (o : ℕ). ring_number p o o) (l.next ∙ ap (λ (n : ℕ). n % p) (omega arith)))

      filled-after : (r : ℕ) → r < p * p → Dec (r ≡ q) → ends_at (store_ends ends q (tail_on k (ends_at ends q))) r
          ≡ filled_ends k (length (to_ring p r 0 (roots_below degrees t)) + cond (eqb (ring_number p ((0 + length (roots_below degrees t)) % p) ((0 + length (roots_below degrees t)) % p)) r) 1 0)
      filled-after r i (yes e) =
          rw (e, dealt-to, eq-eqb q q refl)
          (ends-stored ends q (tail_on k (ends_at ends q)) (omega (arith, l.room.ends, inside)) ∙ rw (l.filled q inside) (filled-append k _))
      filled-after r i (no n) =
          rw (dealt-to, ne_eqb q r (λ e. n (sym e)), add-zero (length (to_ring p r 0 (roots_below degrees t))))
          (ends-other ends q r (tail_on k (ends_at ends q)) n ∙ l.filled r i)

      pub dealt-root : (next : ℕ) → next ≡ after p owner → Dealt p k weights degrees (t + 1) next rings' ends' counters'
      unfolding after
      dealt-root next e =
          record {
            job = l.job;
            room =
                record {
                  rings = ap length new-rings ∙ length-set rings (slot_at k q (ends_at ends q).tail) a ∙ l.room.rings;
                  ends = ap length new-ends ∙ length-stored ends q (tail_on k (ends_at ends q)) ∙ l.room.ends;
                  counters = ap length raises ∙ length-set counters q _ ∙ l.room.counters;
                };
            upto = omega arith;
            next =
                e ∙ ap (λ (o : ℕ). (o + 1) % p) l.next ∙ mod-add-mod (length (roots_below degrees t)) p 1
                ∙ ap (λ (n : ℕ). n % p) (omega (arith, ap length (below_root degrees t root), length-append (roots_below degrees t) (t ∷ [])));
            filled = λ r i. rw (new-ends, below_root degrees t root, to-snoc p l.job.one_worker r 0 (roots_below degrees t) t) (filled-after r i (ℕ_discrete r q));
            small = λ r i. small-after r i (ℕ_discrete r q);
          }

-- one root more is placed
placed_snoc : (p k n : ℕ) (ts : List ℕ) (t : ℕ) (m : Mem)
    → roots_placed p k n (ts ++ (t ∷ [])) m
    ≡ written (join p k ((n + length ts) % p) ((n + length ts) % p) t (roots_placed p k n ts m)) (roots_placed p k n ts m)
placed_snoc p k n ts t m = laid-snoc (λ x. x) p k (λ x t. []) n ts t m

laid_same : (m : Mem) (w : List ℕ) {r r' e e' : List ℕ} {c c' : List ℤ} → r ≡ r' → e ≡ e' → c ≡ c' → laid_in m w r e c ≡ laid_in m w r' e' c'
laid_same m w a b d = rw (a, b, d)

pub laid_none : (p k : ℕ) (weights degrees rings ends rings' ends' : List ℕ) (counters counters' : List ℤ)
    → Job p k weights degrees → Room p k rings ends counters
    → rings' ≡ replicate (length rings) 0 → ends' ≡ replicate (length ends) 0 → counters' ≡ replicate (length counters) (pos 0)
    → Laid p k weights degrees 0 0 rings' ends' counters'
unfolding roots_below joined roots_laid
laid_none p k weights degrees rings ends rings' ends' counters counters' job room r e c =
    record {
      dealt = dealt-none p k weights degrees rings rings' ends ends' counters counters' job room (ap length r ∙ length-replicate _ _) e c;
      placed = λ m.
          laid_same m weights (r ∙ ap (λ (n : ℕ). replicate n 0) room.rings) (e ∙ ap (λ (n : ℕ). replicate n 0) room.ends)
          (c ∙ ap (λ (n : ℕ). replicate n (pos 0)) room.counters);
    }

module _ (p k : ℕ) (weights degrees : List ℕ) (t owner : ℕ) (rings ends : List ℕ) (counters : List ℤ)
    (l : Laid p k weights degrees t owner rings ends counters) (h : t < length degrees) where
  pub laid-skip : ¬ (get_or degrees t 0 ≡ 0) → Laid p k weights degrees (t + 1) owner rings ends counters
  laid-skip n =
      record {
        dealt = dealt-skip p k weights degrees t owner rings ends counters l.dealt h n;
        placed = rw (below-skip degrees t n) l.placed;
      }

  module _ (q : ℕ) (inside : q < p * p) (own : q ≡ owner * p + owner) (root : get_or degrees t 0 ≡ 0) (rings' ends' : List ℕ) (counters' : List ℤ)
      (appends : rings_of rings' ends' ≡ appended_at k q t (rings_of rings ends))
      (raises : counters' ≡ set counters q (get_or counters q (pos 0) +ℤ pos (get_or weights t 0))) where
    joins : (m : Mem) → laid_in m weights rings' ends' counters'
        ≡ written (join p k owner owner t (laid_in m weights rings ends counters)) (laid_in m weights rings ends counters)
    unfolding written updated
    joins m =
        rw (← own)
        (laid_same m weights
        (new-rings p k weights degrees t owner rings ends counters l.dealt h q inside own root t rings' ends' counters' appends raises)
        (new-ends p k weights degrees t owner rings ends counters l.dealt h q inside own root t rings' ends' counters' appends raises)
        raises)

    placed-after : Placed p k weights degrees (t + 1) rings' ends' counters'
    placed-after m =
        joins m
        ∙ ap (λ (b : Mem). written (join p k owner owner t b) b) (l.placed m)
        ∙ ap (λ (o : ℕ). written (join p k o o t before) before) (l.dealt.next ∙ ap (λ (n : ℕ). n % p) (omega arith))
        ∙ sym (placed_snoc p k 0 (roots_below degrees t) t start)
        ∙ ap (λ (ts : List ℕ). roots_placed p k 0 ts start) (sym (below_root degrees t root))
      where
        start : Mem
        start = laid_in m weights (replicate (p * p * k) 0) (replicate (p * p * end_words) 0) (replicate (p * p) (pos 0))

        before : Mem
        before = roots_placed p k 0 (roots_below degrees t) start

    pub laid_root : (next : ℕ) → next ≡ after p owner → Laid p k weights degrees (t + 1) next rings' ends' counters'
    laid_root next e =
        record {
          dealt = dealt-root p k weights degrees t owner rings ends counters l.dealt h q inside own root t rings' ends' counters' appends raises next e;
          placed = placed-after;
        }

pub laid-whole : (p k : ℕ) (weights degrees : List ℕ) (t owner : ℕ) (rings ends : List ℕ) (counters : List ℤ)
    → Laid p k weights degrees t owner rings ends counters → length degrees ≤ t → Placed p k weights degrees (length degrees) rings ends counters
laid-whole p k weights degrees t owner rings ends counters l h = rw (← at l.dealt.upto) l.placed
  where
    at : t ≤ length degrees → t ≡ length degrees
    at u = omega arith

-- by a graph's degrees, the roots below N are its roots
pub roots-below : (g : Graph) → roots_below (degree_list g) (length (degree_list g)) ≡ roots g
unfolding roots_below degree_list roots
roots-below g =
    ap (roots_below (degree_list g)) (length-degrees g)
    ∙ joined_same g.tasks (λ t. cond (holds (ℕ_discrete (length (preds_of g t)) 0)) (t ∷ []) [])
    (λ t. cond (holds (ℕ_discrete (get_or (degree_list g) t 0) 0)) (t ∷ []) [])
    (λ t h. ap (λ (x : ℕ). cond (holds (ℕ_discrete x 0)) (t ∷ []) []) (get_d_tabulate g.tasks (λ t. length (preds_of g t)) 0 t h))
