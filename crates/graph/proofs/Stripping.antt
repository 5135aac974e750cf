-- PROMISES: what stripping leaves, whatever the order; and that there is an order that no task can prolong.
use Prim.Native.Nat.{ℕ, zero, suc, ◌+◌, ◌≤◌, ◌<◌}
use mathlib.Core.Path.{◌≡◌, refl, sym, ◌∙◌}
use mathlib.Core.Logic.{◌⊎◌, inl, inr, ◌↔◌}
use mathlib.Core.List.{List, [], ◌∷◌, ◌++◌}
use native.Mathlib.Omega.{arith}
use native.Mathlib.Decide.{ℕ_discrete, dec_le, dec_lt}
use lib.ListN.{length, get_or, take, length-append}
use lib.Seq.{length-take-le, get_or-take, get_or-append_seam, take-append-le, take-append_seam}
use Rattle.lists.specs.Decided.{tally, first_below, Smallest}
use Rattle.lists.specs.Lists.{occ}
use Rattle.lists.specs.Sums.{sum_to}
use Rattle.lists.proofs.Decided.{stable, first-smallest, first-least, tally-yes, tally-no}
use Rattle.lists.proofs.Occurrences.{occ-nil, occ-at}
use Rattle.lists.proofs.Prefixes.{occ-snoc}
use Rattle.lists.proofs.Appends.{get_d-snoc-other}
use Rattle.lists.proofs.Sums.{length-occ, sum-most, short-without, sum_of-one, sum_of-all}
use Rattle.graph.specs.Graph.{Among, Graph, Edge}
use Rattle.graph.specs.Conditions.{OnCycle, ToCycle}
use Rattle.graph.specs.Decide.{not?, both?, map?, implies?, below?, among?, edge?}
use Rattle.graph.specs.Stripping.{Strips, Whole, Left}
use Rattle.graph.proofs.Closed.{after-cycle, closed}
use Rattle.graph.proofs.Refusals.{leads-task}

pub last-task : (g : Graph) (order : List ℕ) (t : ℕ) → Strips g (order ++ (t ∷ [])) → t < g.tasks
last-task g order t s = s.tasks t (omega (arith, occ-snoc t t order, tally-yes (ℕ_discrete t t) refl))

module _ {g : Graph} {order : List ℕ} (s : Strips g order) where
  -- a task whose successors are stripped can be the next
  pub strips-more : (u : ℕ) → u < g.tasks → Left order u → ((t : ℕ) → Edge g u t → Among t order) → Strips g (order ++ (u ∷ []))
  strips-more u h z f =
      record {
        tasks = λ t m. at t m (ℕ_discrete t u);
        once = λ t. count t (ℕ_discrete t u);
        behind = λ k t l e. after k t l e (ℕ_discrete k (length order));
      }
    where
      at : (t : ℕ) → Among t (order ++ (u ∷ [])) → Dec (t ≡ u) → t < g.tasks
      at t m (yes e) = omega arith
      at t m (no n) = s.tasks t (omega (arith, occ-snoc t u order, tally-no (ℕ_discrete t u) n))

      count : (t : ℕ) → Dec (t ≡ u) → occ t (order ++ (u ∷ [])) ≤ 1
      count t (yes e) = rw e (omega (arith, occ-snoc u u order, tally-yes (ℕ_discrete u u) refl))
      count t (no n) = omega (arith, occ-snoc t u order, tally-no (ℕ_discrete t u) n, s.once t)

      after : (k t : ℕ) → k < length (order ++ (u ∷ [])) → Edge g (get_or (order ++ (u ∷ [])) k 0) t → Dec (k ≡ length order) → Among t (take k (order ++ (u ∷ [])))
      after k t l e (yes p) = rw (p, take-append_seam order (u ∷ [])) (f t (rw (p, get_or-append_seam order u [] 0) at e))
      after k t l e (no n) =
          rw (take-append-le k order (u ∷ []) (omega (arith, length-append order (u ∷ []))))
          (s.behind k t (omega (arith, length-append order (u ∷ []))) (rw (get_d-snoc-other order u k 0 n) at e))

  -- there are no more than N
  pub strips-short : length order ≤ g.tasks
  strips-short = omega (arith, length-occ g.tasks order s.tasks, sum-most g.tasks (λ u. occ u order) 1 (λ u h. s.once u))

  -- a stripped task has no path to a cycle: the first step of it would lead to one stripped before
  place-away : (m k : ℕ) → k < m → k < length order → ¬ (ToCycle g (get_or order k 0))
  place-away zero k h l c = absurd (omega arith)
  place-away (suc m) k h l c = go (after-cycle g (get_or order k 0) c) (place-away m)
    where
      go : (t : ℕ) × (Edge g (get_or order k 0) t × ToCycle g t) → ((i : ℕ) → i < m → i < length order → ¬ (ToCycle g (get_or order i 0))) → ⊥
      go w rec = at (occ-at ℕ_discrete 0 w.0 (take k order) (s.behind k w.0 l w.1.0))
        where
          at : (i : ℕ) × (i < length (take k order)) × (get_or (take k order) i 0 ≡ w.0) → ⊥
          at p =
              let short : p.0 < k = omega (arith, p.1, length-take-le k order (omega arith)) in
              rec p.0 (omega arith) (omega arith) (rw (sym p.2 ∙ get_or-take k order p.0 0 short) at w.1.1)

  pub stripped-away : (t : ℕ) → Among t order → ¬ (ToCycle g t)
  stripped-away t h c = at (occ-at ℕ_discrete 0 t order h)
    where
      at : (k : ℕ) × (k < length order) × (get_or order k 0 ≡ t) → ⊥
      at p = place-away (suc p.0) p.0 (omega arith) p.1 (rw (sym p.2) at c)

  module _ (w : Whole g order) where
    -- a task that is left has a successor that is left
    left-next : (u : ℕ) → (u < g.tasks) × Left order u → (t : ℕ) × (Edge g u t × ((t < g.tasks) × Left order t))
    left-next u r = go (dec_lt (first_below g.tasks stays) g.tasks)
      where
        stays : (t : ℕ) → Dec (Edge g u t × Left order t)
        stays t = both? (edge? g u t) (ℕ_discrete (occ t order) 0)

        others : ¬ (first_below g.tasks stays < g.tasks) → (t : ℕ) → Edge g u t → Dec (0 < occ t order) → Among t order
        others n t e (yes h) = h
        others n t e (no m) = absurd (first-least g.tasks stays t (omega (arith, e.task)) (e, omega arith))

        go : Dec (first_below g.tasks stays < g.tasks) → (t : ℕ) × (Edge g u t × ((t < g.tasks) × Left order t))
        go (yes h) = let f = (first-smallest g.tasks stays h).such in (first_below g.tasks stays, (f.1.0, (h, f.1.1)))
        go (no n) = absurd (w u (strips-more u r.0 r.1 (λ t e. others n t e (dec_lt 0 (occ t order)))))

    -- "the tasks left are exactly those on a cycle or with a path of edges to one"
    pub strip-leaves : (t : ℕ) → t < g.tasks → Left order t ↔ ToCycle g t
    strip-leaves t h = (λ z. closed g (λ u. (u < g.tasks) × Left order u) left-next t (h, z), λ c. back c (dec_lt 0 (occ t order)))
      where
        back : ToCycle g t → Dec (0 < occ t order) → Left order t
        back c (yes m) = absurd (stripped-away t m c)
        back c (no n) = omega arith

-- both are decided
unfoldable pub strips? : (g : Graph) (order : List ℕ) → Dec (Strips g order)
strips? g order =
    map? (λ p. record { tasks = p.0; once = λ t. few t (p.1.0 t); behind = λ k t h e. p.1.1 k h t e.task e })
    (λ s. (s.tasks, (λ t h. s.once t, λ k h t l. s.behind k t h)))
    (both? (among? (λ t. dec_lt t g.tasks) order)
    (both? (among? (λ t. dec_le (occ t order) 1) order)
    (below? (λ k. below? (λ t. implies? (edge? g (get_or order k 0) t) (dec_lt 0 (occ t (take k order)))) g.tasks) (length order))))
  where
    few : (t : ℕ) → (Among t order → occ t order ≤ 1) → occ t order ≤ 1
    few t f = go (dec_lt 0 (occ t order))
      where
        go : Dec (0 < occ t order) → occ t order ≤ 1
        go (yes h) = f h
        go (no n) = omega arith

unfoldable pub whole? : (g : Graph) (order : List ℕ) → Dec (Whole g order)
whole? g order = map? (λ f t s. f t (last-task g order t s) s) (λ f t h. f t) (below? (λ t. not? (strips? g (order ++ (t ∷ [])))) g.tasks)

-- a task more, or none can prolong it
prolong : (g : Graph) (order : List ℕ) → ((t : ℕ) × Strips g (order ++ (t ∷ []))) ⊎ Whole g order
prolong g order = go (dec_lt (first_below g.tasks next) g.tasks)
  where
    next : (t : ℕ) → Dec (Strips g (order ++ (t ∷ [])))
    next t = strips? g (order ++ (t ∷ []))

    go : Dec (first_below g.tasks next < g.tasks) → ((t : ℕ) × Strips g (order ++ (t ∷ []))) ⊎ Whole g order
    go (yes h) = inl (first_below g.tasks next, (first-smallest g.tasks next h).such.1)
    go (no n) = inr (λ t s. first-least g.tasks next t (omega (arith, last-task g order t s)) s)

prolonged : (g : Graph) (m : ℕ) (order : List ℕ) → Strips g order → g.tasks < length order + m → (whole : List ℕ) × (Strips g whole × Whole g whole)
prolonged g zero order s h = absurd (omega (arith, strips-short s))
prolonged g (suc m) order s h = go (prolong g order) (prolonged g m)
  where
    go : ((t : ℕ) × Strips g (order ++ (t ∷ []))) ⊎ Whole g order
        → ((l : List ℕ) → Strips g l → g.tasks < length l + m → (whole : List ℕ) × (Strips g whole × Whole g whole))
        → (whole : List ℕ) × (Strips g whole × Whole g whole)
    go (inl p) rec = rec (order ++ (p.0 ∷ [])) p.1 (omega (arith, length-append order (p.0 ∷ [])))
    go (inr w) rec = (order, (s, w))

pub strips-none : (g : Graph) → Strips g []
strips-none g =
    record {
      tasks = λ t h. absurd (omega (arith, occ-nil ℕ_discrete t));
      once = λ t. omega (arith, occ-nil ℕ_discrete t);
      behind = λ k t h e. absurd (omega arith);
    }

-- there is one
pub strip-exists : (g : Graph) → (order : List ℕ) × (Strips g order × Whole g order)
strip-exists g = prolonged g (suc g.tasks) [] (strips-none g) (omega arith)

ones : (n : ℕ) → sum_to n (λ t. 1) ≡ n
unfolding sum_to
ones zero = refl
ones (suc n) = omega (arith, ones n)

module _ {g : Graph} {order : List ℕ} (s : Strips g order) (w : Whole g order) where
  -- some task is left exactly if some task is on a cycle, and the smallest on a cycle is among those left
  pub left-cycle : ((t : ℕ) × ((t < g.tasks) × Left order t)) ↔ ((t : ℕ) × OnCycle g t)
  left-cycle = (λ p. on ((strip-leaves s w p.0 p.1.0).0 p.1.1), λ p. (p.0, (leads-task g p.0 p.0 p.1, on-left p.0 p.1)))
    where
      on : {t : ℕ} → ToCycle g t → (c : ℕ) × OnCycle g c
      on {t} (inl c) = (t, c)
      on (inr p) = (p.0, p.1.1)

      on-left : (t : ℕ) → OnCycle g t → Left order t
      on-left t c = (strip-leaves s w t (leads-task g t t c)).1 (inl c)

  pub left-smallest : (d : ℕ) → Smallest (OnCycle g) d ↔ Smallest (λ t. Left order t × OnCycle g t) d
  left-smallest d = (
    λ m. record { such = ((strip-leaves s w d (leads-task g d d m.such)).1 (inl m.such), m.such); least = λ k h p. m.least k h p.1 },
    λ m. record { such = m.such.1; least = λ k h c. m.least k h ((strip-leaves s w k (leads-task g k k c)).1 (inl c), c) },
  )

  -- where the order has all N tasks, no task is on a cycle; else one is left
  pub all-stripped : length order ≡ g.tasks → (t : ℕ) → ¬ (OnCycle g t)
  all-stripped e t c =
      omega (arith, short-without g.tasks order s.tasks s.once t (leads-task g t t c) ((strip-leaves s w t (leads-task g t t c)).1 (inl c)))

  pub acyclic-all : ((t : ℕ) → ¬ (OnCycle g t)) → length order ≡ g.tasks
  acyclic-all f = sym (sum_of-one order) ∙ sum_of-all (λ t. 1) g.tasks order count ∙ ones g.tasks
    where
      in_order : (t : ℕ) → t < g.tasks → Dec (occ t order ≡ 0) → occ t order ≡ 1
      in_order t h (no n) = omega (arith, s.once t)
      in_order t h (yes z) = absurd (f (left-cycle.0 (t, (h, z))).0 (left-cycle.0 (t, (h, z))).1)

      count : (t : ℕ) → occ t order ≡ tally (dec_lt t g.tasks)
      count t = go (dec_lt t g.tasks)
        where
          go : (d : Dec (t < g.tasks)) → occ t order ≡ tally d
          go (yes h) = in_order t h (ℕ_discrete (occ t order) 0)
          go (no n) = stable (ℕ_discrete (occ t order) 0) (λ m. n (s.tasks t (omega arith)))
