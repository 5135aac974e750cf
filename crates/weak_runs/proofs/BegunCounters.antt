-- The counters of a weak job after an accepted begin: those of each worker add up to the weight of the roots that are fixed to it, and no other task is
-- fixed.
use Prim.Native.Nat.{ℕ, ◌≤◌, ◌<◌}
use mathlib.Core.Path.{◌≡◌, refl, sym, ap, ◌∙◌}
use mathlib.Core.Bool.{Bool, true, false, cond, not, ◌&&◌}
use mathlib.Core.List.{List, [], ◌∷◌}
use native.Mathlib.Omega.{arith}
use native.Mathlib.Decide.{ℕ_discrete, dec_lt}
use borrow.Author.Tests.{eq-eqb, ne_eqb, eqb-true}
use lib.Dec.{eqb}
use lib.ListN.{length, get_or}
use lib.IntN.{pos}
use Rattle.lists.specs.Lists.{occ}
use Rattle.lists.specs.Sums.{sum_to, sum_of}
use Rattle.lists.proofs.Decided.{stable, tally-le-one}
use Rattle.lists.proofs.Occurrences.{occ-nil, occ-hit, occ-miss, occ-joined}
use Rattle.lists.proofs.Sums.{sum-prefix, sum-only, sum-find, sum_of-both}
use Rattle.lists.proofs.SumsZ.{sum_z-same, sum_z-pos}
use Rattle.lists.proofs.Told.{Told, told-true, told-false, same-told, and-true}
use Rattle.task.specs.Types.{nil, capped}
use Rattle.task.specs.Refusals.{accepted, answer_says}
use Rattle.task.specs.declared.Limits.{Limits}
use Rattle.graph.specs.Graph.{preds_of}
use Rattle.graph.specs.Conditions.{Sound}
use Rattle.graph.specs.Successors.{roots}
use Rattle.graph.proofs.Accepted.{fits-sound}
use Rattle.graph.proofs.Reversed.{roots-are, occ-roots}
use Rattle.plans.specs.Laying.{dealt}
use Rattle.plans.proofs.Dealt.{occ-dealt}
use Rattle.split_lists.specs.Items.{counter_of, workload}
use Rattle.weak_rules.specs.Memory.{Mem, tasks, graph_in, ring_number, weight_in, degree_in, fixed_in}
use Rattle.weak_rules.specs.Begin.{begin}
use Rattle.weak_rules.specs.Begun.{LaidDown, roots_of}
use Rattle.weak_rules.proofs.Begin.{begin-accepted}
use Rattle.weak_rules.proofs.Begun.{laid-down}
use Rattle.weak_algorithm.specs.State.{State}
use Rattle.weak_algorithm.specs.Reading.{state_of}
use Rattle.weak_algorithm.proofs.Readings.{counter_at}
use Rattle.weak_runs.proofs.Invariant.{open_in, AddsUp}
use Rattle.weak_runs.proofs.Counters.{open_weight, open-weight}

-- t in a list that is u alone or empty
if-other : (b : Bool) (t u : ℕ) → ¬ (u ≡ t) → occ t (cond b (u ∷ []) []) ≡ 0
if-other true t u n = occ-miss ℕ_discrete t u [] (λ e. n (sym e)) ∙ occ-nil ℕ_discrete t
if-other false t u n = occ-nil ℕ_discrete t

if-own : (b : Bool) (t : ℕ) → b ≡ true → occ t (cond b (t ∷ []) []) ≡ 1
if-own b t e = rw e (omega (arith, occ-hit ℕ_discrete t t [] refl, occ-nil ℕ_discrete t))

if_some : (b : Bool) (t u : ℕ) → 0 < occ t (cond b (u ∷ []) []) → (t ≡ u) × (b ≡ true)
if_some true t u h = (stable (ℕ_discrete t u) (λ n. omega (arith, h, occ-miss ℕ_discrete t u [] n, occ-nil ℕ_discrete t)), refl)
if_some false t u h = absurd (omega (arith, h, occ-nil ℕ_discrete t))

module _ {p k : ℕ} {m b : Mem} (one : 1 ≤ p) (few : p ≤ nil.0) (sound : Sound (graph_in m)) (laid : LaidDown p k m b) where
  abbrev s : State
  s = state_of p k b

  abbrev rs : List ℕ
  rs = roots (graph_in m)

  size : tasks b ≡ tasks m
  size = ap length laid.weights

  -- a root goes to one worker
  among-roots : (i t : ℕ) → i < p → occ t (roots_of p i m) ≤ occ t rs
  among-roots i t h = omega (arith, occ-dealt p one t 0 rs, sum-prefix p (λ j. occ t (dealt p j 0 rs)) i h)

  once : (t : ℕ) → occ t rs ≤ 1
  once t = omega (arith, occ-roots (graph_in m) sound t, tally-le-one (dec_lt t (tasks m)))

  -- task t is fixed to worker i and not complete
  test : ℕ → ℕ → Bool
  test i t = eqb (fixed_in b t) i && not (eqb (degree_in b t) 0)

  root-open : (i t : ℕ) → i < p → 0 < occ t (roots_of p i m) → test i t ≡ true
  unfolding test
  root-open i t h among =
      let (below, none) = (roots-are (graph_in m) t).0 (omega (arith, among, among-roots i t h)) in
      rw (eq-eqb (fixed_in b t) i (laid.fixed_root i t h among), laid.root_degree t below none) refl

  -- what is fixed to worker i goes to it as a root
  fixed-root : (i t : ℕ) → i < p → t < tasks m → fixed_in b t ≡ i → 0 < occ t (roots_of p i m)
  fixed-root i t h below e = go (ℕ_discrete (length (preds_of (graph_in m) t)) 0)
    where
      at : (j : ℕ) × (j < p) × (0 < occ t (dealt p j 0 rs)) → 0 < occ t (roots_of p i m)
      at (j, l, among) = rw (sym e ∙ laid.fixed_root j t l among) among

      go : Dec (length (preds_of (graph_in m) t) ≡ 0) → 0 < occ t (roots_of p i m)
      go (yes none) = at (sum-find p (λ j. occ t (dealt p j 0 rs)) (omega (arith, (roots-are (graph_in m) t).1 (below, none), occ-dealt p one t 0 rs)))
      go (no inner) = absurd (omega (arith, e, h, few, laid.fixed_none t below (omega (arith, inner))))

  -- the open tasks of worker i are its roots
  open-roots : (i t : ℕ) → i < p → occ t (open_in (graph_in b) s i) ≡ occ t (roots_of p i m)
  unfolding open_in state_of test
  open-roots i t h = occ-joined ℕ_discrete t (tasks b) (λ u. cond (test i u) (u ∷ []) []) ∙ go (dec_lt 0 (occ t (roots_of p i m)))
    where
      count : ℕ → ℕ
      count u = occ t (cond (test i u) (u ∷ []) [])

      go : Dec (0 < occ t (roots_of p i m)) → sum_to (tasks b) count ≡ occ t (roots_of p i m)
      go (yes among) =
          let (below, none) = (roots-are (graph_in m) t).0 (omega (arith, among, among-roots i t h)) in
          omega (
            arith,
            sum-only (tasks b) count t (omega (arith, below, size)) (λ u n. if-other (test i u) t u n),
            if-own (test i t) t (root-open i t h among),
            among,
            among-roots i t h,
            once t,
          )
      go (no n) = stable (ℕ_discrete _ _) (λ d. n (found (sum-find (tasks b) count (omega (arith, d, n)))))
        where
          found : (u : ℕ) × (u < tasks b) × (0 < count u) → 0 < occ t (roots_of p i m)
          found (u, l, c) =
              let (e, q) = if_some (test i u) t u c in
              rw e (fixed-root i u h (omega (arith, l, size)) (eqb-true (fixed_in b u) i (and-true _ _ q).0))

  pub laid-open : (i : ℕ) → i < p → open_weight (graph_in b) s i ≡ sum_of (weight_in m) (roots_of p i m)
  unfolding state_of
  laid-open i h =
      sym (open-weight (graph_in b) s i)
      ∙ sum_of-both ℕ_discrete (weight_in b) (open_in (graph_in b) s i) (roots_of p i m) (λ t. open-roots i t h)
      ∙ ap (λ (w : List ℕ). sum_of (λ t. get_or w t 0) (roots_of p i m)) laid.weights

  -- "and its weight to that counter"; the others are zeroed
  pub laid-counter : (i j : ℕ) → i < p → j < p → counter_of s.lists i j ≡ pos (cond (eqb i j) (open_weight (graph_in b) s i) 0)
  laid-counter i j hi hj = counter_at p k b i j hi hj ∙ go (same-told i j)
    where
      go : Told (eqb i j) (i ≡ j) (¬ (i ≡ j)) → get_or b.counters (ring_number p i j) (pos 0) ≡ pos (cond (eqb i j) (open_weight (graph_in b) s i) 0)
      go (told-true t e) = rw (t, sym e) (laid.own_counter i hi ∙ ap pos (sym (laid-open i hi)))
      go (told-false f n) = rw f (laid.other_counter i j hi hj n)

  pub laid-adds-up : AddsUp (graph_in b) p s
  laid-adds-up = record { worker = λ i h. rw (open-weight (graph_in b) s i) (at i h) }
    where
      row : ℕ → ℕ → ℕ
      row i j = cond (eqb i j) (open_weight (graph_in b) s i) 0

      at : (i : ℕ) → i < p → workload p s.lists i ≡ pos (open_weight (graph_in b) s i)
      at i h =
          sum_z-same p (λ j. pos (row i j)) (counter_of s.lists i) (λ j l. laid-counter i j h l)
          ∙ sum_z-pos p (row i)
          ∙ ap pos
          (sum-only p (row i) i h (λ j n. ap (λ (c : Bool). cond c (open_weight (graph_in b) s i) 0) (ne_eqb i j (λ e. n (sym e))))
          ∙ ap (λ (c : Bool). cond c (open_weight (graph_in b) s i) 0) (eq-eqb i i refl))

module _ (limits : Limits) (p k : ℕ) (m : Mem) (e : answer_says (begin limits p k m).answer ≡ accepted) where
  -- no worker's number is NIL
  pub begun-few : p ≤ nil.0
  unfolding capped
  begun-few = omega (arith, ((begin-accepted limits p k m).0 e).0.limits.few_workers)

  pub begun-sound : Sound (graph_in m)
  begun-sound = fits-sound ((begin-accepted limits p k m).0 e).1

  pub begun-adds-up : AddsUp (graph_in (begin limits p k m).memory) p (state_of p k (begin limits p k m).memory)
  begun-adds-up = laid-adds-up ((begin-accepted limits p k m).0 e).0.limits.one_worker begun-few begun-sound (laid-down limits p k m e)
