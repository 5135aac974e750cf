-- "A counter always lies within ±67,107,840 in an honest run.": no counter of a weak job is above the weight of the tasks that are fixed, nor below
-- minus the weight of those that are complete. Each task's weight joins once and leaves once.
use Prim.Native.Nat.{ℕ, ◌+◌, ◌≤◌, ◌<◌}
use mathlib.Core.Path.{◌≡◌, sym, ◌∙◌}
use mathlib.Core.Bool.{Bool, true, false, cond, not, ◌&&◌}
use native.Mathlib.Omega.{arith}
use lib.Dec.{eqb}
use lib.IntN.{ℤ, pos, ◌+ℤ◌, +ℤ_assoc}
use lib.Signed.{◌≤ℤ◌}
use Rattle.lists.specs.Sums.{sum_to}
use Rattle.lists.proofs.Decided.{both?}
use Rattle.lists.proofs.Integers.{+ℤ-swap, ≤ℤ-trans, ≤ℤ-pos, ≤ℤ-add, ≤ℤ-both, ≤ℤ-grows, ≤ℤ-minus}
use Rattle.lists.proofs.Sums.{sum-le, sum-most}
use Rattle.lists.proofs.Told.{Told, told-true, told-false, same-told}
use Rattle.task.specs.Types.{nil, capped}
use Rattle.task.specs.Refusals.{accepted, answer_says}
use Rattle.task.specs.declared.Limits.{Limits}
use Rattle.task.specs.declared.Step.{Step}
use Rattle.weak_task.specs.declared.WeakOutcome.{WeakOutcome}
use Rattle.graph.specs.Graph.{Graph}
use Rattle.graph.specs.Conditions.{Sound, GraphFits}
use Rattle.split_lists.specs.Items.{weight_of, degree_of, counter_of}
use Rattle.weak_rules.specs.Memory.{Mem, tasks, graph_in, ring_number, counter_in, weight_in}
use Rattle.weak_rules.specs.Begin.{begin}
use Rattle.weak_rules.specs.Begun.{LaidDown}
use Rattle.weak_rules.proofs.Begin.{begin-accepted}
use Rattle.weak_rules.proofs.Begun.{laid-down}
use Rattle.weak_algorithm.specs.State.{State, tid_of}
use Rattle.weak_algorithm.specs.Algorithm.{Does}
use Rattle.weak_algorithm.specs.Reading.{state_of}
use Rattle.weak_algorithm.proofs.Readings.{counter_at}
use Rattle.weak_runs.specs.Counters.{Within}
use Rattle.weak_runs.proofs.Invariant.{Sane, Fixed}
use Rattle.weak_runs.proofs.Counters.{open_share, fixed_share, done_share, open_weight, fixed_weight, done_weight, Changes, amount-balances, does-changes}
use Rattle.weak_runs.proofs.BegunCounters.{laid-counter, begun-few, begun-sound}

pub record Bounded (g : Graph) (p : ℕ) (s : State) : Type 0 where
  pub above : (h j : ℕ) → h < p → j < p → counter_of s.lists h j ≤ℤ pos (fixed_weight g s)
  pub below : (h j : ℕ) → h < p → j < p → pos 0 ≤ℤ (counter_of s.lists h j +ℤ pos (done_weight g s))

-- What is fixed grows by what joins, what is complete by what leaves: a counter grows by no more than the one and falls by no more than the other.
module _ {g : Graph} {p : ℕ} {s s' : State} (c : Changes g p s s') where
  -- the counter that changes, as it was
  abbrev old : ℤ
  old = counter_of s.lists c.owner c.counter

  near : (h j : ℕ) → Dec ((h ≡ c.owner) × (j ≡ c.counter))
      → (counter_of s'.lists h j ≤ℤ (counter_of s.lists h j +ℤ pos c.joins))
      × (counter_of s.lists h j ≤ℤ (counter_of s'.lists h j +ℤ pos c.leaves))
  near h j (yes (q, u)) =
      rw (q, u, c.counter_own)
      (rw (amount-balances c old) at (≤ℤ-add (old +ℤ c.amount) c.leaves), rw (amount-balances c old) (≤ℤ-add old c.joins))
  near h j (no n) = rw (c.counter_other h j n) (≤ℤ-add (counter_of s.lists h j) c.joins, ≤ℤ-add (counter_of s.lists h j) c.leaves)

  pub changes-bounded : Bounded g p s → Bounded g p s'
  changes-bounded b =
      record {
        above = λ h j hh hj. rw c.fixes (≤ℤ-trans (close h j).0 (≤ℤ-both (b.above h j hh hj) (pos c.joins)));
        below = λ h j hh hj.
            rw (c.completes, back (counter_of s'.lists h j)) (≤ℤ-trans (b.below h j hh hj) (≤ℤ-both (close h j).1 (pos (done_weight g s))));
      }
    where
      close : (h j : ℕ)
          → (counter_of s'.lists h j ≤ℤ (counter_of s.lists h j +ℤ pos c.joins))
          × (counter_of s.lists h j ≤ℤ (counter_of s'.lists h j +ℤ pos c.leaves))
      close h j = near h j (both? h j c.owner c.counter)

      back : (x : ℤ) → x +ℤ pos (done_weight g s + c.leaves) ≡ (x +ℤ pos c.leaves) +ℤ pos (done_weight g s)
      back x = sym (+ℤ_assoc x (pos (done_weight g s)) (pos c.leaves)) ∙ +ℤ-swap x (pos (done_weight g s)) (pos c.leaves)

pub does-bounded : {g : Graph} {p capacity i : ℕ} {step : Step} {s s' : State} {o : WeakOutcome} → Sound g → Sane g p s → Fixed g p s
    → Does p capacity i step s s' o → Bounded g p s → Bounded g p s'
does-bounded sound sane fixed d b = changes-bounded (does-changes sound sane fixed d) b

-- a task adds no more than its weight to any of the sums, and none to a worker's open weight that it doesn't add to what is fixed
fixed-most : (tid weight : ℕ) → fixed_share tid weight ≤ weight
unfolding fixed_share
fixed-most tid weight = go (eqb tid nil.0)
  where
    go : (b : Bool) → cond b 0 weight ≤ weight
    go true = omega arith
    go false = omega arith

done-most : (degree weight : ℕ) → done_share degree weight ≤ weight
unfolding done_share
done-most degree weight = go (eqb degree 0)
  where
    go : (b : Bool) → cond b weight 0 ≤ weight
    go true = omega arith
    go false = omega arith

open-fixed : (i tid degree weight : ℕ) → i < nil.0 → open_share i tid degree weight ≤ fixed_share tid weight
unfolding open_share fixed_share
open-fixed i tid degree weight h = go (same-told tid i) (same-told tid nil.0) (not (eqb degree 0))
  where
    go : {a b : Bool} → Told a (tid ≡ i) (¬ (tid ≡ i)) → Told b (tid ≡ nil.0) (¬ (tid ≡ nil.0)) → (d : Bool)
        → cond (a && d) weight 0 ≤ cond b 0 weight
    go (told-true e q) (told-true f r) d = absurd (omega (arith, h, q, r))
    go (told-true e q) (told-false f r) true = rw (e, f) (omega arith)
    go (told-true e q) (told-false f r) false = rw (e, f) (omega arith)
    go (told-false e q) t d = rw e (omega arith)

module _ (g : Graph) (s : State) where
  pub fixed-few : fixed_weight g s ≤ sum_to g.tasks (weight_of s.lists)
  unfolding fixed_weight
  fixed-few = sum-le g.tasks _ _ (λ t h. fixed-most (tid_of s t) (weight_of s.lists t))

  pub done-few : done_weight g s ≤ sum_to g.tasks (weight_of s.lists)
  unfolding done_weight
  done-few = sum-le g.tasks _ _ (λ t h. done-most (degree_of s.lists t) (weight_of s.lists t))

  open-few : (i : ℕ) → i < nil.0 → open_weight g s i ≤ fixed_weight g s
  unfolding open_weight fixed_weight
  open-few i l = sum-le g.tasks _ _ (λ t h. open-fixed i (tid_of s t) (degree_of s.lists t) (weight_of s.lists t) l)

  -- where all tasks weigh no more
  pub bounded-within : (p : ℕ) → Bounded g p s → sum_to g.tasks (weight_of s.lists) ≤ 67107840 → (h j : ℕ) → h < p → j < p
      → Within (counter_of s.lists h j)
  bounded-within p b few h j hh hj =
      record {
        low =
            ≤ℤ-minus 67107840 (counter_of s.lists h j)
            (≤ℤ-trans (b.below h j hh hj) (≤ℤ-grows (counter_of s.lists h j) (omega (arith, few, done-few))));
        high = ≤ℤ-trans (b.above h j hh hj) (≤ℤ-pos (omega (arith, few, fixed-few)));
      }

-- 1,024 tasks at most, of weight 65,535 at most
pub weights-few : {limits : Limits} (m : Mem) → GraphFits limits m.weights m.pred_starts m.preds → sum_to (tasks m) (weight_in m) ≤ 67107840
unfolding capped
weights-few m f = omega (arith, sum-most (tasks m) (weight_in m) 65535 f.light, f.tasks)

-- in the lent words
pub memory-within : {limits : Limits} (p k : ℕ) (m : Mem) → GraphFits limits m.weights m.pred_starts m.preds → Bounded (graph_in m) p (state_of p k m)
    → (i j : ℕ) → i < p → j < p → Within (counter_in m (ring_number p i j))
unfolding state_of
memory-within p k m f b i j hi hj =
    rw (counter_at p k m i j hi hj) at (bounded-within (graph_in m) (state_of p k m) p b (weights-few m f) i j hi hj)

-- after begin each counter is its worker's open weight, or 0
module _ {p k : ℕ} {m b : Mem} (one : 1 ≤ p) (few : p ≤ nil.0) (sound : Sound (graph_in m)) (laid : LaidDown p k m b) where
  laid-bounded : Bounded (graph_in b) p (state_of p k b)
  laid-bounded =
      record {
        above = λ h j hh hj.
            rw (laid-counter one few sound laid h j hh hj)
            (≤ℤ-pos (omega (arith, most h (eqb h j), open-few (graph_in b) (state_of p k b) h (omega (arith, hh, few)))));
        below = λ h j hh hj. rw (laid-counter one few sound laid h j hh hj) (≤ℤ-pos (omega arith));
      }
    where
      most : (h : ℕ) (c : Bool) → cond c (open_weight (graph_in b) (state_of p k b) h) 0 ≤ open_weight (graph_in b) (state_of p k b) h
      most h true = omega arith
      most h false = omega arith

pub begun-bounded : (limits : Limits) (p k : ℕ) (m : Mem) → answer_says (begin limits p k m).answer ≡ accepted
    → Bounded (graph_in (begin limits p k m).memory) p (state_of p k (begin limits p k m).memory)
begun-bounded limits p k m e =
    laid-bounded ((begin-accepted limits p k m).0 e).0.limits.one_worker (begun-few limits p k m e) (begun-sound limits p k m e) (laid-down limits p k m e)
