-- No counter goes beyond the weight of what has been placed, the items being of any type: what a state's items weigh, and how that and the counters'
-- bounds change with them.
use Prim.Native.Nat.{ℕ, ◌+◌, ◌≤◌, ◌<◌}
use mathlib.Core.Path.{◌≡◌, sym, ap, ◌∙◌}
use mathlib.Core.List.{List}
use native.Mathlib.Omega.{arith}
use lib.IntN.{ℤ, pos, ◌+ℤ◌, +ℤ_assoc}
use lib.Signed.{◌≤ℤ◌}
use Rattle.lists.specs.Lists.{occ_of}
use Rattle.lists.specs.Sums.{sum_to, sum_of}
use Rattle.lists.proofs.Decided.{both?}
use Rattle.lists.proofs.Integers.{+ℤ-swap, ≤ℤ-trans, ≤ℤ-pos, ≤ℤ-add, ≤ℤ-both, ≤ℤ-grows, ≤ℤ-minus}
use Rattle.lists.proofs.Sums.{sum-at, sum-prefix, sum_of-joined}
use Rattle.algorithm1.specs.Items.{State, queue_of, counter_of, thread_of, waiting_for}
use Rattle.system.specs.Stages.{Hand, in_hand}
use Rattle.system.specs.System as system
use Rattle.system.proofs.Counting.{weight-within}
use Rattle.runs.specs.Counters.{Within}
use Rattle.runs.proofs.Invariant.{stages_of}
use Rattle.runs.proofs.Hands.{hand_weight}
use Rattle.runs.proofs.ItemCounters.{left, Changes, amount-balances, OwnWeights}

module _ {A : Type 0} (none : A) (w : A → ℕ) (p : ℕ) where
  -- the weight of all that has been placed: it waits, is in a hand or has left
  unfoldable pub placed : State A → ℕ
  placed s = sum_to p (λ h. sum_of w (waiting_for p s h)) + sum_to p (λ h. hand_weight w (thread_of none s h)) + left w s

  -- no counter is above the weight of what has been placed, nor below minus the weight that has left
  pub record Bounded (s : State A) : Type 0 where
    pub above : (h j : ℕ) → h < p → j < p → counter_of s h j ≤ℤ pos (placed s)
    pub below : (h j : ℕ) → h < p → j < p → pos 0 ≤ℤ (counter_of s h j +ℤ pos (left w s))

  -- where the state's items stand as those of the system do, no more has been placed than all of them weigh
  pub placed-all : (same : Discrete A) (G : system.Items A) (all : List A) → ((a : A) → occ_of same a all ≡ G.want a)
      → (s : State A) {v : system.State A} → v.stages ≡ stages_of none p s → system.Invariant same G p v → placed s ≤ sum_of w all
  unfolding placed left
  placed-all same G all each s {v} e i = omega (arith, rw e at (weight-within same G p all each w {s = v} i))

  -- "A counter always lies within ±67,107,840", where no more has been placed
  pub bounded-within : (s : State A) → Bounded s → placed s ≤ 67107840 → (h j : ℕ) → h < p → j < p → Within (counter_of s h j)
  unfolding placed
  bounded-within s b few h j hh hj =
      record {
        low = ≤ℤ-minus 67107840 (counter_of s h j) (≤ℤ-trans (b.below h j hh hj) (≤ℤ-grows (counter_of s h j) (omega arith)));
        high = ≤ℤ-trans (b.above h j hh hj) (≤ℤ-pos few);
      }

  -- each counter being the weight of its own list
  pub own-bounded : (s : State A) → OwnWeights none w p s → Bounded s
  unfolding placed waiting_for
  own-bounded s f =
      record {
        above = λ h j hh hj.
            rw (f.counter h j hh hj)
            (≤ℤ-pos (omega (
              arith,
              sum-prefix p (λ x. sum_of w (queue_of s h x)) j hj,
              sum_of-joined w p (queue_of s h),
              sum-prefix p (λ x. sum_of w (waiting_for p s x)) h hh,
            )));
        below = λ h j hh hj. rw (f.counter h j hh hj) (≤ℤ-pos (omega arith));
      }

-- What has been placed grows by what joins, what has left by what leaves: a counter grows by no more than the one and falls by no more than the other.
module _ {A : Type 0} {none : A} {w : A → ℕ} {p : ℕ} {s s' : State A} (c : Changes none w p s s') where
  placed-after : placed none w p s' ≡ placed none w p s + c.joins
  unfolding placed
  placed-after =
      omega (
        arith,
        c.waiting,
        c.in_hand,
        c.recorded,
        sum-at p (λ h. sum_of w (waiting_for p s h)) (λ h. sum_of w (waiting_for p s' h)) c.owner c.owner_below
            (λ h n. ap (sum_of w) (c.others_waiting h n)),
        sum-at p (λ h. hand_weight w (thread_of none s h)) (λ h. hand_weight w (thread_of none s' h)) c.owner c.owner_below
            (λ h n. ap (λ (x : Hand A). sum_of w (in_hand x)) (c.others_in_hand h n)),
      )

  -- the counter that changes, as it was
  abbrev old : ℤ
  old = counter_of s c.owner c.counter

  near : (h j : ℕ) → Dec ((h ≡ c.owner) × (j ≡ c.counter))
      → (counter_of s' h j ≤ℤ (counter_of s h j +ℤ pos c.joins)) × (counter_of s h j ≤ℤ (counter_of s' h j +ℤ pos c.leaves))
  near h j (yes (q, u)) =
      rw (q, u, c.counter_own)
      (rw (amount-balances c old) at (≤ℤ-add (old +ℤ c.amount) c.leaves), rw (amount-balances c old) (≤ℤ-add old c.joins))
  near h j (no n) = rw (c.counter_other h j n) (≤ℤ-add (counter_of s h j) c.joins, ≤ℤ-add (counter_of s h j) c.leaves)

  pub changes-bounded : Bounded none w p s → Bounded none w p s'
  changes-bounded b =
      record {
        above = λ h j hh hj. rw placed-after (≤ℤ-trans (close h j).0 (≤ℤ-both (b.above h j hh hj) (pos c.joins)));
        below = λ h j hh hj.
            rw (c.recorded, back (counter_of s' h j)) (≤ℤ-trans (b.below h j hh hj) (≤ℤ-both (close h j).1 (pos (left w s))));
      }
    where
      close : (h j : ℕ)
          → (counter_of s' h j ≤ℤ (counter_of s h j +ℤ pos c.joins)) × (counter_of s h j ≤ℤ (counter_of s' h j +ℤ pos c.leaves))
      close h j = near h j (both? h j c.owner c.counter)

      back : (x : ℤ) → x +ℤ pos (left w s + c.leaves) ≡ (x +ℤ pos c.leaves) +ℤ pos (left w s)
      back x = sym (+ℤ_assoc x (pos (left w s)) (pos c.leaves)) ∙ +ℤ-swap x (pos (left w s)) (pos c.leaves)
