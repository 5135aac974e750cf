-- What each move of an item does to the places in which items stand.
use Prim.Native.Nat.{ℕ, ◌+◌}
use mathlib.Core.Path.{◌≡◌, ap}
use mathlib.Core.List.{[], ◌∷◌}
use native.Mathlib.Omega.{arith}
use Rattle.lists.specs.Decided.{tally}
use Rattle.lists.specs.Lists.{occ_of}
use Rattle.lists.specs.Sums.{sum_to}
use Rattle.lists.proofs.Occurrences.{occ-append}
use Rattle.lists.proofs.Sums.{sum-at, sum_kept}
use Rattle.system.specs.Stages.{Hand, in_hand, Stages, Other, Replaced, places, Enters, Takes, Runs, Finishes, Stays}

-- sums of a number φ over the places, where one of them changes
module _ {B : Type 0} (φ : B → ℕ) {f g : ℕ → B} where
  sum-other : {n k : ℕ} → Other n k f g → sum_to n (λ j. φ (g j)) + φ (f k) ≡ sum_to n (λ j. φ (f j)) + φ (g k)
  sum-other {n} {k} o = sum-at n (λ j. φ (f j)) (λ j. φ (g j)) k o.inside (λ j m. ap φ (o.others j m))

  pub sum-replaced : {n k : ℕ} {old new : B} → Replaced n k old new f g → sum_to n (λ j. φ (g j)) + φ old ≡ sum_to n (λ j. φ (f j)) + φ new
  sum-replaced r = omega (arith, sum-other r.place, ap φ r.was, ap φ r.now)

-- how often x is in a hand
held : {A : Type 0} (same : Discrete A) → A → Hand A → ℕ
held same x r = occ_of same x (in_hand r)

module _ {A : Type 0} (same : Discrete A) (P : ℕ) {s s' : Stages A} where
  -- an item that enters stands in one place more; the other moves keep the number of places

  pub enters-places : {o : ℕ} {a : A} → Enters same P o a s s' → (x : A) → places same P s' x ≡ tally (same x a) + places same P s x
  unfolding places held
  enters-places e x =
      omega (arith, sum-other (occ_of same x) e.waiting, e.added.more x, sum_kept (held same x) P e.hand, ap (occ_of same x) e.done)

  pub takes-places : {i : ℕ} {a : A} → Takes same P i a s s' → (x : A) → places same P s' x ≡ places same P s x
  unfolding places held occ_of
  takes-places t x =
      omega (arith, sum-other (occ_of same x) t.waiting, t.removed.more x, sum-replaced (held same x) t.hand, ap (occ_of same x) t.done)

  pub runs-places : {i : ℕ} {a : A} → Runs same P i a s s' → (x : A) → places same P s' x ≡ places same P s x
  unfolding places held
  runs-places r x = omega (arith, sum_kept (occ_of same x) P r.waiting, sum-replaced (held same x) r.hand, ap (occ_of same x) r.done)

  pub finishes-places : {i : ℕ} {a : A} → Finishes same P i a s s' → (x : A) → places same P s' x ≡ places same P s x
  unfolding places held occ_of
  finishes-places {i} {a} e x =
      omega (
        arith,
        sum_kept (occ_of same x) P e.waiting,
        sum-replaced (held same x) e.hand,
        ap (occ_of same x) e.done,
        occ-append same x s.done (a ∷ []),
      )

  pub stays-places : Stays same P s s' → (x : A) → places same P s' x ≡ places same P s x
  unfolding places held
  stays-places y x =
      omega (arith, sum_kept (occ_of same x) P y.waiting, sum_kept (held same x) P y.hand, ap (occ_of same x) y.done)
