-- What a thread has in hand, told from its phase and its held item, and what that weighs.
use Prim.Native.Nat.{ℕ, ◌≤◌}
use mathlib.Core.Path.{◌≡◌, sym, ap, ◌∙◌}
use mathlib.Core.List.{[], ◌∷◌}
use native.Mathlib.Omega.{arith}
use native.Mathlib.Decide.{ℕ_discrete}
use borrow.Author.Tests.{ne_eqb}
use Rattle.lists.specs.Sums.{sum_of}
use Rattle.lists.proofs.Appends.{head-same}
use Rattle.lists.proofs.Sums.{sum_of-nil, sum_of-single}
use Rattle.algorithm1.specs.Items.{Thread}
use Rattle.system.specs.Stages.{Hand, idle, fetched, running, in_hand, phase}
use Rattle.runs.specs.Items.{hand_of}

module _ {A : Type 0} (r : Thread A) where
  -- in each phase
  pub hand-idle : ◌≡◌ {A = ℕ} r.phase 0 → hand_of r ≡ idle
  unfolding hand_of
  hand-idle e = rw e

  pub hand-fetched : ◌≡◌ {A = ℕ} r.phase 1 → hand_of r ≡ fetched r.held
  unfolding hand_of
  hand-fetched e = rw e

  pub hand-running : ◌≡◌ {A = ℕ} r.phase 2 → hand_of r ≡ running r.held
  unfolding hand_of
  hand-running e = rw e

  -- a thread that isn't idle has its held item in hand
  pub hand-holds : ¬ (◌≡◌ {A = ℕ} r.phase 0) → in_hand (hand_of r) ≡ r.held ∷ []
  unfolding hand_of
  hand-holds n = go (ℕ_discrete r.phase 1)
    where
      go : Dec (r.phase ≡ 1) → in_hand (hand_of r) ≡ r.held ∷ []
      go (yes e) = rw e
      go (no m) = rw (ne_eqb r.phase 0 n, ne_eqb r.phase 1 m)

  -- the phase of the hand is the phase word, where that is one
  pub hand-phase : r.phase ≤ 2 → r.phase ≡ phase (hand_of r)
  hand-phase h = go (ℕ_discrete r.phase 0) (ℕ_discrete r.phase 1)
    where
      of : {x : Hand A} → hand_of r ≡ x → phase (hand_of r) ≡ phase x
      of e = ap (λ (x : Hand A). phase x) e

      go : Dec (r.phase ≡ 0) → Dec (r.phase ≡ 1) → r.phase ≡ phase (hand_of r)
      go (yes e) _ = e ∙ sym (of (hand-idle e))
      go (no n) (yes e) = e ∙ sym (of (hand-fetched e))
      go (no n) (no l) = let e : ◌≡◌ {A = ℕ} r.phase 2 = omega (arith, h, n, l) in e ∙ sym (of (hand-running e))

  -- the running item is the held one
  pub running-held : (a : A) → ◌≡◌ {A = ℕ} r.phase 2 → hand_of r ≡ running a → r.held ≡ a
  running-held a e h = head-same (ap (λ (x : Hand A). in_hand x) (sym (hand-running e) ∙ h))

-- the weight of what a thread has in hand
abbrev pub hand_weight : {A : Type 0} → (A → ℕ) → Thread A → ℕ
hand_weight w r = sum_of w (in_hand (hand_of r))

-- an idle thread has nothing in hand, another one its held item
module _ {A : Type 0} (w : A → ℕ) (r : Thread A) where
  pub idle-weight : ◌≡◌ {A = ℕ} r.phase 0 → hand_weight w r ≡ 0
  idle-weight e = ap (λ (h : Hand A). sum_of w (in_hand h)) (hand-idle r e) ∙ sum_of-nil w

  pub busy-weight : ¬ (◌≡◌ {A = ℕ} r.phase 0) → hand_weight w r ≡ w r.held
  busy-weight n = ap (sum_of w) (hand-holds r n) ∙ sum_of-single w r.held
