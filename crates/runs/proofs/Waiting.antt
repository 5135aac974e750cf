-- The items that wait for a worker, of any type: how they follow from its circular lists, and how they change with one of these.
use Prim.Native.Nat.{ℕ, ◌+◌, ◌<◌}
use mathlib.Core.Path.{◌≡◌, sym, ap, ◌∙◌}
use mathlib.Core.List.{List, []}
use native.Mathlib.Omega.{arith}
use lib.ListN.{length}
use Rattle.lists.specs.Lists.{occ_of, joined}
use Rattle.lists.specs.Squares.{cell, with_cell}
use Rattle.lists.specs.Sums.{sum_to}
use Rattle.lists.proofs.Appends.{no-members}
use Rattle.lists.proofs.Blocks.{joined_same, joined-none}
use Rattle.lists.proofs.Occurrences.{occ-joined}
use Rattle.lists.proofs.Squares.{even-put, cell_other}
use Rattle.lists.proofs.Sums.{sum-at, sum-prefix, length-joined}
use Rattle.algorithm1.specs.Items.{State, queue_of, waiting_for}
use Rattle.system.specs.Stages.{Other}
use Rattle.runs.proofs.Invariant.{Shaped}

-- nothing waits for worker i exactly if its lists are empty
module _ {A : Type 0} (p : ℕ) (s : State A) (i : ℕ) where
  pub lists-empty : ((j : ℕ) → j < p → queue_of s i j ≡ []) → waiting_for p s i ≡ []
  unfolding waiting_for
  lists-empty h = joined-none p (queue_of s i) h

  pub waiting_none : waiting_for p s i ≡ [] → (j : ℕ) → j < p → queue_of s i j ≡ []
  unfolding waiting_for
  waiting_none e j l =
      no-members (queue_of s i j)
      (omega (arith, sum-prefix p (λ h. length (queue_of s i h)) j l, sym (length-joined p (queue_of s i)) ∙ ap length e))

  -- what stands in one of them waits
  pub list-waits : (same : Discrete A) (a : A) (j : ℕ) → j < p → 0 < occ_of same a (queue_of s i j) → 0 < occ_of same a (waiting_for p s i)
  unfolding waiting_for
  list-waits same a j l h = omega (arith, h, sum-prefix p (λ h. occ_of same a (queue_of s i h)) j l, occ-joined same a p (queue_of s i))

-- the list of owner o filled by worker i becomes l
module _ {A : Type 0} (p o i : ℕ) (owner : o < p) (s s' : State A) (l : List A) (queues : s'.queues ≡ with_cell s.queues o i l) where
  abbrev list_now : ℕ → ℕ → List A
  list_now j h = cell [] (with_cell s.queues o i l) j h

  -- what waits for another worker stays
  pub waiting-other : Other p o (waiting_for p s) (waiting_for p s')
  unfolding waiting_for
  waiting-other =
      record {
        inside = owner;
        others = λ j n. rw queues (joined_same p (queue_of s j) (list_now j) (λ h m. cell_other s.queues o i l [] j h (λ e. n e.0)));
      }

  -- what waits for the owner, measured with what the list was and is: φ is a number read of a list that blocks add up to
  pub waiting-own : i < p → Shaped p s → (φ : List A → ℕ) → ((f : ℕ → List A) → φ (joined p f) ≡ sum_to p (λ h. φ (f h)))
      → φ (waiting_for p s' o) + φ (queue_of s o i) ≡ φ (waiting_for p s o) + φ l
  unfolding waiting_for
  waiting-own worker shaped φ adds =
      rw (queues, adds (list_now o), adds (queue_of s o))
      (sum-at p (λ h. φ (queue_of s o h)) (λ h. φ (list_now o h)) i worker (λ h n. ap φ (cell_other s.queues o i l [] o h (λ e. n e.1)))
      ∙ ap (λ (k : List A). sum_to p (λ h. φ (queue_of s o h)) + φ k) (even-put shaped.queues o i l [] owner worker))
