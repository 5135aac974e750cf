-- The least of the candidates: what is computed from their list has the property, and nothing else has it.
use Prim.Native.Nat.{ℕ, zero, suc, ◌+◌, ◌≤◌, ◌<◌}
use mathlib.Core.Path.{◌≡◌, refl}
use mathlib.Core.Bool.{true, false}
use mathlib.Core.List.{List, [], ◌∷◌}
use native.Mathlib.Omega.{arith}
use native.Mathlib.Nat.{le_antisymm}
use native.Mathlib.Decide.{ℕ_discrete, dec_lt, dec_le}
use lib.ListN.{length}
use lib.IntN.{ℤ}
use lib.Signed.{lt_z, ◌≤ℤ◌, ◌<ℤ◌, ≤ℤ_refl, <ℤ-≤ℤ_trans, clash_ℤ}
use Rattle.lists.specs.Decided.{tally}
use Rattle.lists.specs.Lists.{occ, all_of, Rising}
use Rattle.lists.proofs.Decided.{stable, tally-yes, tally-no}
use Rattle.lists.proofs.Told.{Told, told-true, told-false}
use Rattle.lists.proofs.Occurrences.{occ-nil, occ-cons, occ-hit, occ-miss, occ-insert}
use Rattle.lists.proofs.Blocks.{length-all, all-at, occ-all}
use Rattle.lists.proofs.Integers.{lt_z-told, ≤ℤ-of-<ℤ, ≤ℤ-trans, ≤ℤ-<ℤ-trans}
use Rattle.choice.specs.Least.{Least, Listed, least_from, least}

-- no two numbers have the property
least-le : {Candidate : ℕ → Type 0} {sum : ℕ → ℤ} {i j : ℕ} → Least Candidate sum i → Least Candidate sum j → i ≤ j
least-le {i = i} {j = j} f g = stable (dec_le i j) (λ n. clash_ℤ (f.lowest j g.candidate (omega arith)) (g.at_most i f.candidate))

pub least-one : {Candidate : ℕ → Type 0} {sum : ℕ → ℤ} {i j : ℕ} → Least Candidate sum i → Least Candidate sum j → i ≡ j
least-one f g = le_antisymm (least-le f g) (least-le g f)

-- only the candidates' sums count
pub least-same : {Candidate : ℕ → Type 0} {sum sum' : ℕ → ℤ} {j : ℕ} → ((h : ℕ) → Candidate h → sum' h ≡ sum h)
    → Least Candidate sum j → Least Candidate sum' j
least-same {j = j} e f =
    record {
      candidate = f.candidate;
      at_most = λ h c. rw (e j f.candidate, e h c) (f.at_most h c);
      lowest = λ h c l. rw (e j f.candidate, e h c) (f.lowest h c l);
    }

module _ (sum : ℕ → ℤ) where
  -- one look at the next candidate: only a smaller sum replaces the best so far
  module _ (best j : ℕ) (js : List ℕ) where
    pub least-replaces : lt_z (sum j) (sum best) ≡ true → least_from best (j ∷ js) sum ≡ least_from j js sum
    unfolding least_from
    least-replaces e = rw e

    pub least-keeps : lt_z (sum j) (sum best) ≡ false → least_from best (j ∷ js) sum ≡ least_from best js sum
    unfolding least_from
    least-keeps e = rw e

  -- the least of a list's members
  abbrev LeastIn : List ℕ → ℕ → Type 0
  LeastIn owners = Least (λ h. 0 < occ h owners) sum

  -- another member, x, whose sum is greater, or as great with a higher number
  least-beside : (x r : ℕ) (l k : List ℕ) → ((h : ℕ) → occ h k ≡ tally (ℕ_discrete h x) + occ h l)
      → sum r ≤ℤ sum x → (x < r → sum r <ℤ sum x) → LeastIn l r → LeastIn k r
  least-beside x r l k added le lt f =
      record {
        candidate = omega (arith, f.candidate, added r);
        at_most = λ h c. at-most h c (ℕ_discrete h x);
        lowest = λ h c b. lower h c b (ℕ_discrete h x);
      }
    where
      at-most : (h : ℕ) → 0 < occ h k → Dec (h ≡ x) → sum r ≤ℤ sum h
      at-most h c (yes e) = rw e le
      at-most h c (no n) = f.at_most h (omega (arith, added h, tally-no (ℕ_discrete h x) n))

      lower : (h : ℕ) → 0 < occ h k → h < r → Dec (h ≡ x) → sum r <ℤ sum h
      lower h c b (yes e) = rw e (lt (omega arith))
      lower h c b (no n) = f.lowest h (omega (arith, added h, tally-no (ℕ_discrete h x) n)) b

  least-from : (best : ℕ) (js : List ℕ) → Rising (best ∷ js) → LeastIn (best ∷ js) (least_from best js sum)
  unfolding least_from
  least-from best [] rising =
      record {
        candidate = omega (arith, occ-hit ℕ_discrete best best [] refl);
        at_most = λ h c. rw (only h c) (≤ℤ_refl (sum best));
        lowest = λ h c l. absurd (omega (arith, only h c));
      }
    where
      only : (h : ℕ) → 0 < occ h (best ∷ []) → h ≡ best
      only h c = stable (ℕ_discrete h best) (λ n. omega (arith, occ-miss ℕ_discrete h best [] n, occ-nil ℕ_discrete h))
  least-from best (j ∷ js) rising =
      go (lt_z-told (sum j) (sum best)) (least-from j js (λ a b l m. rising (suc a) (suc b) (omega arith) (omega arith))) (least-from best js without)
    where
      without : Rising (best ∷ js)
      without a zero l m = absurd (omega arith)
      without zero (suc b) l m = rising 0 (suc (suc b)) (omega arith) (omega arith)
      without (suc a) (suc b) l m = rising (suc (suc a)) (suc (suc b)) (omega arith) (omega arith)

      first : (x : ℕ) (l : List ℕ) → 0 < occ x (x ∷ l)
      first x l = omega (arith, occ-hit ℕ_discrete x x l refl)

      go : Told (lt_z (sum j) (sum best)) (sum j <ℤ sum best) (sum best ≤ℤ sum j)
          → LeastIn (j ∷ js) (least_from j js sum) → LeastIn (best ∷ js) (least_from best js sum) → LeastIn (best ∷ j ∷ js) (least_from best (j ∷ js) sum)
      go (told-true e h) f g =
          let less = ≤ℤ-<ℤ-trans (f.at_most j (first j js)) h in
          rw (least-replaces best j js e)
          (least-beside best (least_from j js sum) (j ∷ js) (best ∷ j ∷ js) (λ x. occ-cons ℕ_discrete x best (j ∷ js)) (≤ℤ-of-<ℤ less) (λ _. less) f)
      -- on equal sums the best so far has the lower number, since the list rises
      go (told-false e h) f g =
          rw (least-keeps best j js e)
          (least-beside j (least_from best js sum) (best ∷ js) (best ∷ j ∷ js) (λ x. occ-insert ℕ_discrete x j (best ∷ []) js)
          (≤ℤ-trans (g.at_most best (first best js)) h)
          (λ l. <ℤ-≤ℤ_trans (g.lowest best (first best js) (omega (arith, rising 0 1 (omega arith) (omega arith)))) h) g)

-- of at least one candidate the one computed, and no other
pub least-is : {Candidate : ℕ → Type 0} (sum : ℕ → ℤ) (owners : List ℕ) → Listed Candidate owners → 0 < length owners
    → Least Candidate sum (least owners sum) × ((j : ℕ) → Least Candidate sum j → j ≡ least owners sum)
unfolding least
least-is sum [] l some = absurd (omega arith)
least-is {Candidate} sum (x ∷ xs) l some = (computed, λ j f. least-one f computed)
  where
    inside : Least (λ h. 0 < occ h (x ∷ xs)) sum (least_from x xs sum)
    inside = least-from sum x xs l.rising

    computed : Least Candidate sum (least_from x xs sum)
    computed =
        record {
          candidate = (l.members (least_from x xs sum)).0 inside.candidate;
          at_most = λ h c. inside.at_most h ((l.members h).1 c);
          lowest = λ h c b. inside.lowest h ((l.members h).1 c) b;
        }

-- the plain rule's candidates: all workers, of which there is one
pub all_listed : (p : ℕ) → Listed (λ h. h < p) (all_of p)
all_listed p =
    record {
      rising = λ a b l m.
          let end : b < p = omega (arith, length-all p) in
          omega (arith, l, all-at p a (omega arith), all-at p b end);
      members = λ h. (
        λ c. stable (dec_lt h p) (λ n. omega (arith, occ-all p h, tally-no (dec_lt h p) n)),
        λ b. omega (arith, occ-all p h, tally-yes (dec_lt h p) b),
      );
    }

pub least-worker : (p : ℕ) (sum : ℕ → ℤ) → 0 < p
    → Least (λ h. h < p) sum (least (all_of p) sum) × ((j : ℕ) → Least (λ h. h < p) sum j → j ≡ least (all_of p) sum)
least-worker p sum some = least-is sum (all_of p) (all_listed p) (omega (arith, length-all p))
