-- The forms are sane.
use Prim.Native.Nat.{ℕ, ◌*◌, ◌<◌}
use mathlib.Core.Path.{◌≡◌, refl}
use mathlib.Core.Bool.{true}
use mathlib.Core.Logic.{inl, inr, ◌↔◌}
use mathlib.Core.List.{List}
use native.Mathlib.Omega.{arith}
use native.Mathlib.Decide.{ℕ_discrete, dec_lt}
use lib.ListN.{length, get_or}
use lib.Dec.{ltb, leb}
use lib.IntN.{ℤ}
use borrow.Author.Tests.{ltb-true, ltb-false, eqb-true, eq-eqb}
use Rattle.lists.specs.Lists.{all_of}
use Rattle.lists.proofs.Told.{Told, told-true, told, and-told, le-told}
use Rattle.lists.proofs.Decided.{stable}
use Rattle.lists.proofs.Blocks.{length-all}
use Rattle.lists.proofs.Occurrences.{occ-at, at-occ}
use Rattle.choice.specs.Least.{Listed}
use Rattle.choice.specs.Form.{each, Offered}
use Rattle.choice.proofs.Least.{all_listed}
use Rattle.choice.proofs.Form.{Chooses, around-offered, chosen-offered, chosen-all-listed, offered-same, listed_same, listed-told}
use Rattle.memory.specs.Family.{Family}
use Rattle.memory.specs.Memory.{Mem}
use Rattle.plans.specs.Memory.{ring_number, counter_in}
use Rattle.plans.specs.Words.{counter_fits}
use Rattle.plans.specs.Tables.{Beyond2^30}
use Rattle.plans.specs.Forms.{own, is_open, OpenWorker, open_workers, open_from, BadMarks, marks_fit, own_open, lent}
use Rattle.plans.proofs.Words.{counter-told, counters-told}

pub own-chooses : {F : Family} (p : ℕ) (m : Mem F) → 0 < p → length m.counters ≡ p * p → Chooses p (own p m)
own-chooses p m some e =
    record {
      told = counters-told m.counters (p * p) e;
      told_at = λ q. told-true refl (λ b. b);
      some = λ g. omega (arith, some, length-all p);
      listed = all_listed p;
      below = λ h l. l;
      offers = λ j l. around-offered p j l;
    }

-- The open workers.
module _ (p : ℕ) (marks : List ℕ) where
  open-same : (h : ℕ) → ((h < p) × (is_open marks h ≡ true)) ↔ OpenWorker p marks h
  open-same h = (λ (l, e). (l, eqb-true _ _ e), λ (l, e). (l, eq-eqb _ _ e))

  open-listed : Listed (OpenWorker p marks) (open_workers p marks)
  open-listed = listed_same open-same (chosen-all-listed (is_open marks) p)

  open-offered : (j : ℕ) → OpenWorker p marks j → Offered p (OpenWorker p marks) j (open_from p marks j)
  open-offered j c = offered-same open-same (chosen-offered (is_open marks) p j c.0)

  one-open : 0 < length (open_workers p marks) → (h : ℕ) × OpenWorker p marks h
  one-open l = (get_or (open_workers p marks) 0 0, (open-listed.members (get_or (open_workers p marks) 0 0)).0 (at-occ ℕ_discrete 0 (open_workers p marks) 0 l))

  open-some : (h : ℕ) × OpenWorker p marks h → 0 < length (open_workers p marks)
  open-some (h, c) = let (d, l, _) = occ-at ℕ_discrete 0 h (open_workers p marks) ((open-listed.members h).1 c) in omega (arith, l)

  marks-told : Told (marks_fit p marks) (¬ (BadMarks p marks)) (BadMarks p marks)
  marks-told =
      and-told _ _ (listed-told (λ h. leb (get_or marks h 0) 1) (λ h. 1 < get_or marks h 0) (λ h. le-told (get_or marks h 0) 1) (all_of p) (all_listed p))
      (told (ltb 0 (length (open_workers p marks))) (λ e n. n (one-open (ltb-true _ _ e))) (λ e c. omega (arith, open-some c, ltb-false 0 (length (open_workers p marks)) e)))

  marks-some : ¬ (BadMarks p marks) → 0 < length (open_workers p marks)
  marks-some n = stable (dec_lt 0 (length (open_workers p marks))) (λ none. n (inr (λ c. none (open-some c))))

  module _ {F : Family} (m : Mem F) where
    -- Release by the counters' sums, No. 10
    pub own-open-chooses : Chooses p (own_open p marks m)
    own-open-chooses =
        record {
          told =
              and-told _ _ marks-told
              (listed-told (λ o. each (λ f. counter_fits (counter_in m (ring_number p o f))) (all_of p))
              (λ o. (f : ℕ) × (f < p) × Beyond2^30 (counter_in m (ring_number p o f)))
              (λ o. listed-told (λ f. counter_fits (counter_in m (ring_number p o f))) (λ f. Beyond2^30 (counter_in m (ring_number p o f)))
              (λ f. counter-told (counter_in m (ring_number p o f))) (all_of p) (all_listed p))
              (open_workers p marks) open-listed);
          told_at = λ q. told-true refl (λ b. b);
          some = λ n. marks-some (λ b. n (inl b));
          listed = open-listed;
          below = λ h c. c.0;
          offers = open-offered;
        }

    -- and by lent sums, No. 14
    pub lent-chooses : (sums : List ℤ) → Chooses p (lent p marks sums m)
    lent-chooses sums =
        record {
          told = marks-told;
          told_at = λ q. counter-told (counter_in m q);
          some = marks-some;
          listed = open-listed;
          below = λ h c. c.0;
          offers = open-offered;
        }
