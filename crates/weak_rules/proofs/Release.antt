-- Release follows its rows of the table.
use Prim.Native.Nat.{ℕ, ◌≤◌, ◌<◌}
use mathlib.Core.Path.{◌≡◌, refl, sym, subst}
use mathlib.Core.Bool.{true, cond}
use mathlib.Core.Logic.{◌⊎◌, inl, inr}
use mathlib.Core.List.{List}
use native.Mathlib.Omega.{arith}
use native.Mathlib.Decide.{dec_lt}
use lib.ListN.{length, drop}
use lib.Dec.{eqb}
use Rattle.task.specs.declared.refusal.Refusal.TheVariants.{Damaged, NothingThere, RingsFull}
use Rattle.lists.proofs.Decided.{stable}
use Rattle.lists.proofs.Told.{Told, told-true, told-false, told-yes, same-told, le-told, lt-told, and-told, only-told, under-told}
use Rattle.task.specs.Rows.{Refusal}
use Rattle.task.specs.declared.Ends.{Ends}
use Rattle.weak_task.specs.Types.{unfixed}
use Rattle.weak_task.specs.Says.{outcome_says}
use Rattle.ring.specs.Ring.{Sound, Full, sound, full}
use Rattle.ring.proofs.Ends.{sound-told, full-told}
use Rattle.choice.specs.Form.{Form}
use Rattle.choice.specs.Search.{Found, unsound, none, at}
use Rattle.choice.proofs.Form.{Chooses}
use Rattle.plans.specs.Forms.{target_by, AllFull}
use Rattle.weak_rules.specs.Memory.{Mem, tasks, edges, ring_number, ends_in, weight_in, fixed_in, first_succ, past_succ, succ_count, row_in, oldest, successor}
use Rattle.weak_rules.specs.Words.{fixed_fits}
use Rattle.weak_rules.specs.Plans.{counted}
use Rattle.weak_rules.specs.Steps.{find_room, release_to, release_first, release_later, release_rule}
use Rattle.weak_rules.specs.Tables.{offered_ends, FirstCopy, LaterCopy, release_rows}
use Rattle.weak_rules.proofs.Plans.{PlanFollows, given-row, passed-row, refuse-row, checked-row, counted-row}
use Rattle.plans.proofs.Searches.{Sought, all-not-bad, stop-not-bad, room-looked}
use Rattle.plans.proofs.Sought.{least-target, none-damaged, all-full, one-open, used-told}
use Rattle.weak_rules.proofs.Words.{fixed_told}

module _ (f : Form) (p k i : ℕ) (m : Mem) where
  -- the table's rows but the first n
  abbrev rows_from : ℕ → List Refusal
  rows_from n = drop n (release_rows f p k i m)

  -- the successor's first copy
  module _ (first : FirstCopy m i) (chooses : Chooses p f) (few : p ≤ 65535) where
    -- it isn't a later one
    not-later : {C : ℕ → Type 0} → ¬ ((o : ℕ) × LaterCopy p m i o × C o)
    not-later (o, (e, h), c) = omega (arith, first, e, h, few)

    -- where no word read for the target is damaged
    module _ (good : ¬ f.Damaged) where
      abbrev owners : List ℕ
      owners = f.offered (target_by f)

      to-follows : (g : Found) → Sought k (Full k) (λ o. ends_in m (ring_number p o i)) owners g → PlanFollows (rows_from 8) (release_to f p k i m g)
      unfolding release_to
      to-follows unsound bad = given-row Damaged _ (first, (target_by f, least-target f p k i m chooses good, bad))
      to-follows none all =
          passed-row outcome_says Damaged _ (release_to f p k i m none)
          (λ c. none-damaged f p k i m chooses good (all-not-bad (length owners) k (Full k) (offered_ends p i m owners) all) c.1)
          (passed-row outcome_says Damaged _ (release_to f p k i m none) not-later
          (given-row (RingsFull (successor m i)) _ (inl (first, all-full f p k i m chooses good all))))
      to-follows (at o) (e, stop, q) =
          passed-row outcome_says Damaged _ (release_to f p k i m (at o))
          (λ c. none-damaged f p k i m chooses good (stop-not-bad (length owners) k (Full k) (offered_ends p i m owners) stop) c.1)
          (passed-row outcome_says Damaged _ (release_to f p k i m (at o)) not-later
          (passed-row outcome_says (RingsFull (successor m i)) _ (release_to f p k i m (at o)) not_full
          (checked-row outcome_says _ _ _ (used-told f p k i m chooses good e stop first o q) (λ _.
          checked-row outcome_says _ _ _ (under-told _ first (le-told (weight_in m (successor m i)) 65535)) (λ _. counted-row m _ _)))))
        where
          not_full : ¬ ((FirstCopy m i × AllFull f p k i m) ⊎ ((h : ℕ) × LaterCopy p m i h × Full k (ends_in m (ring_number p h i))))
          not_full (inl c) = one-open f p k i m chooses good e stop c.1
          not_full (inr c) = not-later c

    first-follows : PlanFollows (rows_from 7) (release_first f p k i m)
    unfolding release_first
    first-follows =
        checked-row outcome_says _ _ _ (under-told _ first chooses.told)
        (λ t. to-follows (told-yes chooses.told t) (find_room p k i m (f.offered (target_by f))) (room-looked p k i (f.offered (target_by f)) m))

  -- a later copy, of a task that is fixed to a worker
  module _ (later : ¬ (FirstCopy m i)) (worker : fixed_in m (successor m i) < p) where
    abbrev owner : ℕ
    owner = fixed_in m (successor m i)

    abbrev ends : Ends
    ends = ends_in m (ring_number p owner i)

    ends-told : Told (sound k ends) (¬ ((o : ℕ) × LaterCopy p m i o × ¬ (Sound k (ends_in m (ring_number p o i))))) ((o : ℕ) × LaterCopy p m i o × ¬ (Sound k (ends_in m (ring_number p o i))))
    ends-told = only-told _ owner (refl, worker) (λ o c. sym c.0) (go (sound-told k ends))
      where
        go : Told (sound k ends) (Sound k ends) (¬ (Sound k ends)) → Told (sound k ends) (¬ (¬ (Sound k ends))) (¬ (Sound k ends))
        go (told-true e s) = told-true e (λ n. n s)
        go (told-false e n) = told-false e n

    abbrev ElevenMet : Type 0
    ElevenMet = (FirstCopy m i × AllFull f p k i m) ⊎ ((o : ℕ) × LaterCopy p m i o × Full k (ends_in m (ring_number p o i)))

    eleven-told : Told (full k ends) ElevenMet (¬ ElevenMet)
    eleven-told = go (full-told k ends)
      where
        not-met : ¬ (Full k ends) → ¬ ElevenMet
        not-met n (inl c) = later c.0
        not-met n (inr (o, c, f)) = n (subst (λ (x : ℕ). Full k (ends_in m (ring_number p x i))) (sym c.0) f)

        go : Told (full k ends) (Full k ends) (¬ (Full k ends)) → Told (full k ends) ElevenMet (¬ ElevenMet)
        go (told-true e f) = told-true e (inr (owner, (refl, worker), f))
        go (told-false e n) = told-false e (not-met n)

    later-follows : PlanFollows (rows_from 7) (release_later p k i m owner)
    unfolding release_later
    later-follows =
        passed-row outcome_says Damaged _ (release_later p k i m owner) (λ c. later c.0)
        (passed-row outcome_says Damaged _ (release_later p k i m owner) (λ c. later c.0)
        (checked-row outcome_says _ _ _ ends-told (λ _.
        refuse-row outcome_says _ (RingsFull (successor m i)) _ _ eleven-told
        (passed-row outcome_says Damaged _ (counted m _ _) (λ c. later c.0)
        (passed-row outcome_says Damaged _ (counted m _ _) (λ c. later c.0) (counted-row m _ _))))))

  -- by the worker that the successor is fixed to
  fixed-follows : Chooses p f → p ≤ 65535 → fixed_fits p (fixed_in m (successor m i)) ≡ true → PlanFollows (rows_from 7)
      (cond (eqb (fixed_in m (successor m i)) unfixed.0) (release_first f p k i m) (release_later p k i m (fixed_in m (successor m i))))
  fixed-follows chooses few fits = go (same-told (fixed_in m (successor m i)) unfixed.0)
    where
      below : ¬ (FirstCopy m i) → fixed_in m (successor m i) < p
      below n = stable (dec_lt (fixed_in m (successor m i)) p) (λ h. told-yes (fixed_told p (fixed_in m (successor m i))) fits (n, omega arith))

      go : Told (eqb (fixed_in m (successor m i)) unfixed.0) (FirstCopy m i) (¬ (FirstCopy m i))
          → PlanFollows (rows_from 7) (cond (eqb (fixed_in m (successor m i)) unfixed.0) (release_first f p k i m) (release_later p k i m (fixed_in m (successor m i))))
      go (told-true q h) = rw q (first-follows h chooses few)
      go (told-false q n) = rw q (later-follows n (below n))

-- by any form that chooses among P workers
pub release-follows : (f : Form) (p k i : ℕ) (m : Mem) → Chooses p f → p ≤ 65535 → PlanFollows (release_rows f p k i m) (release_rule f p k i m)
unfolding release_rule
release-follows f p k i m chooses few =
    checked-row outcome_says _ _ _ (and-told _ _ (le-told (row_in m i).read (row_in m i).write) (le-told (row_in m i).write (tasks m))) (λ _.
    refuse-row outcome_says _ NothingThere _ _ (same-told (row_in m i).read (row_in m i).write)
    (checked-row outcome_says _ _ _ (lt-told (oldest m i) (tasks m)) (λ _.
    checked-row outcome_says _ _ _ (and-told _ _ (le-told (first_succ m (oldest m i)) (past_succ m (oldest m i))) (le-told (past_succ m (oldest m i)) (edges m))) (λ _.
    checked-row outcome_says _ _ _ (lt-told (row_in m i).cursor (succ_count m (oldest m i))) (λ _.
    checked-row outcome_says _ _ _ (lt-told (successor m i) (tasks m)) (λ _.
    checked-row outcome_says _ _ _ (fixed_told p (fixed_in m (successor m i))) (λ t.
    fixed-follows f p k i m chooses few t)))))))
