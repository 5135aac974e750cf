-- Release follows its rows of the table.
use Prim.Native.Nat.{ℕ}
use mathlib.Core.Bool.{cond}
use mathlib.Core.List.{List}
use lib.ListN.{length, drop}
use lib.Dec.{eqb}
use Rattle.task.specs.declared.refusal.Refusal.TheVariants.{Damaged, NothingThere, RingsFull}
use Rattle.lists.proofs.Told.{Told, told-true, told-false, same-told, le-told, lt-told, and-told, under-told, told-yes}
use Rattle.task.specs.Refusals.{outcome_says}
use Rattle.task.specs.Rows.{Refusal}
use Rattle.ring.specs.Ring.{Full}
use Rattle.choice.specs.Form.{Form}
use Rattle.choice.specs.Search.{Found, unsound, none, at}
use Rattle.choice.proofs.Form.{Chooses}
use Rattle.plans.specs.Forms.{target_by}
use Rattle.rules.specs.Memory.{Mem, tasks, edges, ring_number, ends_in, weight_in, degree_in, first_succ, past_succ, succ_count, row_in, oldest, successor}
use Rattle.rules.specs.Plans.{Plan}
use Rattle.rules.specs.Steps.{find_room, release_to, release_ready, release_waiting, release_rule}
use Rattle.rules.specs.Tables.{offered_ends, Ready, release_rows}
use Rattle.rules.proofs.Plans.{PlanFollows, given-row, passed-row, refuse-row, checked-row, counted-row}
use Rattle.plans.proofs.Searches.{Sought, all-not-bad, stop-not-bad, room-looked}
use Rattle.plans.proofs.Sought.{least-target, none-damaged, all-full, one-open, used-told}

module _ (f : Form) (p k i : ℕ) (m : Mem) where
  -- the table's rows but the first n
  abbrev rows_from : ℕ → List Refusal
  rows_from n = drop n (release_rows f p k i m)

  -- the degree would not be 0
  not-ready : ¬ (Ready m i) → (plan : Plan) → PlanFollows (rows_from 12) plan → PlanFollows (rows_from 7) plan
  not-ready n plan g =
      passed-row outcome_says Damaged _ plan (λ c. n c.0)
      (passed-row outcome_says Damaged _ plan (λ c. n c.0)
      (passed-row outcome_says (RingsFull (successor m i)) _ plan (λ c. n c.0)
      (passed-row outcome_says Damaged _ plan (λ c. n c.0)
      (passed-row outcome_says Damaged _ plan (λ c. n c.0) g))))

  waiting-follows : ¬ (Ready m i) → PlanFollows (rows_from 7) (release_waiting i m)
  unfolding release_waiting
  waiting-follows n = not-ready n (release_waiting i m) (counted-row m _ _)

  -- the degree would be 0
  module _ (ready : Ready m i) (sane : Chooses p f) where
    -- where no word read for the target is damaged
    module _ (good : ¬ f.Damaged) where
      abbrev owners : List ℕ
      owners = f.offered (target_by f)

      to-follows : (g : Found) → Sought k (Full k) (λ o. ends_in m (ring_number p o i)) owners g → PlanFollows (rows_from 8) (release_to f p k i m g)
      unfolding release_to
      to-follows unsound bad = given-row Damaged _ (ready, (target_by f, least-target f p k i m sane good, bad))
      to-follows none all =
          passed-row outcome_says Damaged _ (release_to f p k i m none)
          (λ c. none-damaged f p k i m sane good (all-not-bad (length owners) k (Full k) (offered_ends p i m owners) all) c.1)
          (given-row (RingsFull (successor m i)) _ (ready, all-full f p k i m sane good all))
      to-follows (at o) (e, stop, q) =
          passed-row outcome_says Damaged _ (release_to f p k i m (at o))
          (λ c. none-damaged f p k i m sane good (stop-not-bad (length owners) k (Full k) (offered_ends p i m owners) stop) c.1)
          (passed-row outcome_says (RingsFull (successor m i)) _ (release_to f p k i m (at o)) (λ c. one-open f p k i m sane good e stop c.1)
          (checked-row outcome_says _ _ _ (used-told f p k i m sane good e stop ready o q) (λ _.
          checked-row outcome_says _ _ _ (under-told _ ready (le-told (weight_in m (successor m i)) 65535)) (λ _. counted-row m _ _))))

    ready-follows : PlanFollows (rows_from 7) (release_ready f p k i m)
    unfolding release_ready
    ready-follows =
        checked-row outcome_says _ _ _ (under-told _ ready sane.told)
        (λ t. to-follows (told-yes sane.told t) (find_room p k i m (f.offered (target_by f))) (room-looked p k i (f.offered (target_by f)) m))

  -- the degree falls by one
  degree-follows : Chooses p f → PlanFollows (rows_from 7)
      (cond (eqb (degree_in m (successor m i)) 1) (release_ready f p k i m) (release_waiting i m))
  degree-follows sane = go (same-told (degree_in m (successor m i)) 1)
    where
      go : Told (eqb (degree_in m (successor m i)) 1) (Ready m i) (¬ (Ready m i))
          → PlanFollows (rows_from 7) (cond (eqb (degree_in m (successor m i)) 1) (release_ready f p k i m) (release_waiting i m))
      go (told-true q r) = rw q (ready-follows r sane)
      go (told-false q n) = rw q (waiting-follows n)

-- by any sane form
pub release-follows : (f : Form) (p k i : ℕ) (m : Mem) → Chooses p f → PlanFollows (release_rows f p k i m) (release_rule f p k i m)
unfolding release_rule
release-follows f p k i m sane =
    checked-row outcome_says _ _ _ (and-told _ _ (le-told (row_in m i).read (row_in m i).write) (le-told (row_in m i).write (tasks m))) (λ _.
    refuse-row outcome_says _ NothingThere _ _ (same-told (row_in m i).read (row_in m i).write)
    (checked-row outcome_says _ _ _ (lt-told (oldest m i) (tasks m)) (λ _.
    checked-row outcome_says _ _ _ (and-told _ _ (le-told (first_succ m (oldest m i)) (past_succ m (oldest m i))) (le-told (past_succ m (oldest m i)) (edges m))) (λ _.
    checked-row outcome_says _ _ _ (lt-told (row_in m i).cursor (succ_count m (oldest m i))) (λ _.
    checked-row outcome_says _ _ _ (lt-told (successor m i) (tasks m)) (λ _.
    checked-row outcome_says _ _ _ (and-told _ _ (le-told 1 (degree_in m (successor m i))) (le-told (degree_in m (successor m i)) (tasks m))) (λ _.
    degree-follows f p k i m sane)))))))
