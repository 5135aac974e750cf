-- Start and Complete follow their rows of the table.
use Prim.Native.Nat.{ℕ}
use mathlib.Core.Path.{◌≡◌}
use mathlib.Core.Bool.{cond}
use mathlib.Core.List.{List}
use lib.ListN.{drop}
use native.Mathlib.Omega.{arith}
use lib.Dec.{leb, eqb}
use borrow.Author.Tests.{leb-true}
use Rattle.task.specs.declared.refusal.Refusal.TheVariants.{Damaged, RecordFull}
use Rattle.lists.proofs.Told.{Told, told-true, told-false, same-told, le-told, and-told, under-told, and-true}
use Rattle.task.specs.Rows.{Refusal}
use Rattle.weak_task.specs.Says.{outcome_says}
use Rattle.weak_task.specs.declared.WeakOutcome.TheVariants.{Moved}
use Rattle.weak_rules.specs.Memory.{Mem, tasks, edges, ring_number, counter_in, weight_in, degree_in, succ_count, first_succ, past_succ, row_in, held}
use Rattle.weak_rules.specs.Steps.{start_rule, complete_copy, complete_sink, complete_inner, complete_last, complete_rule}
use Rattle.weak_rules.specs.Tables.{LastCopy, MustJoin, start_rows, complete_rows}
use Rattle.weak_rules.proofs.Words.{counter-told, join-told, copy_told, roots-told, entries-told, recorded-told}
use Rattle.weak_rules.proofs.Plans.{PlanFollows, passed-row, refuse-row, checked-row, counted-row}

pub start-follows : (i : ℕ) (m : Mem) → PlanFollows (start_rows m) (start_rule i m)
unfolding start_rule
start-follows i m = counted-row m Moved _

module _ (p i : ℕ) (m : Mem) where
  -- the table's rows but the first n
  abbrev rows_from : ℕ → List Refusal
  rows_from n = drop n (complete_rows p i m)

  -- a copy that isn't the last
  copy-follows : ¬ (LastCopy m i) → PlanFollows (rows_from 5) (complete_copy i m)
  unfolding complete_copy
  copy-follows n =
      passed-row outcome_says Damaged _ (complete_copy i m) (λ c. n c.0)
      (passed-row outcome_says Damaged _ (complete_copy i m) (λ c. n c.0)
      (passed-row outcome_says Damaged _ (complete_copy i m) (λ c. n c.0)
      (passed-row outcome_says Damaged _ (complete_copy i m) (λ c. n c.0.0)
      (passed-row outcome_says Damaged _ (complete_copy i m) (λ c. n c.0.0) (counted-row m Moved _)))))

  sink-follows : ◌≡◌ {A = ℕ} (succ_count m (held m i).task) 0 → PlanFollows (rows_from 8) (complete_sink p i m)
  unfolding complete_sink
  sink-follows z =
      passed-row outcome_says Damaged _ (complete_sink p i m) (λ c. omega (arith, c.0.1, z))
      (passed-row outcome_says Damaged _ (complete_sink p i m) (λ c. omega (arith, c.0.1, z)) (counted-row m Moved _))

  inner-follows : MustJoin m i → PlanFollows (rows_from 8) (complete_inner p i m)
  unfolding complete_inner
  inner-follows c =
      checked-row outcome_says _ _ _ (under-told _ c (and-told _ _ (le-told (row_in m i).read (row_in m i).write) (le-told (row_in m i).write (tasks m)))) (λ q.
      let (_, w) = and-true (leb (row_in m i).read (row_in m i).write) (leb (row_in m i).write (tasks m)) q in
      checked-row outcome_says _ _ _ (under-told _ c (join-told m (row_in m i).write (leb-true _ _ w))) (λ _.
      counted-row m Moved _))

  -- the last one
  last-follows : LastCopy m i → PlanFollows (rows_from 5) (complete_last p i m)
  unfolding complete_last
  last-follows l =
      checked-row outcome_says _ _ _ (under-told _ l (le-told (weight_in m (held m i).task) 65535)) (λ _.
      checked-row outcome_says _ _ _ (under-told _ l (counter-told (counter_in m (ring_number p i i)))) (λ _.
      checked-row outcome_says _ _ _ (under-told _ l (and-told _ _ (le-told (first_succ m (held m i).task) (past_succ m (held m i).task)) (le-told (past_succ m (held m i).task) (edges m)))) (λ _.
      go (same-told (succ_count m (held m i).task) 0))))
    where
      go : Told (eqb (succ_count m (held m i).task) 0) (◌≡◌ {A = ℕ} (succ_count m (held m i).task) 0) (¬ (◌≡◌ {A = ℕ} (succ_count m (held m i).task) 0))
          → PlanFollows (rows_from 8) (cond (eqb (succ_count m (held m i).task) 0) (complete_sink p i m) (complete_inner p i m))
      go (told-true e z) = rw e (sink-follows z)
      go (told-false e n) = rw e (inner-follows (l, omega arith))

  pub complete-follows : PlanFollows (complete_rows p i m) (complete_rule p i m)
  unfolding complete_rule
  complete-follows =
      checked-row outcome_says _ _ _ (roots-told m) (λ _.
      checked-row outcome_says _ _ _ (entries-told m) (λ _.
      refuse-row outcome_says _ RecordFull _ _ (recorded-told m)
      (checked-row outcome_says _ _ _ (copy_told m (held m i)) (λ _.
      checked-row outcome_says _ _ _ (and-told _ _ (le-told 1 (degree_in m (held m i).task)) (le-told (degree_in m (held m i).task) (tasks m))) (λ _.
      go (same-told (degree_in m (held m i).task) 1))))))
    where
      go : Told (eqb (degree_in m (held m i).task) 1) (LastCopy m i) (¬ (LastCopy m i))
          → PlanFollows (rows_from 5) (cond (eqb (degree_in m (held m i).task) 1) (complete_last p i m) (complete_copy i m))
      go (told-true e l) = rw e (last-follows l)
      go (told-false e n) = rw e (copy-follows n)
