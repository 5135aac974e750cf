-- Start and Complete follow their rows of the table.
use Prim.Native.Nat.{ℕ}
use mathlib.Core.Path.{◌≡◌}
use mathlib.Core.Bool.{cond}
use mathlib.Core.List.{List}
use lib.ListN.{drop}
use native.Mathlib.Omega.{arith}
use lib.Dec.{leb, eqb}
use borrow.Author.Tests.{leb-true}
use Rattle.task.specs.declared.refusal.Refusal.TheVariants.{Damaged, RecordFull}
use Rattle.lists.proofs.Told.{Told, told-true, told-false, same-told, le-told, lt-told, and-told, under-told, and-true}
use Rattle.task.specs.Refusals.{outcome_says}
use Rattle.task.specs.Rows.{Refusal}
use Rattle.task.specs.declared.StepOutcome.TheVariants.{Moved}
use Rattle.rules.specs.Memory.{Mem, tasks, edges, ring_number, counter_in, weight_in, succ_count, first_succ, past_succ, row_in, held}
use Rattle.rules.specs.Steps.{start_rule, complete_sink, complete_inner, complete_rule}
use Rattle.rules.specs.Tables.{HasSuccessors, start_rows, complete_rows}
use Rattle.rules.proofs.Words.{counter-told, join-told, entries-told, recorded-told}
use Rattle.rules.proofs.Plans.{PlanFollows, passed-row, refuse-row, checked-row, counted-row}

pub start-follows : (i : ℕ) (m : Mem) → PlanFollows (start_rows m) (start_rule i m)
unfolding start_rule
start-follows i m = counted-row m Moved _

module _ (p i : ℕ) (m : Mem) where
  -- the rows after that of the successor range
  abbrev join_rows : List Refusal
  join_rows = drop 6 (complete_rows p i m)

  sink-follows : ◌≡◌ {A = ℕ} (succ_count m (held m i)) 0 → PlanFollows join_rows (complete_sink p i m)
  unfolding complete_sink
  sink-follows z =
      passed-row outcome_says Damaged _ (complete_sink p i m) (λ q. omega (arith, q.0, z))
      (passed-row outcome_says Damaged _ (complete_sink p i m) (λ q. omega (arith, q.0, z)) (counted-row m Moved _))

  inner-follows : HasSuccessors m i → PlanFollows join_rows (complete_inner p i m)
  unfolding complete_inner
  inner-follows c =
      checked-row outcome_says _ _ _ (under-told _ c (and-told _ _ (le-told (row_in m i).read (row_in m i).write) (le-told (row_in m i).write (tasks m)))) (λ q.
      let (_, w) = and-true (leb (row_in m i).read (row_in m i).write) (leb (row_in m i).write (tasks m)) q in
      checked-row outcome_says _ _ _ (under-told _ c (join-told m (row_in m i).write (leb-true _ _ w))) (λ _.
      counted-row m Moved _))

  pub complete-follows : PlanFollows (complete_rows p i m) (complete_rule p i m)
  unfolding complete_rule
  complete-follows =
      checked-row outcome_says _ _ _ (entries-told m) (λ _.
      refuse-row outcome_says _ RecordFull _ _ (recorded-told m)
      (checked-row outcome_says _ _ _ (lt-told (held m i) (tasks m)) (λ _.
      checked-row outcome_says _ _ _ (le-told (weight_in m (held m i)) 65535) (λ _.
      checked-row outcome_says _ _ _ (counter-told (counter_in m (ring_number p i i))) (λ _.
      checked-row outcome_says _ _ _ (and-told _ _ (le-told (first_succ m (held m i)) (past_succ m (held m i))) (le-told (past_succ m (held m i)) (edges m))) (λ _.
      go (same-told (succ_count m (held m i)) 0)))))))
    where
      go : Told (eqb (succ_count m (held m i)) 0) (◌≡◌ {A = ℕ} (succ_count m (held m i)) 0) (¬ (◌≡◌ {A = ℕ} (succ_count m (held m i)) 0))
          → PlanFollows join_rows (cond (eqb (succ_count m (held m i)) 0) (complete_sink p i m) (complete_inner p i m))
      go (told-true e z) = rw e (sink-follows z)
      go (told-false e n) = rw e (inner-follows (omega arith))
