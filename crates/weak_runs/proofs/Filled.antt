-- No more tasks have joined the buffers of a weak run than are complete: so it is after an accepted begin, and every accepted step keeps it.
use Prim.Native.Nat.{ℕ, ◌+◌, ◌-◌, ◌≤◌, ◌<◌}
use mathlib.Core.Path.{◌≡◌, refl, ap, ◌∙◌}
use mathlib.Core.Logic.{inl}
use mathlib.Core.List.{List}
use native.Mathlib.Omega.{arith}
use native.Mathlib.Decide.{ℕ_discrete, dec_lt}
use lib.ListN.{length, get_or, set}
use lib.Seq.{get_or-set_same, get_or-set_other}
use Rattle.lists.specs.Decided.{tally}
use Rattle.lists.specs.Sums.{sum_to}
use Rattle.lists.proofs.Decided.{tally-yes, tally-no, stable}
use Rattle.lists.proofs.Sums.{sum-zero, sum-at}
use Rattle.task.specs.Refusals.{accepted, answer_says}
use Rattle.task.specs.declared.Limits.{Limits}
use Rattle.task.specs.declared.Step.{Step}
use Rattle.task.specs.declared.Step.TheVariants.{Fetch, Start, Complete, Release}
use Rattle.weak_task.specs.Types.{idle}
use Rattle.weak_task.specs.declared.WeakRow.{WeakRow}
use Rattle.weak_task.specs.declared.WeakOutcome.{WeakOutcome}
use Rattle.memory.specs.Family.{Places}
use Rattle.memory.specs.Field as list
use Rattle.memory.specs.Updates.{updated, written}
use Rattle.weak_rules.specs.Memory.{Mem, tasks, degree_in, row_in, held}
use Rattle.weak_rules.specs.Updates.{Update}
use Rattle.weak_rules.specs.Plans.{with_count}
use Rattle.weak_rules.specs.Steps.{step}
use Rattle.weak_rules.specs.Begin.{begin}
use Rattle.weak_rules.specs.Moves.{Made, Completing, Advances, next, last, AcceptedStep, copies, sink, inner, first, later}
use Rattle.weak_rules.proofs.RowsMade.{row_made, rows_made}
use Rattle.weak_rules.proofs.Moved.{rows_other}
use Rattle.weak_rules.proofs.Kept.{step_keeps}
use Rattle.weak_rules.proofs.Begun.{laid-row, laid-down}
use Rattle.weak_runs.specs.Calls.{Run, memory_of}
use Rattle.weak_runs.proofs.Calls.{always}
use Rattle.weak_runs.proofs.Live.{complete_in}

-- the places where the buffers end, together
abbrev pub joined_in : ℕ → Mem → ℕ
joined_in p m = sum_to p (λ i. (row_in m i).write)

pub begun-filled : (limits : Limits) (p k : ℕ) (m : Mem) → answer_says (begin limits p k m).answer ≡ accepted
    → joined_in p (begin limits p k m).memory ≤ complete_in (begin limits p k m).memory
begun-filled limits p k m e =
    omega (
      arith,
      sum-zero p (λ i. (row_in (begin limits p k m).memory i).write)
          (λ i h. ap (λ (r : WeakRow). r.write) (laid-row (laid-down limits p k m e) i)),
    )

-- how many of the first n degrees are 0
abbrev zeros : ℕ → List ℕ → ℕ
zeros n degrees = sum_to n (λ t. tally (ℕ_discrete (get_or degrees t 0) 0))

-- one degree above 0 becomes d
zeros-set : (n : ℕ) (degrees : List ℕ) (t d : ℕ) → length degrees ≡ n → t < n → 0 < get_or degrees t 0
    → zeros n (set degrees t d) ≡ zeros n degrees + tally (ℕ_discrete d 0)
zeros-set n degrees t d e l positive =
    omega (
      arith,
      sum-at n (λ u. tally (ℕ_discrete (get_or degrees u 0) 0)) (λ u. tally (ℕ_discrete (get_or (set degrees t d) u 0) 0)) t l
          (λ u other. ap (λ (x : ℕ). tally (ℕ_discrete x 0)) (get_or-set_other degrees t u d 0 other)),
      tally-no (ℕ_discrete (get_or degrees t 0) 0) (λ z. omega (arith, z, positive)),
      ap (λ (x : ℕ). tally (ℕ_discrete x 0)) (get_or-set_same degrees t d 0 (omega (arith, e, l))),
    )

advanced-write : {count : ℕ} {r : WeakRow} {to : Places} → Advances count r to → to.write ≡ r.write
advanced-write (next h) = refl
advanced-write (last h) = refl

module _ (p k i : ℕ) (m : Mem) (lengths : length m.degrees ≡ tasks m) where
  -- the write place that a step leaves, beside the number of complete tasks
  abbrev Joins : Mem → WeakRow → Type 0
  Joins m' r = r.write + zeros (tasks m) m.degrees ≤ (row_in m i).write + zeros (tasks m) m'.degrees

  -- the degree of the held copy's task becomes d
  lowered : Completing i m → (d : ℕ) → zeros (tasks m) (set m.degrees (held m i).task d) ≡ zeros (tasks m) m.degrees + tally (ℕ_discrete d 0)
  lowered c d = zeros-set (tasks m) m.degrees (held m i).task d lengths task c.positive
    where
      task : (held m i).task < tasks m
      task = stable (dec_lt (held m i).task (tasks m)) (λ n. c.good (inl (omega (arith, n))))

  -- with its last copy the task is complete
  completed : Completing i m → zeros (tasks m) (set m.degrees (held m i).task 0) ≡ zeros (tasks m) m.degrees + 1
  completed c = omega (arith, lowered c 0, tally-yes (ℕ_discrete 0 0) refl)

  made-joins : (s : Step) (o : WeakOutcome) (us : List Update) (f : Made s p k i m o us) → Joins (written (with_count m us) m) (row_made p k i m o us s f)
  unfolding written updated
  made-joins Fetch o us f = rw f.updates (omega arith)
  made-joins Start o us f = rw f.updates (omega arith)
  made-joins Complete o us (copies f) = rw f.updates (omega (arith, lowered f.common (degree_in m (held m i).task - 1)))
  made-joins Complete o us (sink f) = rw f.updates (omega (arith, completed f.common.common))
  made-joins Complete o us (inner f) = rw f.updates (omega (arith, completed f.common.common))
  made-joins Release o us (first f) = rw f.updates (omega (arith, advanced-write f.common.advances))
  made-joins Release o us (later f) = rw f.updates (omega (arith, advanced-write f.common.advances))

module _ (limits : Limits) (p k i : ℕ) (s : Step) (m : Mem) (r : AcceptedStep limits p k i s m) where
  abbrev m' : Mem
  m' = (step limits p k i s m).memory

  pub step-filled : joined_in p m ≤ complete_in m → joined_in p m' ≤ complete_in m'
  step-filled h = rw same (omega (arith, h, sums, joins))
    where
      made : WeakRow
      made = row_made p k i m r.outcome r.updates s r.allowed.made

      row : row_in m' i ≡ made
      row =
          rw r.left
          (ap (λ (rows : List WeakRow). get_or rows i idle) (rows_made p k i m r.outcome r.updates s r.allowed.made)
          ∙ get_or-set_same m.rows i made idle (omega (arith, r.allowed.worker, r.allowed.fits.lengths.list list.rows)))

      sums : joined_in p m' + (row_in m i).write ≡ joined_in p m + made.write
      sums =
          sum-at p (λ j. (row_in m j).write) (λ j. (row_in m' j).write) i r.allowed.worker
          (λ j n. ap (λ (x : WeakRow). x.write) (rows_other limits p k i s m j n))
          ∙ ap (λ (x : WeakRow). joined_in p m + x.write) row

      joins : Joins p k i m (r.allowed.fits.lengths.list list.degrees) m' made
      joins = rw r.left (made-joins p k i m (r.allowed.fits.lengths.list list.degrees) s r.outcome r.updates r.allowed.made)

      same : tasks m' ≡ tasks m
      same = ap length (step_keeps limits p k i s m).graph.weights

-- so it is throughout a run
pub filled-run : (r : Run) → joined_in r.workers (memory_of r) ≤ complete_in (memory_of r)
filled-run r =
    always r.workers r.slots (λ m. joined_in r.workers m ≤ complete_in m) (λ limits. begun-filled limits r.workers r.slots)
    (λ limits m i s. step-filled limits r.workers r.slots i s m) r.limits r.lent r.accepts r.calls
