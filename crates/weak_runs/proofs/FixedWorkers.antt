-- PROMISE: after every list of a weak run's calls a task's copies, those recorded, those that wait and the one in hand, are all its worker's, and its degree
-- counts those that are still to be completed. A task has no worker as long as it has no copy, and keeps the one it has until another begin.
use Prim.Native.Nat.{ℕ, ◌<◌}
use mathlib.Core.Path.{◌≡◌, refl, sym, ap, ◌∙◌}
use mathlib.Core.Logic.{◌⊎◌}
use mathlib.Core.List.{List}
use native.Mathlib.Omega.{arith}
use Rattle.lists.specs.Lists.{tabulate, occ_of}
use Rattle.task.specs.Types.{nil}
use Rattle.graph.specs.Graph.{Graph}
use Rattle.system.specs.System.{missing}
use Rattle.split_lists.specs.Reading.{queue_in, thread_in}
use Rattle.copies.specs.Copies.{Copy, same_copy, task_copies}
use Rattle.weak_rules.specs.Memory.{Mem, tasks, graph_in, degree_in, fixed_in, row_in, held, entries_in}
use Rattle.weak_algorithm.specs.State.{Thread, State, thread_of}
use Rattle.weak_algorithm.specs.Reading.{state_of}
use Rattle.weak_algorithm.proofs.Readings.{tid-at, queue-at, thread-at, phase-at}
use Rattle.weak_runs.specs.Calls.{accepted_completes, Run, memory_of, events_of, graph_of, view_of}
use Rattle.weak_runs.specs.Demand.{copy_words, worker_word}
use Rattle.weak_runs.specs.Fixed.{NoCopy, FixedWorkers, StaysFixed}
use Rattle.weak_runs.proofs.Invariant.{Fixed}
use Rattle.weak_runs.proofs.Calls.{graph-reached, tasks-reached}
use Rattle.weak_runs.proofs.Events.{entries-word, length-record, record-items, record-workers, recorded-copies}
use Rattle.weak_runs.proofs.Honest.{kept_run, honest-run}
use Rattle.weak_runs.proofs.Stays.{fixed-stays}

module _ (r : Run) where
  abbrev p : ℕ
  p = r.workers

  abbrev k : ℕ
  k = r.slots

  abbrev now : Mem
  now = memory_of r

  abbrev state : State
  state = state_of p k now

  fixed : Fixed (graph_in now) p state
  fixed = (honest-run r).fixed

  fixed-words : (t : ℕ) → t < tasks r.lent → (fixed_in now t ≡ nil.0) ⊎ (fixed_in now t < p)
  fixed-words t h = rw (tid-at p k now t) at (fixed.range t (omega (arith, h, tasks-reached r)))

  fixed-recorded : (x : ℕ) → x < accepted_completes (events_of r) → worker_word now x ≡ fixed_in now (copy_words now x).task
  unfolding state_of
  fixed-recorded x h =
      record-workers r x inside
      ∙ sym (fixed.recorded x (omega (arith, inside, length-record r)))
      ∙ ap (λ (c : Copy). fixed_in now c.task) (sym (record-items r x inside))
    where
      inside : x < entries_in now
      inside = omega (arith, h, entries-word r)

  fixed-waiting : (i j : ℕ) (c : Copy) → i < p → j < p → 0 < occ_of same_copy c (queue_in p k now i j) → fixed_in now c.task ≡ i
  fixed-waiting i j c hi hj h =
      rw (tid-at p k now c.task) at (fixed.waiting i j c hi hj (rw (queue-at p k now i j hi hj) h))

  fixed-in-hand : (i : ℕ) → i < p → ¬ (◌≡◌ {A = ℕ} (row_in now i).phase 0) → fixed_in now (held now i).task ≡ i
  unfolding thread_in
  fixed-in-hand i worker busy =
      ap (λ (x : Thread). fixed_in now x.held.task) (sym (thread-at p k now i worker))
      ∙ sym (tid-at p k now (thread_of state i).held.task)
      ∙ fixed.in_hand i worker (λ e. busy (sym (phase-at p k now i worker) ∙ e))

  fixed-before : (t : ℕ) → t < tasks r.lent → NoCopy (view_of r) t → fixed_in now t ≡ nil.0
  unfolding state_of thread_in
  fixed-before t h n =
      rw (tid-at p k now t) at ((kept_run r).unmade.before t (omega (arith, h, tasks-reached r)) (record {
        waiting = λ i j c hi hj e. rw (queue-at p k now i j hi hj) (n.waiting i j c hi hj e);
        in_hand = λ i hi. rw (thread-at p k now i hi) (n.in_hand i hi);
        recorded = λ x l e.
            let inside : x < entries_in now = omega (arith, l, length-record r) in
            n.recorded x (omega (arith, inside, entries-word r)) (ap (λ (c : Copy). c.task) (record-items r x inside) ∙ e);
      }))

  left-of : (g : Graph) → graph_in now ≡ g → (n : ℕ) → entries_in now ≡ n → (t : ℕ) → t < tasks now
      → degree_in now t ≡ missing same_copy (task_copies g t) (tabulate n (copy_words now))
  unfolding state_of
  left-of g e n q t h =
      (honest-run r).sane.left t h
      ∙ ap (λ (l : List Copy). missing same_copy (task_copies (graph_in now) t) l) (recorded-copies r)
      ∙ rw (e, q) refl

pub fixed-workers : (r : Run) → FixedWorkers (view_of r)
fixed-workers r =
    record {
      words = fixed-words r;
      before = fixed-before r;
      recorded = fixed-recorded r;
      waiting = fixed-waiting r;
      in_hand = fixed-in-hand r;
      degrees = λ t h. left-of r (graph_of (view_of r)) (graph-reached r) (accepted_completes (events_of r)) (entries-word r) t (omega (arith, h, tasks-reached r));
    }

pub stays-fixed : (r : Run) → StaysFixed r
stays-fixed r = record { stays = fixed-stays r }
