-- PROMISE: after every list of a run's calls each task stands at most once in rings, hands and record together, and only tasks of the graph do.
use Prim.Native.Nat.{ℕ, ◌+◌, ◌≤◌, ◌<◌, min}
use mathlib.Core.Path.{◌≡◌, sym, ap, ◌∙◌}
use mathlib.Core.Bool.{Bool, cond}
use mathlib.Core.List.{List, [], ◌∷◌}
use native.Mathlib.Omega.{arith}
use native.Mathlib.Decide.{ℕ_discrete, dec_lt}
use Rattle.lists.specs.Decided.{tally}
use Rattle.lists.specs.Lists.{tabulate, occ_of}
use Rattle.lists.specs.Sums.{sum_to}
use Rattle.lists.proofs.Decided.{tally-yes, tally-pos, tally-le-one}
use Rattle.lists.proofs.Occurrences.{occ-joined}
use Rattle.lists.proofs.Sums.{sum_same}
use Rattle.lists.proofs.Told.{Told, told-true, told-false, same-told}
use Rattle.task.specs.Entries.{Entry}
use Rattle.memory.specs.Family.{Family}
use Rattle.memory.specs.Memory.{Mem}
use Rattle.plans.specs.Memory.{phase_in, held, entries_in}
use Rattle.rules.specs.Memory.{tasks, degree_in}
use Rattle.split_lists.specs.Items.{Thread, State, queue_of, waiting_for, thread_of}
use Rattle.split_lists.specs.Reading.{queue_in, thread_in, state_from}
use Rattle.split_lists.proofs.Readings.{queue-at, thread-at, phase-at}
use Rattle.algorithm1.specs.Reading.{record_in, state_of}
use Rattle.task.specs.Types.{nil}
use Rattle.system.specs.Stages.{in_hand, places}
use Rattle.runs.specs.Calls.{Run, memory_of, view_of}
use Rattle.runs.specs.Demand.{task_word}
use Rattle.runs.specs.Items.{hand_of}
use Rattle.runs.specs.OnePlace.{held_by, stands_in, OnePlace, NoneLost}
use Rattle.runs.proofs.Invariant.{tasks_of, stages_of, meaning}
use Rattle.runs.proofs.Calls.{tasks-reached}
use Rattle.runs.proofs.Hands.{hand-idle, hand-holds}
use Rattle.runs.proofs.Demand.{invariant-run, recorded-words}

-- A memory of any family, read with these entries of its record: its words are the stages of the system.
module _ {F : Family} (same : Discrete F.Item) (entry_item : Mem F → ℕ → F.Item) (p k : ℕ) (m : Mem F) (entries : List (Entry F.Item))
    (none : F.Item) where
  abbrev state : State F.Item
  state = state_from p k m entries

  rings-are : (a : F.Item) → sum_to p (λ i. sum_to p (λ j. occ_of same a (queue_in p k m i j))) ≡ sum_to p (λ i. occ_of same a (waiting_for p state i))
  unfolding waiting_for
  rings-are a =
      sum_same p _ _
      (λ i hi. sum_same p _ _ (λ j hj. ap (occ_of same a) (sym (queue-at p k m entries i j hi hj))) ∙ sym (occ-joined same a p (queue_of state i)))

  hand-is : (i : ℕ) → i < p → held_by m i ≡ in_hand (hand_of (thread_of none state i))
  unfolding thread_in
  hand-is i hi = go (same-told (phase_in m i) 0)
    where
      phase : (thread_of none state i).phase ≡ phase_in m i
      phase = phase-at p k m entries none i hi

      go : {b : Bool} → Told b (phase_in m i ≡ 0) (¬ (phase_in m i ≡ 0)) → cond b [] (held m i ∷ []) ≡ in_hand (hand_of (thread_of none state i))
      go (told-true q e) = rw q (sym (ap in_hand (hand-idle (thread_of none state i) (phase ∙ e))))
      go (told-false q n) =
          rw q
          (sym (hand-holds (thread_of none state i) (λ e. n (sym phase ∙ e))
          ∙ ap (λ (t : Thread F.Item). t.held ∷ []) (thread-at p k m entries none i hi)))

  pub stands-places : tasks_of entries ≡ tabulate (entries_in m) (entry_item m) → (a : F.Item)
      → stands_in same entry_item p k m a ≡ places same p (stages_of none p state) a
  unfolding stands_in places
  stands-places recorded a =
      omega (
        arith,
        rings-are a,
        sum_same p (λ i. occ_of same a (in_hand (hand_of (thread_of none state i)))) (λ i. occ_of same a (held_by m i))
            (λ i hi. ap (occ_of same a) (hand-is i hi)),
        ap (occ_of same a) recorded,
      )

-- the words of a run: a task is blocked, or in one place
module _ (r : Run) (t : ℕ) where
  abbrev stood : ℕ
  stood = stands_in ℕ_discrete task_word r.workers r.slots (memory_of r) t

  stands : min 1 (degree_in (memory_of r) t) + stood ≡ tally (dec_lt t (tasks (memory_of r)))
  unfolding meaning state_of
  stands =
      omega (
        arith,
        (invariant-run r).stage t,
        stands-places ℕ_discrete task_word r.workers r.slots (memory_of r) (record_in (memory_of r)) nil.0 (recorded-words r) t,
      )

  few : stood ≤ 1
  few = omega (arith, stands, tally-le-one (dec_lt t (tasks (memory_of r))))

pub one_place : (r : Run) → OnePlace (view_of r)
one_place r =
    record {
      once = few r;
      only = λ t h. rw (tasks-reached r) at (tally-pos (dec_lt t (tasks (memory_of r))) (omega (arith, stands r t, h)));
    }

pub none-lost : (r : Run) → NoneLost (view_of r)
none-lost r =
    record {
      blocked = λ t n. omega (arith, stands r t, tally-le-one (dec_lt t (tasks (memory_of r))), n);
      free = λ t l e. omega (arith, stands r t, tally-yes (dec_lt t (tasks (memory_of r))) (omega (arith, l, tasks-reached r)), e);
    }
