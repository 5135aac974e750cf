-- What follows for a run at any time: no task is recorded, held or waits before its predecessors are recorded, no two workers hold one task; and for
-- a finished one: it records the same tasks as any other of its graph, and accepts no further step. With N 0 begun is finished.
use Prim.Native.Nat.{ℕ, ◌<◌}
use mathlib.Core.Path.{◌≡◌, refl, sym, ap, ◌∙◌}
use mathlib.Core.List.{[]}
use native.Mathlib.Omega.{arith}
use native.Mathlib.Decide.{ℕ_discrete}
use Rattle.std.specs.Prelude.{Err}
use Rattle.task.specs.declared.refusal.Refusal.TheVariants.{BeyondLimit}
use Rattle.lists.specs.Lists.{occ, tabulate}
use Rattle.lists.proofs.Occurrences.{occ-hit}
use Rattle.task.specs.Refusals.{answer_says, step_says, Answer, StepAnswer}
use Rattle.task.specs.declared.Step.{Step}
use Rattle.task.specs.declared.Step.TheVariants.{Complete}
use Rattle.graph.specs.Graph.{Graph, preds_of, Edge}
use Rattle.graph.specs.Conditions.{EndsFit}
use Rattle.choice.specs.Least.{load}
use Rattle.choice.proofs.Least.{least-same}
use Rattle.exchange.specs.Pairs.{each_once}
use Rattle.rules.specs.Memory.{Mem, tasks, graph_in, row_in, held}
use Rattle.rules.specs.Plans.{Result, result_of}
use Rattle.rules.specs.Steps.{step}
use Rattle.rules.specs.Begin.{begin}
use Rattle.rules.proofs.Limits.{beyond-2}
use Rattle.rules.proofs.Moves.{accepted-step}
use Rattle.rules.proofs.Numbers.{other_step, other-begin}
use Rattle.algorithm1.specs.Reading.{thread_in, state_of}
use Rattle.algorithm1.proofs.Readings.{queue-at, thread-at}
use Rattle.system.specs.Stages.{in_hand}
use Rattle.system.proofs.Records.{word-recorded, recorded-word, earlier_word}
use Rattle.system.proofs.Progress as progress
use Rattle.views.proofs.Numbers as numbers
use Rattle.runs.specs.Calls.{plain_calls, Run, memory_of, events_of, view_of}
use Rattle.runs.specs.Corollaries.{OneHolder, WaitingBehind, HeldBehind, NeverEarly, NoMore, OtherNumbers, BeyondLimits, AcceptedKept, NeverFull, Lightest}
use Rattle.runs.specs.Demand.{accepted_steps, accepted_completes, Finished, task_word, order_of, OneGraph}
use Rattle.runs.proofs.Invariant.{items_of, meaning}
use Rattle.runs.proofs.Calls.{graph-reached, tasks-reached, edges-reached}
use Rattle.runs.proofs.Begun.{items-reversed}
use Rattle.runs.proofs.Hands.{hand-holds}
use Rattle.runs.proofs.Waiting.{list-waits}
use Rattle.runs.proofs.Events.{entries-word}
use Rattle.runs.proofs.Honest.{system_in, honest-run}
use Rattle.runs.proofs.Weights.{counters-add-up}
use Rattle.runs.proofs.Undamaged.{undamaged}
use Rattle.runs.proofs.Demand.{run_sound, invariant-run, recorded, recorded-words, finished-count, finished-full, finished-order, demand-3}

edge-as : {g g' : Graph} {u t : ℕ} → g' ≡ g → Edge g u t → Edge g' u t
edge-as q e = rw q e

module _ (r : Run) where
  abbrev p : ℕ
  p = r.workers

  abbrev now : Mem
  now = memory_of r

  abbrev graph : Graph
  graph = graph_in now

  in-hand : (i : ℕ) → i < p → ¬ (◌≡◌ {A = ℕ} (row_in now i).phase 0) → 0 < occ (held now i) (in_hand ((system_in p r.slots now).stages.hand i))
  unfolding meaning thread_in
  in-hand i worker busy =
      rw (thread-at p r.slots now i worker, hand-holds (thread_in now i) busy) (omega (arith, occ-hit ℕ_discrete (held now i) (held now i) [] refl))

  -- no two workers hold one task
  pub one-holder : OneHolder (view_of r)
  one-holder i j hi hj bi bj e =
      progress.one-holder ℕ_discrete (items_of graph) (items-reversed graph (run_sound r)) p {s = system_in p r.slots now} (invariant-run r) i j (held now i) hi hj
      (in-hand i hi bi) (rw e (in-hand j hj bj))

  words : recorded r ≡ tabulate (accepted_completes (events_of r)) (task_word now)
  words = recorded-words r ∙ ap (λ (n : ℕ). tabulate n (task_word now)) (entries-word r)

  edge_here : (u t : ℕ) → Edge (graph_in r.lent) u t → 0 < occ u (preds_of graph t)
  edge_here u t e = (edge-as (graph-reached r) e).predecessor

  -- a task waits, and a worker holds it, only behind all its predecessors
  pub waiting-behind : WaitingBehind (view_of r)
  unfolding meaning
  waiting-behind i j t u hi hj h e =
      recorded-word ℕ_discrete _ (task_word now) (recorded r) words u
      (progress.waiting-behind ℕ_discrete (items_of graph) (items-reversed graph (run_sound r)) p {s = system_in p r.slots now} (invariant-run r) i t u hi
      (list-waits p (state_of p r.slots now) i ℕ_discrete t j hj (rw (queue-at p r.slots now i j hi hj) h)) (edge_here u t e))

  pub held-behind : HeldBehind (view_of r)
  held-behind i u hi busy e =
      recorded-word ℕ_discrete _ (task_word now) (recorded r) words u
      (progress.held-behind ℕ_discrete (items_of graph) (items-reversed graph (run_sound r)) p {s = system_in p r.slots now} (invariant-run r) i (held now i) u hi
      (in-hand i hi busy) (edge_here u (held now i) e))

-- finished runs of one graph record the same tasks
pub same-tasks : (r r' : Run) → OneGraph (view_of r) (view_of r') → Finished (view_of r) → Finished (view_of r') → (t : ℕ) → occ t (order_of (view_of r)) ≡ occ t (order_of (view_of r'))
same-tasks r r' o f f' t =
    (finished-order r f).once t ∙ ap (λ (n : ℕ). each_once n t) o.same_tasks ∙ sym ((finished-order r' f').once t)

-- in an unfinished run too, the record has every task after all its predecessors
pub never-early : (r : Run) → NeverEarly (view_of r)
never-early r x u h e =
    earlier_word ℕ_discrete _ (task_word (memory_of r)) (recorded r) (words r) x u h
    ((invariant-run r).order u (task_word (memory_of r) x) (edge_here r u (task_word (memory_of r) x) e)
    (word-recorded ℕ_discrete _ (task_word (memory_of r)) (recorded r) (words r) x h))

-- a finished run accepts no further step, whatever the limits, P, K and worker
pub no_more : (r : Run) → Finished (view_of r) → NoMore (view_of r)
no_more r f limits p k i s a =
    omega (arith, (accepted-step limits p k i s (memory_of r) a).allowed.low, finished-count r (finished-full r f))

-- N 0: "0 steps, begun is finished", whatever is called
pub nothing-finished : (r : Run) → ◌≡◌ {A = ℕ} (tasks r.lent) 0 → Finished (view_of r) × (◌≡◌ {A = ℕ} (accepted_steps (events_of r)) 0)
nothing-finished r none = (finished, omega (arith, none, (demand-3.one r).steps finished, rw none at ends.last, ends.first))
  where
    finished : Finished (view_of r)
    finished = record { completes = omega (arith, none) }

    ends : EndsFit (graph_in r.lent)
    ends = rw (graph-reached r) at (run_sound r).ends

-- "A call with another P or K than begin's meets 2 or 1.", a step or a begin, at any time of the run and whatever its limits
pub other-numbers : (r : Run) → OtherNumbers (view_of r)
other-numbers r limits p k n = (
  other_step limits r.workers r.slots p k (memory_of r) (honest-run r).fits.lengths n,
  other-begin limits r.workers r.slots p k (memory_of r) (honest-run r).fits.lengths n,
)

-- a call beyond its limits is refused with 2 and leaves all words, a step or a begin, at any time of the run
pub beyond-limits : (r : Run) → BeyondLimits (view_of r)
beyond-limits r limits p k n = (
  λ i s. (ap (λ (x : Result StepAnswer). step_says x.answer) (two.1 i s), ap (λ (x : Result StepAnswer). x.memory) (two.1 i s)),
  (ap (λ (x : Result Answer). answer_says x.answer) two.0, ap (λ (x : Result Answer). x.memory) two.0),
)
  where
    two : (begin limits p k (memory_of r) ≡ result_of (Err BeyondLimit) (memory_of r))
        × ((i : ℕ) (s : Step) → step limits p k i s (memory_of r) ≡ result_of (Err BeyondLimit) (memory_of r))
    two = beyond-2 limits p k (memory_of r) (λ w. n (rw (sym (tasks-reached r), sym (edges-reached r)) w))

-- so the run keeps the limits of every step and begin that is accepted, whatever its P and K
pub accepted-kept : (r : Run) → AcceptedKept (view_of r)
accepted-kept r = numbers.accepted-kept plain_calls (view_of r) (other-numbers r) (beyond-limits r)

-- in memory begun and stepped by the engine Complete never meets 12, whatever the limits, P, K and worker
pub never-full : (r : Run) → NeverFull (view_of r)
never-full r limits p k i d = ((undamaged r).next limits p k i Complete).not_full d

pub lightest : (r : Run) → Lightest (view_of r)
unfolding load
lightest r i o us f = least-same (λ h l. sym ((counters-add-up r).words h l)) f.least
