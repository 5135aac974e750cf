-- What follows for a weak run at any time: no copy is recorded, held or waits before the copies of its predecessor are recorded, copies of one task are
-- in no order, no two workers hold copies of one task; and for a finished one: it records the same copies as any other of its graph, and accepts no
-- further step. With N 0 begun is finished.
use Prim.Native.Nat.{ℕ, ◌<◌}
use mathlib.Core.Path.{◌≡◌, sym, ap, ◌∙◌}
use mathlib.Core.List.{List}
use native.Mathlib.Omega.{arith}
use native.Mathlib.Decide.{ℕ_discrete}
use lib.ListN.{length, get_or}
use Rattle.std.specs.Prelude.{Err}
use Rattle.task.specs.declared.refusal.Refusal.TheVariants.{BeyondLimit}
use Rattle.lists.specs.Decided.{tally}
use Rattle.lists.specs.Lists.{tabulate, occ_of}
use Rattle.lists.proofs.Sums.{sum-zero}
use Rattle.task.specs.Refusals.{answer_says, Answer}
use Rattle.task.specs.declared.Step.{Step}
use Rattle.task.specs.declared.Step.TheVariants.{Complete}
use Rattle.weak_task.specs.Says.{WeakAnswer, step_says}
use Rattle.graph.specs.Graph.{Graph, preds_of}
use Rattle.graph.specs.Conditions.{EndsFit}
use Rattle.graph.proofs.Reversed.{length-roots}
use Rattle.choice.specs.Least.{load}
use Rattle.choice.proofs.Least.{least-same}
use Rattle.exchange.specs.Exchange.{Unordered}
use Rattle.system.proofs.Records.{word-recorded, recorded-word, earlier_word}
use Rattle.system.proofs.Progress as progress
use Rattle.copies.specs.Copies.{Copy, same_copy, copies_of, Before}
use Rattle.copies.proofs.Copies.{before-preds}
use Rattle.copies.proofs.Runs.{weak-order}
use Rattle.copies.proofs.Unordered.{copies-unordered}
use Rattle.weak_rules.specs.Memory.{Mem, tasks, edges, graph_in, held}
use Rattle.weak_rules.specs.Plans.{Result, result_of}
use Rattle.weak_rules.specs.Steps.{step}
use Rattle.weak_rules.specs.Begin.{begin}
use Rattle.weak_rules.proofs.Limits.{beyond-2}
use Rattle.weak_rules.proofs.Moves.{accepted-step}
use Rattle.weak_rules.proofs.Numbers.{other_step, other-begin}
use Rattle.runs.proofs.Waiting.{list-waits}
use Rattle.weak_algorithm.specs.Reading.{state_of}
use Rattle.weak_algorithm.proofs.Readings.{queue-at}
use Rattle.views.proofs.Numbers as numbers
use Rattle.weak_runs.specs.Calls.{weak_calls, accepted_steps, accepted_completes, Run, memory_of, events_of, graph_of, roots_of, view_of}
use Rattle.weak_runs.specs.Corollaries.{OneHolder, WaitingBehind, HeldBehind, NeverEarly, NoMore, OtherNumbers, BeyondLimits, AcceptedKept, HoldingOpen, NeverFull, Lightest}
use Rattle.weak_runs.specs.Demand.{Finished, copy_words, order_of, OneGraph}
use Rattle.weak_runs.proofs.Invariant.{meaning, system_in}
use Rattle.weak_runs.proofs.Calls.{graph-reached, tasks-reached, edges-reached}
use Rattle.weak_runs.proofs.Events.{entries-word, roots-word}
use Rattle.weak_runs.proofs.Honest.{honest-run}
use Rattle.weak_runs.proofs.Live.{honest-laws, honest-invariant, in-hand, entry_free}
use Rattle.weak_runs.proofs.Sums.{counters-add-up}
use Rattle.weak_runs.proofs.FixedWorkers.{fixed-workers}
use Rattle.weak_runs.proofs.Ranges.{undamaged}
use Rattle.weak_runs.proofs.Demand.{run_sound, run-once, recorded-words, finished-count, finished-order, order-agreed, demand-3}

before-as : {g g' : Graph} {b c : Copy} → g' ≡ g → Before g b c → Before g' b c
before-as q e = rw q e

module _ (r : Run) where
  abbrev now : Mem
  now = memory_of r

  -- no two workers hold copies of one task: they are all its worker's
  pub one-holder : OneHolder (view_of r)
  one-holder i j hi hj bi bj e =
      omega (arith, (fixed-workers r).in_hand i hi bi, (fixed-workers r).in_hand j hj bj, ap (λ (t : ℕ). get_or now.fixed t 0) e)

  abbrev done : List Copy
  done = (system_in r.workers r.slots now).stages.done

  words : done ≡ tabulate (accepted_completes (events_of r)) (copy_words now)
  words = recorded-words r ∙ ap (λ (n : ℕ). tabulate n (copy_words now)) (entries-word r)

  before_here : (b c : Copy) → Before (graph_of (view_of r)) b c → 0 < occ_of same_copy b ((copies_of (graph_in now)).preds c)
  before_here b c e = before-preds (graph_in now) (run_sound r) (before-as (graph-reached r) e)

  -- a copy waits, and a worker holds it, only behind all copies of its predecessor
  pub waiting-behind : WaitingBehind (view_of r)
  unfolding meaning state_of
  waiting-behind i j c b hi hj h e =
      recorded-word same_copy _ (copy_words now) done words b
      (progress.waiting-behind same_copy (copies_of (graph_in now)) (honest-laws (honest-run r)) r.workers {s = system_in r.workers r.slots now}
      (honest-invariant (honest-run r)) i c b hi
      (list-waits r.workers (state_of r.workers r.slots now).lists i same_copy c j hj (rw (queue-at r.workers r.slots now i j hi hj) h)) (before_here b c e))

  pub held-behind : HeldBehind (view_of r)
  unfolding meaning
  held-behind i b hi busy e =
      recorded-word same_copy _ (copy_words now) done words b
      (progress.held-behind same_copy (copies_of (graph_in now)) (honest-laws (honest-run r)) r.workers {s = system_in r.workers r.slots now}
      (honest-invariant (honest-run r)) i (held now i) b hi (in-hand (honest-run r) i hi busy) (before_here b (held now i) e))

-- finished runs of one graph record the same copies
pub same-copies : (r r' : Run) → OneGraph (view_of r) (view_of r') → Finished (view_of r) → Finished (view_of r') → (c : Copy) → occ_of same_copy c (order_of (view_of r)) ≡ occ_of same_copy c (order_of (view_of r'))
same-copies r r' o f f' c = (finished-order r f).once c ∙ sym ((order-agreed r r' o (finished-order r' f')).once c)

-- in an unfinished run too, the record has every copy behind all copies of its predecessor
pub never-early : (r : Run) → NeverEarly (view_of r)
never-early r x b h e =
    earlier_word same_copy _ (copy_words (memory_of r)) (done r) (words r) x b h
    (weak-order (graph_in (memory_of r)) (run_sound r) (run-once r) r.workers (honest-run r).weak b (copy_words (memory_of r) x) (before-as (graph-reached r) e)
    (word-recorded same_copy _ (copy_words (memory_of r)) (done r) (words r) x h))

-- "copies of one task may pass each other": the graph doesn't order them
pub copies-pass : (r : Run) (b c : Copy) → b.task ≡ c.task → Unordered (Before (graph_of (view_of r))) b c
copies-pass r b c e = rw (sym (graph-reached r)) (copies-unordered (graph_in (memory_of r)) (run_sound r) (honest-run r).graph.graph b c e)

-- a finished run accepts no further step, whatever the limits, P, K and worker
pub no_more : (r : Run) → Finished (view_of r) → NoMore (view_of r)
no_more r f limits p k i s a =
    omega (arith, (accepted-step limits p k i s (memory_of r) a).allowed.low, finished-count r f, edges-reached r, roots-word r)

-- N 0: "0 steps, begun is finished", whatever is called
pub nothing-finished : (r : Run) → ◌≡◌ {A = ℕ} (tasks r.lent) 0 → Finished (view_of r) × (◌≡◌ {A = ℕ} (accepted_steps (events_of r)) 0)
nothing-finished r none = (finished, omega (arith, no_edges, no-roots, (demand-3.one r).steps finished))
  where
    ends : EndsFit (graph_of (view_of r))
    ends = rw (graph-reached r) at (run_sound r).ends

    no_edges : ◌≡◌ {A = ℕ} (edges r.lent) 0
    no_edges = omega (arith, rw none at ends.last, ends.first)

    no-roots : ◌≡◌ {A = ℕ} (roots_of (view_of r)) 0
    no-roots =
        length-roots (graph_of (view_of r))
        ∙ sum-zero (tasks r.lent) (λ t. tally (ℕ_discrete (length (preds_of (graph_of (view_of r)) t)) 0)) (λ t h. absurd (omega (arith, h, none)))

    finished : Finished (view_of r)
    finished = record { completes = omega (arith, no_edges, no-roots) }

-- "A call with another P or K than begin's meets 2 or 1.", a step or a begin, at any time of the run and whatever its limits
pub other-numbers : (r : Run) → OtherNumbers (view_of r)
other-numbers r limits p k n = (
  other_step limits r.workers r.slots p k (memory_of r) (honest-run r).fits.lengths n,
  other-begin limits r.workers r.slots p k (memory_of r) (honest-run r).fits.lengths n,
)

-- a call beyond its limits is refused with 2 and leaves all words, a step or a begin, at any time of the run
pub beyond-limits : (r : Run) → BeyondLimits (view_of r)
beyond-limits r limits p k n = (
  λ i s. (ap (λ (x : Result WeakAnswer). step_says x.answer) (two.1 i s), ap (λ (x : Result WeakAnswer). x.memory) (two.1 i s)),
  (ap (λ (x : Result Answer). answer_says x.answer) two.0, ap (λ (x : Result Answer). x.memory) two.0),
)
  where
    two : (begin limits p k (memory_of r) ≡ result_of (Err BeyondLimit) (memory_of r))
        × ((i : ℕ) (s : Step) → step limits p k i s (memory_of r) ≡ result_of (Err BeyondLimit) (memory_of r))
    two = beyond-2 limits p k (memory_of r) (λ w. n (rw (sym (tasks-reached r), sym (edges-reached r)) w))

-- so the run keeps the limits of every step and begin that is accepted, whatever its P and K
pub accepted-kept : (r : Run) → AcceptedKept (view_of r)
accepted-kept r = numbers.accepted-kept weak_calls (view_of r) (other-numbers r) (beyond-limits r)

-- while a worker holds a copy, an entry is free for it
pub holding-open : (r : Run) → HoldingOpen (view_of r)
holding-open r i worker busy = omega (arith, entry_free (honest-run r) i worker busy, edges-reached r, roots-word r)

-- in memory begun and stepped by the engine Complete never meets 12, whatever the limits, P, K and worker
pub never-full : (r : Run) → NeverFull (view_of r)
never-full r limits p k i d = ((undamaged r).next limits p k i Complete).not_full d

pub lightest : (r : Run) → Lightest (view_of r)
unfolding load
lightest r i o us f = least-same (λ h l. sym ((counters-add-up r).words h l)) f.least
