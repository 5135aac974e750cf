-- An accepted step of a weak job is Algorithm 1's, whatever the lent memory holds.
use Prim.Native.Nat.{ℕ, ◌+◌, ◌≤◌}
use mathlib.Core.Path.{◌≡◌, sym, ◌∙◌}
use mathlib.Core.List.{List}
use native.Mathlib.Omega.{arith}
use Rattle.task.specs.Types.{nil, capped}
use Rattle.task.specs.Refusals.{Said}
use Rattle.task.specs.Rows.{Acceptance}
use Rattle.task.specs.declared.Limits.{Limits}
use Rattle.task.specs.declared.Step.{Step}
use Rattle.task.specs.declared.Step.TheVariants.{Fetch, Start, Complete, Release}
use Rattle.weak_task.specs.Says.{outcome_says, step_says}
use Rattle.weak_task.specs.declared.WeakOutcome.{WeakOutcome}
use Rattle.ring.specs.Ring.{capacity}
use Rattle.memory.specs.Field as list
use Rattle.memory.specs.Updates.{written}
use Rattle.plans.specs.Forms.{own}
use Rattle.plans.proofs.Forms.{own-chooses}
use Rattle.split_lists.specs.Items.{workload}
use Rattle.plans.specs.Sizes.{Fits}
use Rattle.weak_rules.specs.Memory.{Mem, accepted_in}
use Rattle.weak_rules.specs.Updates.{Update}
use Rattle.weak_rules.specs.Steps.{step}
use Rattle.weak_rules.specs.Plans.{with_count}
use Rattle.weak_rules.specs.Moves.{Allowed, AcceptedStep}
use Rattle.weak_rules.proofs.Moves.{accepted-step}
use Rattle.weak_algorithm.specs.Algorithm.{Lines, Does}
use Rattle.weak_algorithm.specs.Reading.{state_of}
use Rattle.weak_algorithm.specs.Promise.{FollowsAlgorithm1}
use Rattle.weak_algorithm.proofs.Readings.{workload-at}
use Rattle.weak_algorithm.proofs.Fetched.{fetch-does, start-does}
use Rattle.weak_algorithm.proofs.Completed.{complete-does}
use Rattle.weak_algorithm.proofs.Released.{release-does}
use Rattle.weak_algorithm.proofs.Unique.{does-one}

-- at most 16 workers, so no worker's number is NIL
few-workers : (limits : Limits) (p k : ℕ) (m : Mem) → Fits limits p k m → p ≤ nil.0
unfolding capped
few-workers limits p k m fits = omega (arith, fits.limits.few_workers)

module _ (limits : Limits) (p k i : ℕ) where
  made-lines : (s : Step) (m : Mem) (o : WeakOutcome) (us : List Update) → Allowed limits p k i s m o us
      → Lines p (capacity k) i s (state_of p k m) (state_of p k (written (with_count m us) m)) o
  made-lines Fetch m o us a = fetch-does limits p k i m a.fits a.worker (accepted_in m + 1) o us a.phase a.made
  made-lines Start m o us a = start-does limits p k i m a.fits a.worker (accepted_in m + 1) o us a.phase a.made
  made-lines Complete m o us a = complete-does limits p k i m a.fits a.worker a.roots (accepted_in m + 1) o us a.phase a.made
  made-lines Release m o us a =
      release-does (own p m) (workload p (state_of p k m).lists) limits p k i m (own-chooses p m a.fits.limits.one_worker (a.fits.lengths.list list.counters))
      (workload-at p k m) a.fits a.worker (accepted_in m + 1) o us a.phase a.made

  module _ (s : Step) (m : Mem) where
    -- a step that is allowed, with what it answers and writes
    pub made-does : (o : WeakOutcome) (us : List Update) → Allowed limits p k i s m o us
        → Does p (capacity k) i s (state_of p k m) (state_of p k (written (with_count m us) m)) o
    made-does o us a =
        record {
          thread = a.worker;
          few = few-workers limits p k m a.fits;
          lines = made-lines s m o us a;
        }

    pub step-does : (r : AcceptedStep limits p k i s m) → Does p (capacity k) i s (state_of p k m) (state_of p k (step limits p k i s m).memory) r.outcome
    step-does r = rw r.left (made-does r.outcome r.updates r.allowed)

    accepted-does : (said : Said) → step_says (step limits p k i s m).answer ≡ said → Acceptance said
        → (o : WeakOutcome) × (said ≡ outcome_says o) × Does p (capacity k) i s (state_of p k m) (state_of p k (step limits p k i s m).memory) o
    accepted-does said e a =
        let r : AcceptedStep limits p k i s m = accepted-step limits p k i s m (rw e a) in
        (r.outcome, sym e ∙ r.answered, step-does r)

pub follows-algorithm1 : FollowsAlgorithm1
follows-algorithm1 = record { follows = accepted-does; determined = does-one }
