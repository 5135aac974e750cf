-- An accepted step of document 01 is Algorithm 1's, whatever the lent memory holds.
use Prim.Native.Nat.{ℕ, ◌+◌}
use mathlib.Core.Path.{◌≡◌, sym, ◌∙◌}
use mathlib.Core.List.{List}
use Rattle.task.specs.Refusals.{Said, outcome_says, step_says}
use Rattle.task.specs.Rows.{Acceptance}
use Rattle.task.specs.declared.Limits.{Limits}
use Rattle.task.specs.declared.Step.{Step}
use Rattle.task.specs.declared.Step.TheVariants.{Fetch, Start, Complete, Release}
use Rattle.task.specs.declared.StepOutcome.{StepOutcome}
use Rattle.ring.specs.Ring.{capacity}
use Rattle.memory.specs.Field as list
use Rattle.memory.specs.Updates.{written}
use Rattle.plans.specs.Forms.{own}
use Rattle.plans.proofs.Forms.{own-chooses}
use Rattle.rules.specs.Memory.{Mem, accepted_in}
use Rattle.rules.specs.Updates.{Update}
use Rattle.rules.specs.Steps.{step}
use Rattle.rules.specs.Plans.{with_count}
use Rattle.rules.specs.Moves.{Allowed, AcceptedStep}
use Rattle.rules.proofs.Moves.{accepted-step}
use Rattle.algorithm1.specs.State.{workload}
use Rattle.algorithm1.specs.Algorithm.{Lines, Does}
use Rattle.algorithm1.specs.Reading.{state_of}
use Rattle.algorithm1.specs.Promise.{FollowsAlgorithm1}
use Rattle.algorithm1.proofs.Readings.{workload-at}
use Rattle.algorithm1.proofs.Fetched.{fetch-does, start-does}
use Rattle.algorithm1.proofs.Completed.{complete-does}
use Rattle.algorithm1.proofs.Released.{release-does}
use Rattle.algorithm1.proofs.Unique.{does-one}

module _ (limits : Limits) (p k i : ℕ) where
  made-lines : (s : Step) (m : Mem) (o : StepOutcome) (us : List Update) → Allowed limits p k i s m o us
      → Lines p (capacity k) i s (state_of p k m) (state_of p k (written (with_count m us) m)) o
  made-lines Fetch m o us a = fetch-does limits p k i m a.fits a.worker (accepted_in m + 1) o us a.phase a.made
  made-lines Start m o us a = start-does limits p k i m a.fits a.worker (accepted_in m + 1) o us a.phase a.made
  made-lines Complete m o us a = complete-does limits p k i m a.fits a.worker (accepted_in m + 1) o us a.phase a.made
  made-lines Release m o us a =
      release-does (own p m) (workload p (state_of p k m)) limits p k i m (own-chooses p m a.fits.limits.one_worker (a.fits.lengths.list list.counters))
      (workload-at p k m) a.fits a.worker (accepted_in m + 1) o us a.phase a.made

  module _ (s : Step) (m : Mem) where
    pub step-does : (r : AcceptedStep limits p k i s m) → Does p (capacity k) i s (state_of p k m) (state_of p k (step limits p k i s m).memory) r.outcome
    step-does r =
        record {
          thread = r.allowed.worker;
          lines = rw r.left (made-lines s m r.outcome r.updates r.allowed);
        }

    accepted-does : (said : Said) → step_says (step limits p k i s m).answer ≡ said → Acceptance said
        → (o : StepOutcome) × (said ≡ outcome_says o) × Does p (capacity k) i s (state_of p k m) (state_of p k (step limits p k i s m).memory) o
    accepted-does said e a =
        let r : AcceptedStep limits p k i s m = accepted-step limits p k i s m (rw e a) in
        (r.outcome, sym e ∙ r.answered, step-does r)

pub follows-algorithm1 : FollowsAlgorithm1
follows-algorithm1 = record { follows = accepted-does; determined = does-one }
