-- Every run can be finished.
use Rattle.std.specs.Prelude.{ℕ, ◌+◌, ◌≡◌, List, [], ◌∷◌, length}
use Rattle.task.specs.declared.Limits.{Limits}
use Rattle.task.specs.declared.Step.{Step}
use Rattle.machine.specs.Machine.{Machine}
use Rattle.machine.specs.Runs.{View, Run, longer}
use Rattle.machine.specs.Jobs.{Call, accepted_steps}

module _ {C : Type 0} (step_by : Limits → (p k worker : ℕ) → Step → C) where
  -- steps with these limits, P and K
  abbrev pub StepsWith : Limits → ℕ → ℕ → List C → Type 0
  StepsWith limits p k [] = Unit {0}
  StepsWith limits p k (c ∷ cs) = ((i : ℕ) × (s : Step) × (c ≡ step_by limits p k i s)) × StepsWith limits p k cs

-- of a machine with the calls begin and step, of what its runs show, and of what it is that one is finished
module _ {M N C : Type 0} (on : Machine M C) (begin_by : Limits → (p k : ℕ) → C) (step_by : Limits → (p k worker : ℕ) → Step → C)
    (shows : Run on begin_by → View N Call) (Finished : View N Call → Type 0) where
  -- PROMISE: beside "in an unfinished one some worker has a step that would be accepted next": such steps lead to the end. From every run, whatever
  -- its limits, P, K and calls so far, some further steps finish it, all of them with the same limits, whichever the run keeps.
  pub record CanFinish (limits : Limits) (r : Run on begin_by) : Type 0 where
    pub further : List C
    pub alike : StepsWith step_by limits r.workers r.slots further
    -- each is accepted, and a step of this run: an accepted begin would start another, whose steps are counted from 0
    pub taken : accepted_steps (shows (longer on begin_by r further)).events ≡ accepted_steps (shows r).events + length further
    pub finishes : Finished (shows (longer on begin_by r further))
