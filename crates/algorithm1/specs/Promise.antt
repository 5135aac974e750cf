-- PROMISE: "Every accepted step does what Algorithm 1 of source document 001 does with its split lists and counters, its open points settled in document
-- 01: same target, same queue, same task taken.", with its subtraction (line 16) moved to Complete (document 02, No. 3)
-- and its full test replaced (No. 5).
use Rattle.std.specs.Prelude.{ℕ, ◌≡◌}
use Rattle.task.specs.Refusals.{Said, outcome_says, step_says}
use Rattle.task.specs.Rows.{Acceptance}
use Rattle.task.specs.declared.Limits.{Limits}
use Rattle.task.specs.declared.Step.{Step}
use Rattle.task.specs.declared.StepOutcome.{StepOutcome}
use Rattle.ring.specs.Ring.{capacity}
use Rattle.rules.specs.Memory.{Mem}
use Rattle.rules.specs.Steps.{step}
use Rattle.algorithm1.specs.State.{State}
use Rattle.algorithm1.specs.Algorithm.{Does}
use Rattle.algorithm1.specs.Reading.{state_of}

pub record FollowsAlgorithm1 : Type 0 where
  -- of every P, K, worker, step and memory: where the step is accepted, the state after it and what it says are the algorithm's, with lists
  -- that hold K tasks: "The published full test is replaced by this one in every comparison."
  pub follows : (limits : Limits) (p k i : ℕ) (s : Step) (m : Mem) (said : Said) → step_says (step limits p k i s m).answer ≡ said → Acceptance said
      → (o : StepOutcome) × (said ≡ outcome_says o) × Does p (capacity k) i s (state_of p k m) (state_of p k (step limits p k i s m).memory) o
  -- and the algorithm has only one step to make there
  pub determined : (p c i : ℕ) (s : Step) (a b b' : State) (o o' : StepOutcome) → Does p c i s a b o → Does p c i s a b' o' → (b ≡ b') × (o ≡ o')
