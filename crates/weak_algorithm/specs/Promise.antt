-- PROMISE: every accepted weak step does what Algorithm 1 of source document 000 does on the split lists and counters, its open points settled in
-- document 02's No. 6: same target, same queue, same copy taken.
use Rattle.std.specs.Prelude.{ℕ, ◌≡◌}
use Rattle.task.specs.Refusals.{Said}
use Rattle.task.specs.Rows.{Acceptance}
use Rattle.task.specs.declared.Limits.{Limits}
use Rattle.task.specs.declared.Step.{Step}
use Rattle.weak_task.specs.Says.{outcome_says, step_says}
use Rattle.weak_task.specs.declared.WeakOutcome.{WeakOutcome}
use Rattle.ring.specs.Ring.{capacity}
use Rattle.weak_rules.specs.Memory.{Mem}
use Rattle.weak_rules.specs.Steps.{step}
use Rattle.weak_algorithm.specs.State.{State}
use Rattle.weak_algorithm.specs.Algorithm.{Does}
use Rattle.weak_algorithm.specs.Reading.{state_of}

pub record FollowsAlgorithm1 : Type 0 where
  -- of every P, K, worker, step and memory: where the step is accepted, the state after it and what it says are the algorithm's, with lists that
  -- hold K copies
  pub follows : (limits : Limits) (p k i : ℕ) (s : Step) (m : Mem) (said : Said) → step_says (step limits p k i s m).answer ≡ said → Acceptance said
      → (o : WeakOutcome) × (said ≡ outcome_says o) × Does p (capacity k) i s (state_of p k m) (state_of p k (step limits p k i s m).memory) o
  -- and the algorithm has only one step to make there
  pub determined : (p c i : ℕ) (s : Step) (a b b' : State) (o o' : WeakOutcome) → Does p c i s a b o → Does p c i s a b' o' → (b ≡ b') × (o ≡ o')
