-- No counter goes beyond what has been placed: after an accepted begin, and after each step of Algorithm 1 if none did before. Each task's weight
-- joins once and leaves once.
use Prim.Native.Nat.{ℕ}
use mathlib.Core.Path.{◌≡◌}
use Rattle.task.specs.Types.{nil}
use Rattle.task.specs.Refusals.{answer_says, accepted}
use Rattle.task.specs.declared.Limits.{Limits}
use Rattle.task.specs.declared.Step.{Step}
use Rattle.task.specs.declared.StepOutcome.{StepOutcome}
use Rattle.rules.specs.Memory.{Mem}
use Rattle.rules.specs.Begin.{begin}
use Rattle.algorithm1.specs.State.{State, weight_of}
use Rattle.algorithm1.specs.Algorithm.{Does}
use Rattle.algorithm1.specs.Reading.{state_of}
use Rattle.runs.proofs.Invariant.{Shaped}
use Rattle.runs.proofs.ItemBounds as items
use Rattle.runs.proofs.ItemBounds.{own-bounded, changes-bounded}
use Rattle.runs.proofs.Counters.{same-weights, does-changes, does-weighs, begun-own-weights}

-- the tasks weigh what the state says
abbrev pub Bounded : ℕ → State → Type 0
Bounded p s = items.Bounded nil.0 (weight_of s) p s

pub does-bounded : (p capacity i : ℕ) (s s' : State) (o : StepOutcome) → Shaped p s → (step : Step) → Does p capacity i step s s' o
    → Bounded p s → Bounded p s'
does-bounded p capacity i s s' o shaped step d b =
    same-weights s s' (does-weighs p capacity i s s' o shaped step d) (λ w. items.Bounded nil.0 w p s')
    (changes-bounded (does-changes p capacity i s s' o shaped step d) b)

pub begun-bounded : (limits : Limits) (p k : ℕ) (m : Mem) → answer_says (begin limits p k m).answer ≡ accepted
    → Bounded p (state_of p k (begin limits p k m).memory)
begun-bounded limits p k m e = own-bounded nil.0 _ p (state_of p k (begin limits p k m).memory) (begun-own-weights limits p k m e)
