-- PROMISE: no step writes weights or tables, and lists of the stated lengths keep them.
use Prim.Native.Nat.{ℕ}
use mathlib.Core.Path.{◌≡◌, refl}
use mathlib.Core.Bool.{true}
use mathlib.Core.Logic.{◌⊎◌, inl, inr}
use mathlib.Core.List.{List}
use Rattle.task.specs.declared.Limits.{Limits}
use Rattle.task.specs.declared.Step.{Step}
use Rattle.task.specs.declared.Step.TheVariants.{Fetch, Start, Complete, Release}
use Rattle.task.specs.declared.StepOutcome.{StepOutcome}
use Rattle.memory.specs.Updates.{spares}
use Rattle.plans.proofs.Kept.{kept-none, spares_graph, kept-written}
pub use Rattle.plans.proofs.Kept.{SameGraph, Kept, same_graph, fits_kept}
use Rattle.rules.specs.Memory.{Mem}
use Rattle.rules.specs.Updates.{Update}
use Rattle.rules.specs.Steps.{step}
use Rattle.rules.specs.Plans.{with_count}
use Rattle.rules.specs.Moves.{sink, inner, waiting, placed, Made, AcceptedStep}
use Rattle.rules.proofs.Moves.{accepted-or-same}

made-spares : (s : Step) (p k i : ℕ) (m : Mem) (o : StepOutcome) (us : List Update) → Made s p k i m o us → spares_graph (with_count m us) ≡ true
unfolding spares_graph spares
made-spares Fetch p k i m o us f = rw f.updates refl
made-spares Start p k i m o us f = rw f.updates refl
made-spares Complete p k i m o us (sink f) = rw f.updates refl
made-spares Complete p k i m o us (inner f) = rw f.updates refl
made-spares Release p k i m o us (waiting f) = rw f.updates refl
made-spares Release p k i m o us (placed f) = rw f.updates refl

pub step_keeps : (limits : Limits) (p k i : ℕ) (s : Step) (m : Mem) → Kept m (step limits p k i s m).memory
step_keeps limits p k i s m = go (accepted-or-same limits p k i s m)
  where
    go : AcceptedStep limits p k i s m ⊎ ((step limits p k i s m).memory ≡ m) → Kept m (step limits p k i s m).memory
    go (inl r) = rw r.left (kept-written (with_count m r.updates) m (made-spares s p k i m r.outcome r.updates r.allowed.made))
    go (inr e) = rw e (kept-none m)
