-- "fixes the task's worker": until another begin no call writes the fixed word of a task that has a worker, since Release alone writes such words, and
-- of tasks without one.
use Prim.Native.Nat.{ℕ, suc, ◌≤◌, ◌<◌}
use mathlib.Core.Path.{◌≡◌, refl, ap, ◌∙◌}
use mathlib.Core.Bool.{Bool, true, false, cond}
use mathlib.Core.List.{List, [], ◌∷◌}
use native.Mathlib.Omega.{arith}
use lib.Seq.{get_or-set_other}
use Rattle.lists.proofs.Apart.{unequal}
use Rattle.task.specs.Types.{nil, capped}
use Rattle.task.specs.declared.Limits.{Limits}
use Rattle.task.specs.declared.Step.{Step}
use Rattle.task.specs.declared.Step.TheVariants.{Fetch, Start, Complete, Release}
use Rattle.weak_task.specs.declared.WeakOutcome.{WeakOutcome}
use Rattle.memory.specs.Updates.{updated, written}
use Rattle.machine.specs.Machine.{event_of, began, begins, memory_after}
use Rattle.machine.proofs.Jobs as jobs
use Rattle.machine.proofs.Jobs.{stays, steps, starts, Did}
use Rattle.machine.proofs.Lists.{memory-on}
use Rattle.plans.specs.Sizes.{Lengths}
use Rattle.weak_rules.specs.Memory.{Mem, fixed_in}
use Rattle.weak_rules.specs.Updates.{Update}
use Rattle.weak_rules.specs.Plans.{with_count}
use Rattle.weak_rules.specs.Steps.{step}
use Rattle.weak_rules.specs.Moves.{copies, sink, inner, first, later, Made, AcceptedStep}
use Rattle.weak_rules.proofs.Moves.{accepted-step}
use Rattle.weak_runs.specs.Calls.{Call, weak_calls, weak, Run, memory_of, longer}
use Rattle.weak_runs.proofs.Calls.{weak-laws}
use Rattle.weak_runs.proofs.Events.{lengths-reached}

-- a step that is made leaves the fixed word of a task with a worker
fixed_made : (p k i : ℕ) (m : Mem) (o : WeakOutcome) (us : List Update) (t : ℕ) → p ≤ nil.0 → fixed_in m t < p → (s : Step) → Made s p k i m o us
    → fixed_in (written (with_count m us) m) t ≡ fixed_in m t
unfolding written updated
fixed_made p k i m o us t few below Fetch f = rw f.updates refl
fixed_made p k i m o us t few below Start f = rw f.updates refl
fixed_made p k i m o us t few below Complete (copies f) = rw f.updates refl
fixed_made p k i m o us t few below Complete (sink f) = rw f.updates refl
fixed_made p k i m o us t few below Complete (inner f) = rw f.updates refl
fixed_made p k i m o us t few below Release (first f) =
    rw f.updates (get_or-set_other m.fixed _ t f.owner 0 (λ e. omega (arith, below, few, f.first, ap (fixed_in m) e)))
fixed_made p k i m o us t few below Release (later f) = rw f.updates refl

step_stays : (limits : Limits) (p k i : ℕ) (s : Step) (m : Mem) (t : ℕ) → AcceptedStep limits p k i s m → fixed_in m t < p
    → fixed_in (step limits p k i s m).memory t ≡ fixed_in m t
unfolding capped
step_stays limits p k i s m t r below =
    ap (λ (m' : Mem). fixed_in m' t) r.left
    ∙ fixed_made p k i m r.outcome r.updates t (omega (arith, r.allowed.fits.limits.few_workers)) below s r.allowed.made

-- a count that is 0 has counted nothing
none-counted : (b : Bool) (n : ℕ) → ◌≡◌ {A = ℕ} (cond b (suc n) n) 0 → ¬ (b ≡ true) × (n ≡ 0)
none-counted true n e = absurd (omega (arith, e))
none-counted false n e = ((λ q. unequal cc), e)

module _ (p k t : ℕ) where
  call_stays : (c : Call) (m : Mem) → Did weak_calls p k m c → ¬ (began weak (event_of weak c m) ≡ true) → fixed_in m t < p
      → fixed_in (weak.leaves c m) t ≡ fixed_in m t
  call_stays c m (stays _ q e) none below = ap (λ (m' : Mem). fixed_in m' t) e
  call_stays _ m (steps limits i s a) none below = step_stays limits p k i s m t (accepted-step limits p k i s m a) below
  call_stays _ m (starts limits e) none below = absurd (none (jobs.begin-began weak_calls limits p k m e))

  stays_after : (cs : List Call) (m : Mem) → Lengths p k m → ◌≡◌ {A = ℕ} (begins weak cs m) 0 → fixed_in m t < p
      → fixed_in (memory_after weak cs m) t ≡ fixed_in m t
  unfolding memory_after begins
  stays_after [] m fit none below = refl
  stays_after (c ∷ cs) m fit none below =
      stays_after cs (weak.leaves c m) (jobs.fit-kept weak-laws p k m fit c) parts.1 (rw same below) ∙ same
    where
      parts : ¬ (began weak (event_of weak c m) ≡ true) × (begins weak cs (weak.leaves c m) ≡ 0)
      parts = none-counted (began weak (event_of weak c m)) (begins weak cs (weak.leaves c m)) none

      same : fixed_in (weak.leaves c m) t ≡ fixed_in m t
      same = call_stays c m (jobs.did weak-laws p k m fit c) parts.0 below

pub fixed-stays : (r : Run) (further : List Call) (t : ℕ) → ◌≡◌ {A = ℕ} (begins weak further (memory_of r)) 0 → fixed_in (memory_of r) t < r.workers
    → fixed_in (memory_of (longer r further)) t ≡ fixed_in (memory_of r) t
fixed-stays r further t none below =
    ap (λ (m : Mem). fixed_in m t) (memory-on weak r.calls further _)
    ∙ stays_after r.workers r.slots t further (memory_of r) (lengths-reached r) none below
