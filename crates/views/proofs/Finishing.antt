-- Every run can be finished, in every family in which an unfinished run has a step that is accepted next and no run more accepted steps than a number that
-- the lent words tell.
use Prim.Native.Nat.{ℕ, suc, ◌<◌}
use mathlib.Core.Path.{◌≡◌, refl, sym, ap, ◌∙◌, subst}
use mathlib.Core.List.{[], ◌∷◌}
use native.Mathlib.Omega.{arith}
use Rattle.task.specs.Rows.{Acceptance}
use Rattle.task.specs.declared.Limits.{Limits}
use Rattle.task.specs.declared.Step.{Step}
use Rattle.machine.specs.Machine.{accepted_of, recalled, events_after}
use Rattle.machine.specs.Runs.{View}
use Rattle.machine.specs.Jobs.{Call, step_call, begin_call, accepted_steps, Engine, machine_of, Run, begun_of, memory_of, events_of, view_of, longer}
use Rattle.machine.proofs.Lists.{events-on}
use Rattle.machine.proofs.Jobs.{step-began}
use Rattle.machine.proofs.Finishing.{longer-none, longer-longer, to_the_end}
use Rattle.memory.specs.Family.{Family}
use Rattle.memory.specs.Memory.{Mem}
use Rattle.views.specs.Graphs.{KeptBy}
use Rattle.views.specs.Finishing.{CanFinish}
use Rattle.views.proofs.Recounts.{said-accepted}

module _ {F : Family} (on : Engine (Mem F)) where
  -- a step of the run's own P and K is accepted next
  abbrev Accepts : Limits → Run on → ℕ → Step → Type 0
  Accepts limits r i s = Acceptance (on.step_says limits r.workers r.slots i s (memory_of on r))

  -- the run with one more accepted step counts one more
  one_more : (limits : Limits) (r : Run on) (i : ℕ) (s : Step) → Accepts limits r i s
      → accepted_steps (events_of on (longer on r (step_call limits r.workers r.slots i s ∷ []))) ≡ suc (accepted_steps (events_of on r))
  unfolding events_after recalled accepted_of
  one_more limits r i s a =
      ap accepted_steps (events-on (machine_of on) r.calls (c ∷ []) (begun_of on r) [])
      ∙ rw (step-began on limits r.workers r.slots (memory_of on r) i s)
      (rw (said-accepted (on.step_says limits r.workers r.slots i s (memory_of on r)) a) refl)
    where
      c : Call
      c = step_call limits r.workers r.slots i s

  module _ (Finished : View (Mem F) Call → Type 0) where
    abbrev Can : Limits → Run on → Type 0
    Can = CanFinish (machine_of on) begin_call step_call (view_of on) Finished

    at-end : (limits : Limits) (r : Run on) → Finished (view_of on r) → Can limits r
    at-end limits r f =
        record {
          further = [];
          alike = tt;
          taken = omega (arith, ap (λ (x : Run on). accepted_steps (events_of on x)) (longer-none on r));
          finishes = subst (λ (x : Run on). Finished (view_of on x)) (sym (longer-none on r)) f;
        }

    -- a step, and then the others
    step-first : (limits : Limits) (r : Run on) (i : ℕ) (s : Step) → Accepts limits r i s
        → Can limits (longer on r (step_call limits r.workers r.slots i s ∷ [])) → Can limits r
    step-first limits r i s a rest =
        record {
          further = c ∷ rest.further;
          alike = ((i, s, refl), rest.alike);
          taken = omega (arith, ap (λ (x : Run on). accepted_steps (events_of on x)) same, rest.taken, one_more limits r i s a);
          finishes = subst (λ (x : Run on). Finished (view_of on x)) same rest.finishes;
        }
      where
        c : Call
        c = step_call limits r.workers r.slots i s

        same : longer on (longer on r (c ∷ [])) rest.further ≡ longer on r (c ∷ rest.further)
        same = longer-longer on r (c ∷ []) rest.further

    -- `most` bounds the steps of a run
    module _ (finished? : (v : View (Mem F) Call) → Dec (Finished v)) (most : Mem F → ℕ)
        (next : (r : Run on) → ¬ (Finished (view_of on r)) → (limits : Limits) → KeptBy limits (view_of on r)
        → (i : ℕ) × (s : Step) × (i < r.workers) × Accepts limits r i s)
        (below : (limits : Limits) (r : Run on) (i : ℕ) (s : Step) → Accepts limits r i s → accepted_steps (events_of on r) < most r.lent) where
      pub can-finish : (limits : Limits) (r : Run on) → KeptBy limits (view_of on r)
          → CanFinish (machine_of on) begin_call step_call (view_of on) Finished limits r
      can-finish limits =
          to_the_end on limits most (λ r. Finished (view_of on r)) (λ r. KeptBy limits (view_of on r)) (Can limits) (λ r. finished? (view_of on r)) (λ r cs w. w)
          (λ r w u. let (i, s, _, a) = next r u limits w in (i, s, a)) (one_more limits) (below limits) (at-end limits) (step-first limits)
