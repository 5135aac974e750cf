-- What the four steps share: how an admission is taken apart, the row that goes back, the accepted word, the result.
use Prim.Native.Nat.{ℕ, ◌+◌, ◌*◌, ◌≤◌, ◌<◌}
use mathlib.Core.Path.{◌≡◌, refl, sym, ◌∙◌, ap, subst}
use mathlib.Core.List.{List}
use native.Mathlib.Omega.{arith}
use lib.ListN.{get_or, set}
use lib.Seq.{set-get_or}
use borrow.Author.Tests.{lt-ltb, le-ltb}
use Rattle.std.specs.Prelude.{Err, Ok}
use Rattle.task.specs.declared.refusal.Refusal.{Refusal}
use Rattle.task.specs.declared.refusal.Refusal.TheVariants.{Damaged}
use Rattle.lists.proofs.Apart.{unequal}
use Rattle.task.specs.Types.{idle}
use Rattle.task.specs.Refusals.{Answer}
use Rattle.task.specs.Phases.{suits, next_phase}
use Rattle.task.specs.declared.Limits.{Limits}
use Rattle.task.specs.declared.Row.{Row}
use Rattle.task.specs.declared.Step.{Step}
use Rattle.task.specs.declared.StepOutcome.{StepOutcome}
use Rattle.memory.specs.Updates.{written}
use Rattle.rules.specs.Memory.{Mem, all_steps, row_in, accepted_in}
use Rattle.rules.specs.Words.{phase_fits}
use Rattle.rules.specs.Updates.{Update}
use Rattle.rules.specs.Plans.{Plan, refuse, accept, checked, suited, with_count, counted, result_of, carried_out}
use Rattle.rules.specs.Steps.{rule_of, step_plan, step}
use Rattle.plans.proofs.Headers.{headed-judged, fits-are}
use Rattle.admission.specs.Admission.{sizes_of, Judges, Measured, Knows, Admitted, entered, Allows, Admits, Enters, Stepped, row_after, rows_after}
use Rattle.admission.specs.declared.Sizes.{Sizes}

-- what `admit` has told of the worker with this row, after what was judged
module _ (row : Row) (s : Step) where
  pub admission-entered : (j : Answer) (r : Admitted) → Admits row s j r → (row' : Row) → r ≡ Ok row' → (row.phase ≡ suits s) × (row' ≡ entered s row)
  admission-entered (Err why) r told row' v = unequal cc
  admission-entered (Ok u) r told row' v = (subst (Allows row s) v told).1

module _ (p k i : ℕ) (sizes : Sizes) (row : Row) (s : Step) where
  pub admission-measured : (j : Answer) → Knows p k i sizes j → (r : Admitted) → Admits row s j r → (row' : Row) → r ≡ Ok row' → Measured p k i sizes
  admission-measured (Err why) known r told row' v = unequal cc
  admission-measured (Ok u) known r told row' v = known

  module _ (limits : Limits) (m : Mem) (e : sizes_of m ≡ sizes) (h : row_in m i ≡ row) where
    module _ (judges : Judges limits p k i sizes (Ok tt)) where
      reached : step_plan limits p k i s m ≡ checked (phase_fits row.phase) (suited (next_phase row.phase s) row.phase (rule_of s p k i m))
      unfolding step_plan
      reached =
          headed-judged limits p k i s m (rule_of s p k i m) (judges.0 m e).0 (judges.0 m e).1 judges.1
          ∙ ap (λ (x : Row). checked (phase_fits x.phase) (suited (next_phase x.phase s) x.phase (rule_of s p k i m))) h

      allowed-enters : (row' : Row) → Allows row s (Ok row') → Enters limits p k i s m row'
      allowed-enters row' (a, (q, w)) =
          record {
            follows = reached ∙ a (rule_of s p k i m);
            fits = fits-are limits p k m (judges.0 m e).0 (judges.0 m e).1;
            worker = judges.1;
            phase = ap (λ (x : Row). x.phase) h ∙ q;
            leads = rw h w;
          }

    pub admission-refused : (j : Answer) → Judges limits p k i sizes j → (r : Admitted) → Admits row s j r
        → (why : Refusal) → r ≡ Err why → step_plan limits p k i s m ≡ refuse why
    admission-refused (Err why') judges r told why v = judges s m e ∙ same (sym told ∙ v)
      where
        same : ◌≡◌ {A = Admitted} (Err why') (Err why) → ◌≡◌ {A = Plan} (refuse why') (refuse why)
        same q = cc
    admission-refused (Ok u) judges r told why v = reached judges ∙ subst (Allows row s) v told (rule_of s p k i m)

    pub admission-enters : (j : Answer) → Judges limits p k i sizes j → (r : Admitted) → Admits row s j r
        → (row' : Row) → r ≡ Ok row' → Enters limits p k i s m row'
    admission-enters (Err why) judges r told row' v = unequal cc
    admission-enters (Ok u) judges r told row' v = allowed-enters judges row' (subst (Allows row s) v told)

-- "accepted word 3N+E or more" is damaged, so what joins the word is small
pub few-steps : (p k i : ℕ) (sizes : Sizes) → Measured p k i sizes → 3 * sizes.weights + sizes.preds ≤ 11264
few-steps p k i sizes f = omega (arith, f.few_tasks, f.few_edges)

-- the accepted word, judged by the lengths
module _ (sizes : Sizes) (m : Mem) (e : sizes_of m ≡ sizes) (o : StepOutcome) (us : List Update) where
  steps-are : all_steps m ≡ 3 * sizes.weights + sizes.preds
  unfolding all_steps
  steps-are = rw (← e) refl

  pub count-refused : 3 * sizes.weights + sizes.preds ≤ accepted_in m → counted m o us ≡ refuse Damaged
  unfolding counted
  count-refused h = rw (le-ltb (accepted_in m) (all_steps m) (rw steps-are h))

  pub count-accepted : accepted_in m < 3 * sizes.weights + sizes.preds → counted m o us ≡ accept o (with_count m us)
  unfolding counted
  count-accepted h = rw (lt-ltb (accepted_in m) (all_steps m) (rw steps-are h))

-- a step's end, by the plan that the step has come to
module _ (limits : Limits) (p k i : ℕ) (s : Step) (m : Mem) where
  pub refused-result : (why : Refusal) → step_plan limits p k i s m ≡ refuse why → result_of (Err why) m ≡ step limits p k i s m
  unfolding step carried_out
  refused-result why e = rw e refl

  pub accepted-result : (o : StepOutcome) (us : List Update) → step_plan limits p k i s m ≡ accept o us
      → result_of (Ok o) (written us m) ≡ step limits p k i s m
  unfolding step carried_out
  accepted-result o us e = rw e refl

  -- the same by the rule of an admitted step
  module _ (row : Row) (enters : Enters limits p k i s m row) where
    pub rule-refused : (why : Refusal) → rule_of s p k i m ≡ refuse why → result_of (Err why) m ≡ step limits p k i s m
    rule-refused why e = refused-result why (enters.follows ∙ e)

    pub rule-accepted : (o : StepOutcome) (us : List Update) → rule_of s p k i m ≡ accept o us
        → result_of (Ok o) (written us m) ≡ step limits p k i s m
    rule-accepted o us e = accepted-result o us (enters.follows ∙ e)

-- the row that is there, stored back, changes nothing, also where i is no worker
pub row-stored : (rows : List Row) (i : ℕ) (row : Row) → row ≡ get_or rows i idle → (a : Stepped) → set rows i (row_after row a) ≡ rows_after rows i a
row-stored rows i row h (Err why) = rw h (set-get_or rows i idle)
row-stored rows i row h (Ok (o, row')) = refl
