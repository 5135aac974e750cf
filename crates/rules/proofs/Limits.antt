-- PROMISES: what a call's own limits decide, and that the preview's calls follow the table in the preview's figures.
use Prim.Native.Nat.{ℕ}
use mathlib.Core.Path.{◌≡◌, refl}
use mathlib.Core.Bool.{Bool, true, false, ◌&&◌}
use mathlib.Core.Logic.{◌⊎◌, inl, inr}
use lib.ListN.{drop}
use Rattle.std.specs.Prelude.{Err}
use Rattle.task.specs.declared.refusal.Refusal.TheVariants.{BeyondLimit}
use Rattle.lists.proofs.Told.{Told, told-true, told-false, told-pass, told-fail}
use Rattle.task.specs.Types.{engine, preview, capped}
use Rattle.task.specs.Refusals.{answer_says, step_says}
use Rattle.task.specs.Rows.{Follows}
use Rattle.task.proofs.Rows.{same_rows, follows_same}
use Rattle.task.specs.declared.Limits.{Limits}
use Rattle.task.specs.declared.Step.{Step}
use Rattle.graph.specs.Check.{sizes_fit, check_answer}
use Rattle.graph.specs.Tables.{Beyond}
use Rattle.rules.specs.Memory.{Mem, tasks, edges}
use Rattle.rules.specs.Sizes.{KeepsLimits, numbers_fit}
use Rattle.rules.specs.Plans.{result_of, carried_out}
use Rattle.rules.specs.Steps.{step_plan, step}
use Rattle.rules.specs.Begin.{begin_answer, begin}
use Rattle.rules.specs.Tables.{BeyondPK, begin_rows, step_rows}
use Rattle.rules.specs.Limits.{BeyondPreview, preview_begin_rows, preview_step_rows}
use Rattle.plans.proofs.Headers.{limits-told, kept, not_beyond}
pub use Rattle.plans.proofs.Headers.{within-engine}
use Rattle.rules.proofs.Follows.{step_follows}
use Rattle.rules.proofs.Begin.{begin-follows}

module _ (l : Limits) (p k : ℕ) (m : Mem) where
  abbrev Kept : Type 0
  Kept = KeepsLimits l p k (tasks m) (edges m)

  -- the test of begin and the steps
  abbrev test : Bool
  test = numbers_fit l p k && sizes_fit l (tasks m) (edges m)

  passes : Kept → test ≡ true
  passes w = told-pass (limits-told l p k m) (not_beyond l p k m w)

  refused-with-2 : test ≡ false → (begin l p k m ≡ result_of (Err BeyondLimit) m) × ((i : ℕ) (s : Step) → step l p k i s m ≡ result_of (Err BeyondLimit) m)
  unfolding begin begin_answer check_answer step step_plan carried_out
  refused-with-2 e = (rw e, λ i s. rw e)

  -- PROMISE: where N, E, P and K don't keep a call's limits, it is refused with 2 first of all and writes nothing
  pub beyond-2 : ¬ (KeepsLimits l p k (tasks m) (edges m))
      → (begin l p k m ≡ result_of (Err BeyondLimit) m) × ((i : ℕ) (s : Step) → step l p k i s m ≡ result_of (Err BeyondLimit) m)
  beyond-2 n = refused-with-2 (told-fail (limits-told l p k m) (λ f. n (kept l p k m f)))

module _ (l l' : Limits) (p k : ℕ) (m : Mem) where
  both-pass : test l p k m ≡ true → test l' p k m ≡ true → (begin l p k m ≡ begin l' p k m) × ((i : ℕ) (s : Step) → step l p k i s m ≡ step l' p k i s m)
  unfolding begin begin_answer check_answer step step_plan
  both-pass e q = (rw (e, q), λ i s. rw (e, q))

  -- PROMISE: where N, E, P and K keep two limits, begin and each step are the same under both, answer and memory
  pub within_same : KeepsLimits l p k (tasks m) (edges m) → KeepsLimits l' p k (tasks m) (edges m)
      → (begin l p k m ≡ begin l' p k m) × ((i : ℕ) (s : Step) → step l p k i s m ≡ step l' p k i s m)
  within_same w w' = both-pass (passes l p k m w) (passes l' p k m w')

-- PROMISE: so a call is the engine's own, answer and memory, or refused with 2 and nothing written, and which of the two its limits decide
pub own-or-2 : (l : Limits) (p k : ℕ) (m : Mem)
    → (KeepsLimits l p k (tasks m) (edges m) × ((begin l p k m ≡ begin engine p k m) × ((i : ℕ) (s : Step) → step l p k i s m ≡ step engine p k i s m)))
    ⊎ (¬ (KeepsLimits l p k (tasks m) (edges m))
    × ((begin l p k m ≡ result_of (Err BeyondLimit) m) × ((i : ℕ) (s : Step) → step l p k i s m ≡ result_of (Err BeyondLimit) m)))
own-or-2 l p k m =
    either (limits-told l p k m) (λ e f. (kept l p k m f, within_same l engine p k m (kept l p k m f) (within-engine (kept l p k m f))))
    (λ e b. (λ w. not_beyond l p k m w b, refused-with-2 l p k m e))
  where
    either : {b : Bool} {Yes No A B : Type 0} → Told b Yes No → (b ≡ true → Yes → A) → (b ≡ false → No → B) → A ⊎ B
    either (told-true e y) f g = inl (f e y)
    either (told-false e n) f g = inr (g e n)

-- the preview's row 2 in its figures is that of its limits
preview-figures : (p k : ℕ) (m : Mem) → (BeyondPK preview p k ⊎ Beyond preview (tasks m) (edges m)) ≡ BeyondPreview p k m
unfolding capped
preview-figures p k m = refl

-- the preview within its figures is the engine
pub preview-own : (p k : ℕ) (m : Mem) → ¬ (BeyondPreview p k m)
    → (begin preview p k m ≡ begin engine p k m) × ((i : ℕ) (s : Step) → step preview p k i s m ≡ step engine p k i s m)
preview-own p k m n =
    let w = kept preview p k m (rw (preview-figures p k m) n) in
    within_same preview engine p k m w (within-engine w)

pub preview-begin-follows : (p k : ℕ) (m : Mem) → Follows (preview_begin_rows p k m) (answer_says (begin preview p k m).answer)
preview-begin-follows p k m =
    follows_same (begin_rows preview p k m) (preview_begin_rows p k m) (answer_says (begin preview p k m).answer)
    (refl, (λ d. rw (preview-figures p k m) (λ c. c, λ c. c), same_rows (drop 1 (begin_rows engine p k m))))
    (begin-follows preview p k m)

pub preview-step-follows : (p k i : ℕ) (s : Step) (m : Mem) → Follows (preview_step_rows p k i s m) (step_says (step preview p k i s m).answer)
preview-step-follows p k i s m =
    follows_same (step_rows preview p k i s m) (preview_step_rows p k i s m) (step_says (step preview p k i s m).answer)
    (refl, (λ d. rw (preview-figures p k m) (λ c. c, λ c. c), same_rows (drop 1 (step_rows engine p k i s m))))
    (step_follows preview p k i s m)
