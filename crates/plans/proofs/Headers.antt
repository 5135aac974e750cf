-- What every step is refused for before its own rule: 2, 1, 7, the phase word, 9.
use Prim.Native.Nat.{ℕ, ◌+◌, ◌<◌}
use mathlib.Core.Path.{◌≡◌, refl}
use mathlib.Core.Bool.{true, ◌&&◌}
use mathlib.Core.Logic.{◌⊎◌, inl, inr}
use mathlib.Core.List.{List, ◌∷◌}
use native.Mathlib.Omega.{arith}
use native.Mathlib.Decide.{dec_le}
use native.Mathlib.Nat.{min-le_right}
use lib.ListN.{length}
use lib.Dec.{leb, eqb}
use borrow.Author.Tests.{ltb-true, lt-ltb, eq-eqb, eqb-true}
use Rattle.task.specs.declared.refusal.Refusal.TheVariants.{BeyondLimit, NoSuchWorker, WrongLength}
use Rattle.lists.proofs.Apart.{true-and-false}
use Rattle.lists.proofs.Decided.{stable}
use Rattle.lists.proofs.Told.{Told, told, le-told, lt-told, and-told, and-true, told-yes, told-pass}
use Rattle.task.specs.Types.{engine, capped}
use Rattle.task.specs.Phases.{suits, next_phase}
use Rattle.task.specs.Refusals.{Said}
use Rattle.task.specs.Rows.{Refusal}
use Rattle.task.specs.declared.Limits.{Limits}
use Rattle.task.specs.declared.Step.{Step}
use Rattle.task.specs.declared.Step.TheVariants.{Fetch, Start, Complete, Release}
use Rattle.graph.specs.Check.{sizes_fit}
use Rattle.graph.specs.Tables.{Beyond}
use Rattle.graph.proofs.Refusals.{sizes-told}
use Rattle.memory.specs.Family.{Family}
use Rattle.memory.specs.Field as list
use Rattle.memory.specs.Memory.{Mem}
use Rattle.memory.specs.Shape.{sizes_in, all_fit, others}
use Rattle.memory.proofs.Shape.{fits-shaped, shaped-fits, others-lent}
use Rattle.plans.specs.Memory.{tasks, edges, phase_in}
use Rattle.plans.specs.Sizes.{KeepsLimits, Lengths, Fits, numbers_fit, others_fit, lengths_fit}
use Rattle.plans.specs.Words.{phase_fits}
use Rattle.plans.specs.Plans.{Plan, checked, suited}
use Rattle.plans.specs.Headed.{headed}
use Rattle.plans.specs.Tables.{BeyondPK, headed_rows}
use Rattle.plans.proofs.Plans.{PlanFollows, require-row, checked-row, suited-row}

pub numbers-told : (limits : Limits) (p k : ℕ) → Told (numbers_fit limits p k) (¬ (BeyondPK limits p k)) (BeyondPK limits p k)
unfolding numbers_fit
numbers-told limits p k =
    and-told _ _ (and-told _ _ (le-told 1 p) (le-told p (capped limits).workers)) (and-told _ _ (le-told 2 k) (le-told k (capped limits).slots))

-- what keeps some limits keeps the engine's
pub within-engine : {limits : Limits} {p k n e : ℕ} → KeepsLimits limits p k n e → KeepsLimits engine p k n e
unfolding capped
within-engine {limits} w =
    record {
      one_worker = w.one_worker;
      few_workers = omega (arith, w.few_workers, min-le_right limits.workers engine.workers);
      two_slots = w.two_slots;
      few_slots = omega (arith, w.few_slots, min-le_right limits.slots engine.slots);
      few_tasks = omega (arith, w.few_tasks, min-le_right limits.tasks engine.tasks);
      few_edges = omega (arith, w.few_edges, min-le_right limits.edges engine.edges);
    }

module _ {F : Family} (p k : ℕ) (m : Mem F) where
  pub lengths-are : lengths_fit p k m ≡ true → Lengths p k m
  unfolding lengths_fit all_fit
  lengths-are e =
      let (a, o) = and-true (eqb (length m.pred_starts) (tasks m + 1)) (all_fit F p k (sizes_in m) (others F)) e in
      fits-shaped F p k (sizes_in m) (eqb-true _ _ a) o

  pub others-fit : Lengths p k m → others_fit p k m ≡ true
  unfolding others_fit
  others-fit l = shaped-fits F p k (sizes_in m) l (others F) (others-lent F p k (sizes_in m))

  lengths-fit : Lengths p k m → lengths_fit p k m ≡ true
  unfolding lengths_fit
  lengths-fit l = shaped-fits F p k (sizes_in m) l (list.pred_starts ∷ others F) (refl, others-lent F p k (sizes_in m))

  pub lengths-told : Told (lengths_fit p k m) (¬ (¬ (Lengths p k m))) (¬ (Lengths p k m))
  lengths-told = told _ (λ e n. n (lengths-are e)) (λ e l. true-and-false (lengths-fit l) e)

-- what 2 and 1 leave to a step
module _ {F : Family} (limits : Limits) (p k : ℕ) (m : Mem F) where
  pub limits-told : Told (numbers_fit limits p k && sizes_fit limits (tasks m) (edges m)) (¬ (BeyondPK limits p k ⊎ Beyond limits (tasks m) (edges m)))
      (BeyondPK limits p k ⊎ Beyond limits (tasks m) (edges m))
  limits-told = and-told _ _ (numbers-told limits p k) (sizes-told limits (tasks m) (edges m))

  pub kept : ¬ (BeyondPK limits p k ⊎ Beyond limits (tasks m) (edges m)) → KeepsLimits limits p k (tasks m) (edges m)
  kept n =
      record {
        one_worker = stable (dec_le 1 p) (λ h. n (inl (inl (inl (omega arith)))));
        few_workers = stable (dec_le p (capped limits).workers) (λ h. n (inl (inl (inr (omega arith)))));
        two_slots = stable (dec_le 2 k) (λ h. n (inl (inr (inl (omega arith)))));
        few_slots = stable (dec_le k (capped limits).slots) (λ h. n (inl (inr (inr (omega arith)))));
        few_tasks = stable (dec_le (tasks m) (capped limits).tasks) (λ h. n (inr (inl (omega arith))));
        few_edges = stable (dec_le (edges m) (capped limits).edges) (λ h. n (inr (inr (omega arith))));
      }

  pub not_beyond : KeepsLimits limits p k (tasks m) (edges m) → ¬ (BeyondPK limits p k ⊎ Beyond limits (tasks m) (edges m))
  not_beyond w (inl (inl (inl h))) = omega (arith, w.one_worker)
  not_beyond w (inl (inl (inr h))) = omega (arith, w.few_workers)
  not_beyond w (inl (inr (inl h))) = omega (arith, w.two_slots)
  not_beyond w (inl (inr (inr h))) = omega (arith, w.few_slots)
  not_beyond w (inr (inl h)) = omega (arith, w.few_tasks)
  not_beyond w (inr (inr h)) = omega (arith, w.few_edges)

  pub within-fits : ¬ (BeyondPK limits p k ⊎ Beyond limits (tasks m) (edges m)) → Lengths p k m → Fits limits p k m
  within-fits n l = record { limits = kept n; lengths = l }

  pub fits-within : Fits limits p k m → ¬ (BeyondPK limits p k ⊎ Beyond limits (tasks m) (edges m))
  fits-within f = not_beyond f.limits

  pub fits-are : numbers_fit limits p k && sizes_fit limits (tasks m) (edges m) ≡ true → lengths_fit p k m ≡ true → Fits limits p k m
  fits-are e q = within-fits (told-yes limits-told e) (lengths-are p k m q)

module _ {F : Family} {O U : Type 0} (limits : Limits) (p k i : ℕ) (s : Step) (m : Mem F) (rule : Plan O U) where
  -- a step follows its rows if its own rule does where it is reached
  pub headed-follows : (says : O → Said) (own : List Refusal) → (Fits limits p k m → i < p → PlanFollows says own rule)
      → PlanFollows says (headed_rows limits p k i s m own) (headed limits p k i s m rule)
  headed-follows says own f =
      require-row says _ BeyondLimit _ _ (limits-told limits p k m) (λ e.
      require-row says _ WrongLength _ _ (lengths-told p k m) (λ q.
      require-row says _ (NoSuchWorker i) _ _ (lt-told i p) (λ h.
      checked-row says _ _ _ (le-told (phase_in m i) 2) (λ _.
      suited-row says (phase_in m i) s _ _ (f (fits-are limits p k m e q) (ltb-true i p h))))))

  suits-fits : (x : Step) → leb (suits x) 2 ≡ true
  suits-fits Fetch = refl
  suits-fits Start = refl
  suits-fits Complete = refl
  suits-fits Release = refl

  -- past numbers, lengths and worker, the phase is judged
  pub headed-judged : numbers_fit limits p k && sizes_fit limits (tasks m) (edges m) ≡ true → lengths_fit p k m ≡ true → i < p
      → headed limits p k i s m rule ≡ checked (phase_fits (phase_in m i)) (suited (next_phase (phase_in m i) s) (phase_in m i) rule)
  headed-judged n l w = rw (n, l, lt-ltb i p w)

  -- where all fits and the phase suits, the rule is reached
  pub headed-reaches : Fits limits p k m → i < p → phase_in m i ≡ suits s → headed limits p k i s m rule ≡ rule
  unfolding next_phase
  headed-reaches f w e =
      rw (
        told-pass (limits-told limits p k m) (fits-within limits p k m f),
        told-pass (lengths-told p k m) (λ n. n f.lengths),
        lt-ltb _ _ w,
        e,
        suits-fits s,
        eq-eqb (suits s) (suits s) refl,
      )
