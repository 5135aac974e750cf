-- The cases of begin's answer, in its order.
use Prim.Native.Nat.{ℕ, ◌+◌, ◌*◌, ◌≤◌, ◌<◌}
use mathlib.Core.Path.{◌≡◌, refl, sym, ap, ◌∙◌}
use mathlib.Core.Bool.{Bool, true, false, not, ◌&&◌}
use mathlib.Core.List.{List}
use native.Mathlib.Nat.{mul-le-mul}
use native.Mathlib.Omega.{arith}
use mir.Syntax.{w64}
use mir.Val.{Fits}
use lib.ListN.{length}
use borrow.Author.Tests.{lt-ltb, le-ltb, not-true, not-false}
use Rattle.std.specs.Prelude.{Err, Ok}
use Rattle.task.specs.declared.refusal.Refusal.{Refusal}
use Rattle.task.specs.declared.refusal.Refusal.TheVariants.{BeyondLimit, TooManyRoots}
use Rattle.lists.proofs.Apart.{true-and-false}
use Rattle.lists.proofs.Told.{told-true, told, and-true}
use Rattle.task.specs.Types.{engine}
use Rattle.task.specs.Refusals.{answer_says, Answer}
use Rattle.task.specs.declared.Limits.{Limits}
use Rattle.graph.specs.Graph.{graph_of}
use Rattle.graph.specs.Conditions.{Sound, GraphFits}
use Rattle.graph.specs.Check.{sizes_fit, check_answer}
use Rattle.graph.specs.Successors.{roots}
use Rattle.graph.proofs.Refusals.{check-follows}
use Rattle.graph.proofs.Accepted.{said-accepted, clear-fits, fits-sound}
use Rattle.ring.specs.Ring.{capacity}
use Rattle.rules.specs.Memory.{Mem}
use Rattle.rules.specs.Sizes.{numbers_fit, others_fit}
use Rattle.rules.specs.Begin.{roots_answer, begin_answer}
use Rattle.admission.specs.Admission.{sizes_of}
use Rattle.admission.specs.declared.Sizes.{Sizes}
use Rattle.admission.proofs.Laws.{numbers-within}
use Rattle.begin_check.specs.Judging.{read_in, Judges}

-- what the graph's check accepts fits, whatever other lengths it is told
pub check-fits : (limits : Limits) (others : Bool) (weights starts preds : List ℕ) → check_answer limits true others weights starts preds ≡ Ok tt
    → GraphFits limits weights starts preds
check-fits limits others weights starts preds e =
    (clear-fits limits {Far = ⊥} {Odd = others ≡ false} weights starts preds
    ((check-follows limits true others (told-true refl (λ x. x)) (λ _. told others (λ t f. true-and-false t f) (λ f. f)) weights starts preds).accepts.0
    ((said-accepted (check_answer limits true others weights starts preds)).0 (ap answer_says e)))).1.1

module _ (limits : Limits) (p k : ℕ) (numbers fit : Bool) (hn : numbers ≡ numbers_fit limits p k) (f : not (numbers && fit) ≡ false) where
  pub numbers-fit : numbers_fit limits p k ≡ true
  numbers-fit = sym hn ∙ (and-true numbers fit (not-false (numbers && fit) f)).0

  within : (p ≤ engine.workers) × ((2 ≤ k) × (k ≤ engine.slots))
  within = numbers-within limits p k numbers-fit

  -- P times a number of slots can be computed
  pub product-fits : (j : ℕ) → j ≤ k → Fits w64 (p * j)
  product-fits j h = omega (arith, mul-le-mul {n₁ = p} {m₁ = j} {n₂ = 16} {m₂ = 64} within.0 (omega (arith, within)))

module _ (limits : Limits) (p k : ℕ) (sizes : Sizes) (weights starts preds : List ℕ) (numbers fit : Bool) (hn : numbers ≡ numbers_fit limits p k)
    (hf : fit ≡ sizes_fit limits sizes.weights sizes.preds) where
  pub judge-beyond : not (numbers && fit) ≡ true → Judges limits p k sizes weights starts preds (Err BeyondLimit)
  unfolding begin_answer check_answer
  judge-beyond n m e = rw beyond
    where
      beyond : numbers_fit limits p k && sizes_fit limits (length weights) (length preds) ≡ false
      beyond = rw (hn, hf, ← e) at (not-true (numbers && fit) n)

  module _ (f : not (numbers && fit) ≡ false) (others : Bool) (ho : (m : Mem) → sizes_of m ≡ sizes → others ≡ others_fit p k m)
      (a : Answer) (ha : a ≡ check_answer limits true others weights starts preds) where
    checked : (m : Mem) → sizes_of (read_in m weights starts preds) ≡ sizes
        → check_answer limits (numbers_fit limits p k) (others_fit p k (read_in m weights starts preds)) weights starts preds ≡ a
    checked m e = rw (numbers-fit limits p k numbers fit hn f, ← ho (read_in m weights starts preds) e) (sym ha)

    pub judge-refused : (why : Refusal) → a ≡ Err why → Judges limits p k sizes weights starts preds (Err why)
    unfolding begin_answer
    judge-refused why q m e = rw (checked m e, q)

    module _ (q : a ≡ (Ok tt)) where
      graph-sound : Sound (graph_of (length weights) starts preds)
      graph-sound = fits-sound (check-fits limits others weights starts preds (sym ha ∙ q))

      pub starts_fit : length starts ≡ length weights + 1
      starts_fit = graph-sound.sized.starts

      pub few-tasks : length weights ≤ engine.tasks
      few-tasks = graph-sound.sized.tasks

      module _ (found : ℕ)
          (hr : (preds : List ℕ) → Sound (graph_of (length weights) starts preds) → found ≡ length (roots (graph_of (length weights) starts preds))) where
        pub judge-roots : p * k < found → Judges limits p k sizes weights starts preds (Err (TooManyRoots found))
        unfolding begin_answer roots_answer capacity
        judge-roots h m e = rw (checked m e, q, ← hr preds graph-sound, lt-ltb (p * k) found h)

        pub judge-accepted : found ≤ p * k → Judges limits p k sizes weights starts preds (Ok tt)
        unfolding begin_answer roots_answer capacity
        judge-accepted h m e = rw (checked m e, q, ← hr preds graph-sound, le-ltb (p * k) found h)
