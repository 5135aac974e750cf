-- The cases of begin's answer on a weak job, in its order.
use Prim.Native.Nat.{ℕ, ◌+◌, ◌*◌, ◌≤◌, ◌<◌}
use mathlib.Core.Path.{◌≡◌, sym, ◌∙◌}
use mathlib.Core.Bool.{Bool, true, false, not, ◌&&◌}
use mathlib.Core.List.{List}
use lib.ListN.{length}
use borrow.Author.Tests.{lt-ltb, le-ltb, not-true}
use Rattle.std.specs.Prelude.{Err, Ok}
use Rattle.task.specs.declared.refusal.Refusal.{Refusal}
use Rattle.task.specs.declared.refusal.Refusal.TheVariants.{BeyondLimit, TooManyRoots}
use Rattle.task.specs.Refusals.{Answer}
use Rattle.task.specs.Types.{engine}
use Rattle.task.specs.declared.Limits.{Limits}
use Rattle.graph.specs.Graph.{graph_of}
use Rattle.graph.specs.Conditions.{Sound}
use Rattle.graph.specs.Check.{sizes_fit, check_answer}
use Rattle.graph.specs.Successors.{roots}
use Rattle.graph.proofs.Accepted.{fits-sound}
use Rattle.ring.specs.Ring.{capacity}
use Rattle.weak_rules.specs.Memory.{Mem}
use Rattle.plans.specs.Sizes.{numbers_fit, others_fit}
use Rattle.plans.specs.Begin.{roots_answer, begin_answer}
use Rattle.weak_admission.specs.Admission.{sizes_of}
use Rattle.weak_admission.specs.declared.WeakSizes.{WeakSizes}
use Rattle.begin_check.proofs.Laws.{check-fits, numbers-fit}
use Rattle.weak_begin_check.specs.Judging.{read_in, Judges}

module _ (limits : Limits) (p k : ℕ) (sizes : WeakSizes) (weights starts preds : List ℕ) (numbers fit : Bool) (hn : numbers ≡ numbers_fit limits p k)
    (hf : fit ≡ sizes_fit limits sizes.weights sizes.preds) where
  pub judge-beyond : not (numbers && fit) ≡ true → Judges limits p k sizes weights starts preds (Err BeyondLimit)
  unfolding begin_answer check_answer
  judge-beyond n m e = rw beyond
    where
      beyond : numbers_fit limits p k && sizes_fit limits (length weights) (length preds) ≡ false
      beyond = rw (hn, hf, ← e) at (not-true (numbers && fit) n)

  module _ (f : not (numbers && fit) ≡ false) (others : Bool) (ho : (m : Mem) → sizes_of m ≡ sizes → others ≡ others_fit p k m)
      (a : Answer) (ha : a ≡ check_answer limits true others weights starts preds) where
    checked : (m : Mem) → sizes_of (read_in m weights starts preds) ≡ sizes
        → check_answer limits (numbers_fit limits p k) (others_fit p k (read_in m weights starts preds)) weights starts preds ≡ a
    checked m e = rw (numbers-fit limits p k numbers fit hn f, ← ho (read_in m weights starts preds) e) (sym ha)

    pub judge-refused : (why : Refusal) → a ≡ Err why → Judges limits p k sizes weights starts preds (Err why)
    unfolding begin_answer
    judge-refused why q m e = rw (checked m e, q)

    module _ (q : a ≡ (Ok tt)) where
      graph-sound : Sound (graph_of (length weights) starts preds)
      graph-sound = fits-sound (check-fits limits others weights starts preds (sym ha ∙ q))

      pub starts_fit : length starts ≡ length weights + 1
      starts_fit = graph-sound.sized.starts

      pub few-tasks : length weights ≤ engine.tasks
      few-tasks = graph-sound.sized.tasks

      module _ (found : ℕ)
          (hr : (preds : List ℕ) → Sound (graph_of (length weights) starts preds) → found ≡ length (roots (graph_of (length weights) starts preds))) where
        pub judge-roots : p * k < found → Judges limits p k sizes weights starts preds (Err (TooManyRoots found))
        unfolding begin_answer roots_answer capacity
        judge-roots h m e = rw (checked m e, q, ← hr preds graph-sound, lt-ltb (p * k) found h)

        pub judge-accepted : found ≤ p * k → Judges limits p k sizes weights starts preds (Ok tt)
        unfolding begin_answer roots_answer capacity
        judge-accepted h m e = rw (checked m e, q, ← hr preds graph-sound, le-ltb (p * k) found h)
