-- The tests before a weak step's own rule, in their order.
use Prim.Native.Nat.{ℕ, ◌+◌, ◌*◌, ◌≤◌, ◌<◌, min}
use mathlib.Core.Path.{◌≡◌, refl, sym, ◌∙◌, subst}
use mathlib.Core.Bool.{Bool, true, false, not, ◌&&◌}
use native.Mathlib.Omega.{arith}
use lib.ListN.{length, replicate, length-replicate}
use lib.Dec.{leb, eqb}
use lib.IntN.{pos}
use borrow.Author.Tests.{leb-true, le-ltb, not-true, not-false}
use Rattle.std.specs.Prelude.{Err, Ok}
use Rattle.task.specs.declared.refusal.Refusal.{Refusal}
use Rattle.task.specs.declared.refusal.Refusal.TheVariants.{BeyondLimit, NoSuchWorker, WrongLength}
use Rattle.lists.proofs.Told.{and-true}
use Rattle.task.specs.Types.{engine, capped}
use Rattle.task.specs.declared.Limits.{Limits}
use Rattle.task.specs.declared.Step.{Step}
use Rattle.weak_task.specs.Rows.{with_hand}
use Rattle.weak_task.specs.Types.{copy, idle}
use Rattle.weak_task.specs.declared.WeakRow.{WeakRow}
use Rattle.graph.specs.Check.{sizes_fit}
use Rattle.memory.specs.Field.{Field}
use Rattle.memory.specs.Field as list
use Rattle.memory.specs.Memory.{get}
use Rattle.memory.specs.Shape.{lends, IfLent, sizes_in, all_fit}
use Rattle.memory.proofs.Shape.{shaped-same}
use Rattle.plans.specs.Sizes.{Fits, numbers_fit, others_fit, lengths_fit}
use Rattle.plans.proofs.Headers.{fits-are}
use Rattle.weak_rules.specs.Memory.{weak, Mem, mem_of, tasks, edges}
use Rattle.weak_rules.specs.Steps.{step_plan}
use Rattle.admission.specs.Phase.{Phased, phase_after}
use Rattle.admission.proofs.Phase.{phase-leads, phase-refuses, phase-goes-on}
use Rattle.admission.proofs.Laws.{numbers-within}
use Rattle.weak_admission.specs.Admission.{sizes_of, size_at, Judges, Measured, Knows, Allows}
use Rattle.weak_admission.specs.declared.WeakSizes.{WeakSizes}

-- the tests on the lengths are those on the memory's lists
module _ (sizes : WeakSizes) (p k : ℕ) (m : Mem) (e : sizes_of m ≡ sizes) where
  pub others-are :
      eqb sizes.succ_starts (sizes.weights + 1)
      && (eqb sizes.succs sizes.preds
      && (eqb sizes.degrees sizes.weights
      && (eqb sizes.fixed sizes.weights
      && (eqb sizes.rings (p * p * k)
      && (eqb sizes.ends (p * p * 3)
      && (eqb sizes.counters (p * p)
      && (eqb sizes.buffers (p * sizes.weights)
      && (eqb sizes.executed (3 * (sizes.preds + sizes.weights))
      && (eqb sizes.run 3
      && eqb sizes.rows p)))))))))
      ≡ others_fit p k m
  unfolding others_fit all_fit
  others-are = rw (← e) refl

  pub lengths-are : (others : Bool) → others ≡ others_fit p k m → eqb sizes.pred_starts (sizes.weights + 1) && others ≡ lengths_fit p k m
  unfolding lengths_fit others_fit all_fit
  lengths-are others o = rw (o, ← e) refl

-- the phase word of a worker's row, and whether the step suits it
module _ (row : WeakRow) (s : Step) (x : Phased) (e : x ≡ phase_after row.phase s) where
  pub row-refused : (why : Refusal) → x ≡ Err why → Allows row s (Err why)
  row-refused why v rest = phase-refuses row.phase s rest why (sym e ∙ v)

  pub row-admitted : (q : ℕ) → x ≡ Ok q → Allows row s (Ok (with_hand q row.held row))
  row-admitted q v =
      let (a, l) = phase-leads row.phase s q (sym e ∙ v) in
      ((λ rest. phase-goes-on row.phase s rest q (sym e ∙ v)), (a, rw l refl))

-- a memory with lists of these lengths
abbrev pub blank : WeakSizes → Mem
blank z =
    mem_of (replicate z.weights 0) (replicate z.pred_starts 0) (replicate z.preds 0) (replicate z.succ_starts 0)
    (replicate z.succs 0) (replicate z.degrees 0) (replicate z.fixed 0)
    (replicate z.rings (copy 0 0)) (replicate z.ends 0) (replicate z.counters (pos 0)) (replicate z.buffers 0)
    (replicate z.executed 0) (replicate z.run 0) (replicate z.rows idle)

blank-sizes : (z : WeakSizes) → sizes_of (blank z) ≡ z
blank-sizes z = simp length-replicate

-- a memory's lengths, list by list
sizes-at : (m : Mem) (f : Field) → IfLent (lends weak f) (size_at (sizes_of m) f ≡ length (get f m))
sizes-at m list.weights = refl
sizes-at m list.pred_starts = refl
sizes-at m list.preds = refl
sizes-at m list.succ_starts = refl
sizes-at m list.succs = refl
sizes-at m list.degrees = refl
sizes-at m list.fixed = refl
sizes-at m list.rings = refl
sizes-at m list.ends = refl
sizes-at m list.counters = refl
sizes-at m list.buffers = refl
sizes-at m list.executed = refl
sizes-at m list.run = refl
sizes-at m list.rows = refl

measured : (limits : Limits) (p k i : ℕ) (sizes : WeakSizes) (m : Mem) → sizes_of m ≡ sizes → Fits limits p k m → i < p → Measured p k i sizes
unfolding capped
measured limits p k i sizes m e f h = subst (Measured p k i) e (record {
  few_tasks = omega (arith, f.limits.few_tasks);
  few_edges = omega (arith, f.limits.few_edges);
  few_workers = omega (arith, f.limits.few_workers);
  two_slots = f.limits.two_slots;
  few_slots = omega (arith, f.limits.few_slots);
  worker = h;
  lengths = shaped-same weak p k (sizes_in m) (size_at (sizes_of m)) (sizes-at m) f.lengths;
})

module _ (limits : Limits) (p k : ℕ) (sizes : WeakSizes) (numbers fit : Bool) (hn : numbers ≡ numbers_fit limits p k)
    (hf : fit ≡ sizes_fit limits sizes.weights sizes.preds) where
  limits-are : (m : Mem) → sizes_of m ≡ sizes → numbers_fit limits p k && sizes_fit limits (tasks m) (edges m) ≡ numbers && fit
  limits-are m e = rw (hn, hf, ← e) refl

  pub judged-beyond : not (numbers && fit) ≡ true → (i : ℕ) → Judges limits p k i sizes (Err BeyondLimit)
  unfolding step_plan
  judged-beyond n i s m e = rw (limits-are m e ∙ not-true (numbers && fit) n)

  module _ (f : not (numbers && fit) ≡ false) where
    within : (m : Mem) → sizes_of m ≡ sizes → numbers_fit limits p k && sizes_fit limits (tasks m) (edges m) ≡ true
    within m e = limits-are m e ∙ not-false (numbers && fit) f

    -- what 2 leaves
    pub within-engine : ((p ≤ engine.workers) × ((k ≤ engine.slots) × (sizes.weights ≤ engine.tasks))) × (sizes.preds ≤ engine.edges)
    unfolding sizes_fit capped
    within-engine =
        let (n, z) = and-true numbers fit (not-false (numbers && fit) f) in
        let (workers, (_, slots)) = numbers-within limits p k (sym hn ∙ n) in
        let few = and-true (leb sizes.weights (min limits.tasks 1024)) (leb sizes.preds (min limits.edges 8192)) (sym hf ∙ z) in (
          (workers, (slots, omega (arith, leb-true sizes.weights (min limits.tasks 1024) few.0))),
          omega (arith, leb-true sizes.preds (min limits.edges 8192) few.1),
        )

    module _ (lengths : Bool) (hl : (m : Mem) → sizes_of m ≡ sizes → lengths ≡ lengths_fit p k m) where
      pub judged-lengths : not lengths ≡ true → (i : ℕ) → Judges limits p k i sizes (Err WrongLength)
      unfolding step_plan
      judged-lengths n i s m e = rw (within m e, sym (hl m e) ∙ not-true lengths n)

      module _ (l : not lengths ≡ false) (i : ℕ) where
        long : (m : Mem) → sizes_of m ≡ sizes → lengths_fit p k m ≡ true
        long m e = sym (hl m e) ∙ not-false lengths l

        pub judged-worker : p ≤ i → Judges limits p k i sizes (Err (NoSuchWorker i))
        unfolding step_plan
        judged-worker h s m e = rw (within m e, long m e, le-ltb i p h)

        module _ (h : i < p) where
          pub judged-fit : Judges limits p k i sizes (Ok tt)
          judged-fit = ((λ m e. (within m e, long m e)), h)

          pub judged-knows : Knows p k i sizes (Ok tt)
          judged-knows =
              let m = blank sizes in
              let e = blank-sizes sizes in
              measured limits p k i sizes m e (fits-are limits p k m (within m e) (long m e)) h

pub refused-known : (limits : Limits) (p k i : ℕ) (sizes : WeakSizes) (why : Refusal) → Judges limits p k i sizes (Err why)
    → Judges limits p k i sizes (Err why) × Knows p k i sizes (Err why)
refused-known limits p k i sizes why h = (h, (limits, h))
