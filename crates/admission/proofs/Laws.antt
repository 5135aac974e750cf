-- The tests before a step's own rule, in their order.
use Prim.Native.Nat.{ℕ, ◌+◌, ◌*◌, ◌≤◌, ◌<◌, min}
use mathlib.Core.Path.{◌≡◌, refl, sym, ◌∙◌, subst}
use mathlib.Core.Bool.{Bool, true, false, not, ◌&&◌}
use native.Mathlib.Nat.{mul-le-mul}
use native.Mathlib.Omega.{arith}
use lib.ListN.{length, replicate, length-replicate}
use lib.Dec.{leb, eqb}
use lib.IntN.{pos}
use borrow.Author.Tests.{leb-true, le-ltb, not-true, not-false}
use Rattle.std.specs.Prelude.{Ok, Err}
use Rattle.task.specs.declared.refusal.Refusal.{Refusal}
use Rattle.task.specs.declared.refusal.Refusal.TheVariants.{BeyondLimit, NoSuchWorker, WrongLength}
use Rattle.lists.proofs.Told.{and-true}
use Rattle.task.specs.Types.{idle, engine, capped}
use Rattle.task.specs.declared.Limits.{Limits}
use Rattle.graph.specs.Check.{sizes_fit}
use Rattle.memory.specs.Field.{Field}
use Rattle.memory.specs.Field as list
use Rattle.memory.specs.Memory.{get}
use Rattle.memory.specs.Shape.{lends, IfLent, sizes_in, all_fit}
use Rattle.memory.proofs.Shape.{shaped-same}
use Rattle.rules.specs.Memory.{plain, Mem, mem_of, tasks, edges}
use Rattle.rules.specs.Sizes.{Fits, numbers_fit, others_fit, lengths_fit}
use Rattle.rules.specs.Steps.{step_plan}
use Rattle.plans.proofs.Headers.{fits-are}
use Rattle.admission.specs.Admission.{sizes_of, size_at, Judges, Measured, Knows}
use Rattle.admission.specs.declared.Sizes.{Sizes}

pub numbers-are : (limits most : Limits) (p k : ℕ) → most ≡ capped limits
    → (leb 1 p && leb p most.workers) && (leb 2 k && leb k most.slots) ≡ numbers_fit limits p k
unfolding numbers_fit
numbers-are limits most p k e = rw e refl

-- numbers that fit are within the engine's limits
pub numbers-within : (limits : Limits) (p k : ℕ) → numbers_fit limits p k ≡ true → (p ≤ engine.workers) × ((2 ≤ k) × (k ≤ engine.slots))
unfolding numbers_fit capped
numbers-within limits p k e =
    let (a, b) = and-true (leb 1 p && leb p (min limits.workers 16)) (leb 2 k && leb k (min limits.slots 64)) e in
    let (two, few) = and-true (leb 2 k) (leb k (min limits.slots 64)) b in
    (omega (arith, leb-true p (min limits.workers 16) (and-true (leb 1 p) _ a).1), (leb-true 2 k two, omega (arith, leb-true k (min limits.slots 64) few)))

-- products within the engine's limits
module _ (p k n : ℕ) (h : (p ≤ engine.workers) × ((k ≤ engine.slots) × (n ≤ engine.tasks))) where
  pub few-squares : p * p ≤ 256
  few-squares = mul-le-mul h.0 h.0

  pub few_words : p * p * k ≤ 16384
  few_words = mul-le-mul few-squares h.1.0

  pub few-places : p * n ≤ 16384
  few-places = mul-le-mul h.0 h.1.1

-- the tests on the lengths are those on the memory's lists
module _ (sizes : Sizes) (p k : ℕ) (m : Mem) (e : sizes_of m ≡ sizes) where
  pub others-are :
      eqb sizes.succ_starts (sizes.weights + 1)
      && (eqb sizes.succs sizes.preds
      && (eqb sizes.degrees sizes.weights
      && (eqb sizes.rings (p * p * k)
      && (eqb sizes.ends (p * p * 3)
      && (eqb sizes.counters (p * p)
      && (eqb sizes.buffers (p * sizes.weights)
      && (eqb sizes.executed (2 * sizes.weights)
      && (eqb sizes.run 2
      && eqb sizes.rows p))))))))
      ≡ others_fit p k m
  unfolding others_fit all_fit
  others-are = rw (← e) refl

  pub lengths-are : (others : Bool) → others ≡ others_fit p k m → eqb sizes.pred_starts (sizes.weights + 1) && others ≡ lengths_fit p k m
  unfolding lengths_fit others_fit all_fit
  lengths-are others o = rw (o, ← e) refl

-- a memory with lists of these lengths
abbrev pub blank : Sizes → Mem
blank z =
    mem_of (replicate z.weights 0) (replicate z.pred_starts 0) (replicate z.preds 0) (replicate z.succ_starts 0)
    (replicate z.succs 0) (replicate z.degrees 0) (replicate z.rings 0) (replicate z.ends 0) (replicate z.counters (pos 0)) (replicate z.buffers 0)
    (replicate z.executed 0) (replicate z.run 0) (replicate z.rows idle)

blank-sizes : (z : Sizes) → sizes_of (blank z) ≡ z
blank-sizes z = simp length-replicate

-- a memory's lengths, list by list
sizes-at : (m : Mem) (f : Field) → IfLent (lends plain f) (size_at (sizes_of m) f ≡ length (get f m))
sizes-at m list.weights = refl
sizes-at m list.pred_starts = refl
sizes-at m list.preds = refl
sizes-at m list.succ_starts = refl
sizes-at m list.succs = refl
sizes-at m list.degrees = refl
sizes-at m list.fixed = tt
sizes-at m list.rings = refl
sizes-at m list.ends = refl
sizes-at m list.counters = refl
sizes-at m list.buffers = refl
sizes-at m list.executed = refl
sizes-at m list.run = refl
sizes-at m list.rows = refl

measured : (limits : Limits) (p k i : ℕ) (sizes : Sizes) (m : Mem) → sizes_of m ≡ sizes → Fits limits p k m → i < p → Measured p k i sizes
unfolding capped
measured limits p k i sizes m e f h = subst (Measured p k i) e (record {
  few_tasks = omega (arith, f.limits.few_tasks);
  few_edges = omega (arith, f.limits.few_edges);
  few_workers = omega (arith, f.limits.few_workers);
  two_slots = f.limits.two_slots;
  few_slots = omega (arith, f.limits.few_slots);
  worker = h;
  lengths = shaped-same plain p k (sizes_in m) (size_at (sizes_of m)) (sizes-at m) f.lengths;
})

module _ (limits : Limits) (p k : ℕ) (sizes : Sizes) (numbers fit : Bool) (hn : numbers ≡ numbers_fit limits p k)
    (hf : fit ≡ sizes_fit limits sizes.weights sizes.preds) where
  limits-are : (m : Mem) → sizes_of m ≡ sizes → numbers_fit limits p k && sizes_fit limits (tasks m) (edges m) ≡ numbers && fit
  limits-are m e = rw (hn, hf, ← e) refl

  pub judged-beyond : not (numbers && fit) ≡ true → (i : ℕ) → Judges limits p k i sizes (Err BeyondLimit)
  unfolding step_plan
  judged-beyond n i s m e = rw (limits-are m e ∙ not-true (numbers && fit) n)

  module _ (f : not (numbers && fit) ≡ false) where
    within : (m : Mem) → sizes_of m ≡ sizes → numbers_fit limits p k && sizes_fit limits (tasks m) (edges m) ≡ true
    within m e = limits-are m e ∙ not-false (numbers && fit) f

    -- what 2 leaves
    pub within-engine : (p ≤ engine.workers) × ((k ≤ engine.slots) × (sizes.weights ≤ engine.tasks))
    unfolding sizes_fit capped
    within-engine =
        let (n, z) = and-true numbers fit (not-false (numbers && fit) f) in
        let (workers, (_, slots)) = numbers-within limits p k (sym hn ∙ n) in
        let few = and-true (leb sizes.weights (min limits.tasks 1024)) (leb sizes.preds (min limits.edges 8192)) (sym hf ∙ z) in
        (workers, (slots, omega (arith, leb-true sizes.weights (min limits.tasks 1024) few.0)))

    module _ (lengths : Bool) (hl : (m : Mem) → sizes_of m ≡ sizes → lengths ≡ lengths_fit p k m) where
      pub judged-lengths : not lengths ≡ true → (i : ℕ) → Judges limits p k i sizes (Err WrongLength)
      unfolding step_plan
      judged-lengths n i s m e = rw (within m e, sym (hl m e) ∙ not-true lengths n)

      module _ (l : not lengths ≡ false) (i : ℕ) where
        long : (m : Mem) → sizes_of m ≡ sizes → lengths_fit p k m ≡ true
        long m e = sym (hl m e) ∙ not-false lengths l

        pub judged-worker : p ≤ i → Judges limits p k i sizes (Err (NoSuchWorker i))
        unfolding step_plan
        judged-worker h s m e = rw (within m e, long m e, le-ltb i p h)

        module _ (h : i < p) where
          pub judged-fit : Judges limits p k i sizes (Ok tt)
          judged-fit = ((λ m e. (within m e, long m e)), h)

          pub judged-knows : Knows p k i sizes (Ok tt)
          judged-knows =
              let m = blank sizes in
              let e = blank-sizes sizes in
              measured limits p k i sizes m e (fits-are limits p k m (within m e) (long m e)) h

pub refused-known : (limits : Limits) (p k i : ℕ) (sizes : Sizes) (why : Refusal) → Judges limits p k i sizes (Err why)
    → Judges limits p k i sizes (Err why) × Knows p k i sizes (Err why)
refused-known limits p k i sizes why h = (h, (limits, h))
