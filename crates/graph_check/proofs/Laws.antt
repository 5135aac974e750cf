-- The cases of the check, in its order.
use Prim.Native.Nat.{ℕ, ◌+◌, ◌≤◌, ◌<◌, min}
use mathlib.Core.Path.{◌≡◌, refl, sym, ◌∙◌}
use mathlib.Core.Bool.{Bool, true, false, not, ◌&&◌}
use mathlib.Core.List.{List}
use native.Mathlib.Omega.{arith}
use lib.ListN.{length}
use lib.Dec.{leb, eqb}
use borrow.Author.Tests.{lt-ltb, le-ltb, leb-true, eqb-true, not-true, not-false}
use Rattle.std.specs.Prelude.{Err, Ok}
use Rattle.task.specs.declared.refusal.Refusal.{Refusal}
use Rattle.task.specs.declared.refusal.Refusal.TheVariants.{BadTable, BeyondLimit, Cycle, Duplicate, WrongLength}
use Rattle.lists.specs.Decided.{holds}
use Rattle.lists.proofs.Decided.{stable, holds-yes, first-least}
use Rattle.lists.proofs.Told.{and-true}
use Rattle.task.specs.Types.{capped}
use Rattle.task.specs.declared.Limits.{Limits}
use Rattle.graph.specs.Graph.{Graph, graph_of}
use Rattle.graph.specs.Conditions.{Sized, Sound}
use Rattle.graph.specs.Decide.{light?, good?, bad?, ends_fit?}
use Rattle.task.specs.Refusals.{cycle, Answer, refusal_number}
use Rattle.graph.specs.Stripping.{Ordered}
use Rattle.graph.specs.Check.{sizes_fit, first_bad, first_twice, first_on_cycle, tables_answer, check_answer}

-- before 5 is judged there is no order to hand out
pub early : {g : Graph} {a right : Answer} {why : Refusal} {stripped : ℕ} {words : List ℕ} → (a ≡ Err why) × (stripped ≡ 0) → ¬ (refusal_number why ≡ cycle)
    → Err why ≡ right → (a ≡ right) × Ordered g a words words stripped
early (e, z) n t = (e ∙ t, record { handed = λ j. absurd (n (rw e at j)); kept = λ _. (z, refl) })

module _ (g : Graph) (bad : ℕ) (hb : bad ≡ first_bad g) where
  pub tables-bad : bad < g.tasks → Err (BadTable bad) ≡ tables_answer g
  unfolding tables_answer
  tables-bad h = rw (← hb) (simp (lt-ltb _ _ h))

  module _ (b : g.tasks ≤ bad) (ends : Bool) (he : ends ≡ holds (ends_fit? g)) where
    pub tables-ends : not ends ≡ true → Err (BadTable g.tasks) ≡ tables_answer g
    unfolding tables_answer
    tables-ends e = rw (← hb, ← he) (simp (le-ltb _ _ b, not-true ends e))

    module _ (e : not ends ≡ false) where
      -- what the first three numbers have shown
      pub tables-sound : Sized g → Sound g
      unfolding first_bad
      tables-sound s =
          record {
            sized = s;
            good = λ t h. stable (good? g.tasks g.starts g.preds t) (first-least g.tasks (bad? g) t (omega arith));
            ends = holds-yes (ends_fit? g) (sym he ∙ not-false ends e);
          }

      module _ (twice : ℕ) (ht : twice ≡ first_twice g) where
        pub tables-twice : twice < g.tasks → Err (Duplicate twice) ≡ tables_answer g
        unfolding tables_answer
        tables-twice h = rw (← hb, ← he, ← ht) (simp (le-ltb _ _ b, not-false ends e, lt-ltb _ _ h))

        module _ (t : g.tasks ≤ twice) (on : ℕ) (ho : on ≡ first_on_cycle g) where
          pub tables-cycle : on < g.tasks → Err (Cycle on) ≡ tables_answer g
          unfolding tables_answer
          tables-cycle h = rw (← hb, ← he, ← ht, ← ho) (simp (le-ltb _ _ b, not-false ends e, le-ltb _ _ t, lt-ltb _ _ h))

          pub tables-accepted : g.tasks ≤ on → Ok tt ≡ tables_answer g
          unfolding tables_answer
          tables-accepted h = rw (← hb, ← he, ← ht, ← ho) (simp (le-ltb _ _ b, not-false ends e, le-ltb _ _ t, le-ltb _ _ h))

module _ (limits : Limits) (within others : Bool) (weights starts preds : List ℕ) (fit : Bool) (hf : fit ≡ sizes_fit limits (length weights) (length preds)) where
  pub check-beyond : not (within && fit) ≡ true → Err BeyondLimit ≡ check_answer limits within others weights starts preds
  unfolding check_answer
  check-beyond e = rw (← hf) (simp (not-true (within && fit) e))

  module _ (f : not (within && fit) ≡ false) (light : Bool) (hl : light ≡ holds (light? weights)) where
    pub check-heavy : not light ≡ true → Err BeyondLimit ≡ check_answer limits within others weights starts preds
    unfolding check_answer
    check-heavy e = rw (← hf, ← hl) (simp (not-false (within && fit) f, not-true light e))

    module _ (l : not light ≡ false) where
      pub check-length : not (eqb (length starts) (length weights + 1) && others) ≡ true → Err WrongLength ≡ check_answer limits within others weights starts preds
      unfolding check_answer
      check-length n = rw (← hf, ← hl) (simp (not-false (within && fit) f, not-false light l, not-true (eqb (length starts) (length weights + 1) && others) n))

      module _ (n : not (eqb (length starts) (length weights + 1) && others) ≡ false) where
        pub check-rest : (r : Answer) → r ≡ tables_answer (graph_of (length weights) starts preds) → r ≡ check_answer limits within others weights starts preds
        unfolding check_answer
        check-rest r e = rw (← hf, ← hl) (simp (not-false (within && fit) f, not-false light l, not-false (eqb (length starts) (length weights + 1) && others) n) e)

        -- what the limits and the length have shown
        pub check-sized : Sized (graph_of (length weights) starts preds)
        unfolding sizes_fit capped
        check-sized =
            let fits = (and-true within fit (not-false (within && fit) f)).1 in
            let both = and-true (leb (length weights) (min limits.tasks 1024)) (leb (length preds) (min limits.edges 8192)) (sym hf ∙ fits) in
            record {
              tasks = omega (arith, leb-true (length weights) (min limits.tasks 1024) both.0);
              edges = omega (arith, leb-true (length preds) (min limits.edges 8192) both.1);
              starts = eqb-true (length starts) (length weights + 1) (and-true (eqb (length starts) (length weights + 1)) others (not-false (eqb (length starts) (length weights + 1) && others) n)).0;
            }
