-- The successor of a plain job and its degree, and what they leave.
use Prim.Native.Nat.{ℕ, ◌-◌, ◌≤◌, ◌<◌}
use mathlib.Core.Path.{◌≡◌, refl, sym, subst, ◌∙◌}
use mathlib.Core.Bool.{Bool, true, false, cond, ◌&&◌}
use mathlib.Core.List.{List}
use native.Mathlib.Omega.{arith}
use lib.ListN.{length, get_or}
use lib.Dec.{ltb, leb, eqb}
use borrow.Author.Tests.{ltb-true, le-leb, lt-leb, lt-ltb, le-ltb, eq-eqb, ne_eqb}
use Rattle.std.specs.Prelude.{Err}
use Rattle.task.specs.declared.refusal.Refusal.{Refusal}
use Rattle.task.specs.declared.refusal.Refusal.TheVariants.{Damaged}
use Rattle.task.specs.declared.Row.{Row}
use Rattle.task.specs.declared.TaskId.{TaskId}
use Rattle.task.specs.declared.StepOutcome.TheVariants.{Released}
use Rattle.task.specs.declared.ReleaseOutcome.TheVariants.{DegreeLeft}
use Rattle.rules.specs.Memory.{Mem, edges}
use Rattle.rules.specs.Words.{accepted_fits}
use Rattle.rules.specs.Plans.{Plan, refuse, accept, checked, counted}
use Rattle.rules.specs.Steps.{release_waiting}
use Rattle.release_plan.specs.Reach as reach
use Rattle.release_plan.specs.Reach.{Reached, Successor, successor_of, reach_of, successor_at}
use Rattle.release_plan.specs.Picks.{Pick, Waiting, Ready, release_by, degree_of, Shows, Next, Cursor, lowering, Picked}
use Rattle.release_plan.proofs.Reach.{Reaches, reach-known, planned, planned-refused, planned-at, reach-plan}

-- The tests of a degree, in their order.
module _ (steps : ℕ) (t : TaskId) (count : ℕ) (d run : List ℕ) where
  abbrev degree : ℕ
  degree = get_or d t.0 0

  pub degree-none : degree ≡ 0 → Err Damaged ≡ degree_of steps t count d run
  unfolding degree_of
  degree-none e = rw (lt-leb 1 degree (omega arith)) refl

  pub degree-ready : t.0 < length d → degree < 2 → ¬ (degree ≡ 0) → Ready t count ≡ degree_of steps t count d run
  unfolding degree_of
  degree-ready h l n = rw (le-leb 1 degree (omega arith), le-leb degree (length d) (omega arith), eq-eqb degree 1 (omega arith)) refl

  module _ (h : 2 ≤ degree) where
    pub degree-over : length d < degree → Err Damaged ≡ degree_of steps t count d run
    unfolding degree_of
    degree-over l = rw (le-leb 1 degree (omega arith), lt-leb degree (length d) l) refl

    module _ (l : degree ≤ length d) where
      waiting : degree_of steps t count d run
          ≡ cond (ltb (get_or run 1 0) steps) (Waiting t count (degree - 1) (get_or run 1 0)) (Err Damaged)
      unfolding degree_of
      waiting = rw (le-leb 1 degree (omega arith), le-leb degree (length d) l, ne_eqb degree 1 (λ e. absurd (omega arith))) refl

      pub degree-full : steps ≤ get_or run 1 0 → Err Damaged ≡ degree_of steps t count d run
      degree-full a = sym (waiting ∙ rw (le-ltb (get_or run 1 0) steps a) refl)

      pub degree-waits : get_or run 1 0 < steps → Waiting t count (degree - 1) (get_or run 1 0) ≡ degree_of steps t count d run
      degree-waits a = sym (waiting ∙ rw (lt-ltb (get_or run 1 0) steps a) refl)

module _ (i steps : ℕ) (r : Row) (ss s d b run : List ℕ) where
  abbrev reached : Reached
  reached = reach_of i (length d) r.read r.write r.cursor ss s b

  -- where the rule goes on with a successor, once its degree is read
  abbrev within : Successor → Bool
  within y = leb 1 (get_or d y.task.0 0) && leb (get_or d y.task.0 0) (length d)

  abbrev onward : Successor → Plan → Mem → Plan
  onward y ready m = cond (eqb (get_or d y.task.0 0) 1) ready (release_waiting i m)

  abbrev there : Successor
  there = successor_at i (length d) r.read r.write r.cursor ss s b

  -- the rule, by these lists
  rule-reads : (ready : Plan) (m : Mem) → Shows i steps r ss s d b run m
      → release_by ready i m ≡ planned reached (checked (within there) (onward there ready m))
  unfolding release_by
  rule-reads ready m v =
      reach-plan i m lengths _ ∙ simp (v.tasks, v.row, v.succ_starts, v.succs, v.degrees, v.buffers)
    where
      lengths : edges m ≡ length m.succs
      lengths = rw v.succs v.edges

  module _ (z : Reached) (hz : z ≡ reached) where
    pub pick-none : (why : Refusal) → z ≡ Err why → Picked i steps r ss s d b run (Err why)
    pick-none why e ready m v = rule-reads ready m v ∙ planned-refused reached _ why (sym hz ∙ e)

    module _ (y : Successor) (e : z ≡ reach.At y.task y.completed y.count) where
      abbrev left : ℕ
      left = get_or d y.task.0 0 - 1

      known : Reaches i (length d) r.read r.write r.cursor ss s b y
      known = reach-known i (length d) r.read r.write r.cursor ss s b y (sym hz ∙ e)

      at : Cursor r y.task.0 y.count (length d)
      at = record { task = known.task; place = known.place; cursor = known.inside }

      next : (m : Mem) → Shows i steps r ss s d b run m → Next i y.task.0 y.count m
      next m v =
          record {
            task = rw known.is (simp (v.tasks, v.row, v.succ_starts, v.succs, v.buffers));
            count = rw known.is (simp (v.tasks, v.row, v.succ_starts, v.buffers));
          }

      goes : (ready : Plan) (m : Mem) → Shows i steps r ss s d b run m → release_by ready i m ≡ checked (within y) (onward y ready m)
      goes ready m v = rw known.is (rule-reads ready m v ∙ planned-at reached (checked (within there) (onward there ready m)) y (sym hz ∙ e))

      -- above zero: the accepted word is in its range, or not
      module _ (m : Mem) (v : Shows i steps r ss s d b run m) where
        counted-by : accepted_fits m ≡ ltb (get_or run 1 0) steps
        counted-by = rw (v.steps, v.run) refl

        waits : ltb (get_or run 1 0) steps ≡ true
            → release_waiting i m ≡ accept (Released (DegreeLeft left)) (lowering i r y.task.0 y.count left (get_or run 1 0))
        unfolding release_waiting counted
        waits a = rw (counted-by ∙ a, (next m v).task, (next m v).count, v.row, v.degrees, v.run) refl

        full : ltb (get_or run 1 0) steps ≡ false → release_waiting i m ≡ refuse Damaged
        unfolding release_waiting counted
        full a = rw (counted-by ∙ a) refl

      picked : Picked i steps r ss s d b run (degree_of steps y.task y.count d run)
      unfolding degree_of
      picked = go (within y) (eqb (get_or d y.task.0 0) 1) (ltb (get_or run 1 0) steps) refl refl refl
        where
          go : (b₁ b₂ b₃ : Bool) → within y ≡ b₁ → eqb (get_or d y.task.0 0) 1 ≡ b₂ → ltb (get_or run 1 0) steps ≡ b₃
              → Picked i steps r ss s d b run
              (cond b₁ (cond b₂ (Ready y.task y.count) (cond b₃ (Waiting y.task y.count left (get_or run 1 0)) (Err Damaged))) (Err Damaged))
          go false b₂ b₃ f q a = λ ready m v. goes ready m v ∙ rw f refl
          go true true b₃ f q a = record { at = at; next = next; follows = λ ready m v. goes ready m v ∙ rw (f, q) refl }
          go true false false f q a = λ ready m v. goes ready m v ∙ rw (f, q) (full m v a)
          go true false true f q a =
              record {
                lowers = record { at = at; degree = refl; counts = record { word = refl; room = ltb-true (get_or run 1 0) steps a } };
                follows = λ ready m v. goes ready m v ∙ rw (f, q) (waits m v a);
              }

    pub pick-degree : (t done : TaskId) (count : ℕ) → z ≡ reach.At t done count → (w : Pick) → w ≡ degree_of steps t count d run
        → Picked i steps r ss s d b run w
    pick-degree t done count e w h = subst (Picked i steps r ss s d b run) (sym h) (picked (successor_of t done count) e)
