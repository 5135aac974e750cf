-- How the parts make up the step.
use Prim.Native.Nat.{ℕ, ◌+◌, ◌*◌, ◌≤◌}
use mathlib.Core.Path.{◌≡◌, refl, sym, ap, subst, ◌∙◌}
use mathlib.Core.List.{List}
use native.Mathlib.Omega.{arith}
use native.Mathlib.Nat.{mul-le-mul_right, suc-mul}
use lib.ListN.{length, get_or, set}
use lib.IntN.{pos, ◌+ℤ◌}
use Rattle.std.specs.Prelude.{Err, Ok}
use Rattle.task.specs.Refusals.{Answer}
use Rattle.task.specs.declared.refusal.Refusal.{Refusal}
use Rattle.task.specs.declared.Ends.{Ends}
use Rattle.task.specs.declared.Limits.{Limits}
use Rattle.task.specs.declared.Row.{Row}
use Rattle.task.specs.declared.TaskId.{TaskId}
use Rattle.task.specs.declared.WorkerId.{WorkerId}
use Rattle.task.specs.declared.Step.TheVariants.{Release}
use Rattle.task.specs.declared.StepOutcome.TheVariants.{Released}
use Rattle.task.specs.declared.ReleaseOutcome.TheVariants.{DegreeLeft, Placed}
use Rattle.ring.specs.Ring.{ends_at, Rings, rings_of, appended_at}
use Rattle.memory.specs.Field as list
use Rattle.memory.specs.Updates.{updated, written}
use Rattle.rules.specs.Memory.{Mem, all_steps, ring_number, row_in, with_hand}
use Rattle.rules.specs.Plans.{result_of}
use Rattle.rules.specs.Steps.{rule_of, step_plan}
use Rattle.admission.specs.Admission.{sizes_of, Judges, Knows, Admits, Measured, Admitted, Stepped}
use Rattle.admission.specs.declared.Sizes.{Sizes}
use Rattle.admission.proofs.Rows.{admission-entered, admission-measured, admission-refused, admission-enters, few-steps, refused-result, accepted-result}
use Rattle.release_plan.specs.Picks.{Lowers, lowering}
use Rattle.release_plan.specs.Plans.{ReleasePlan, Lower, Place, Lists, lists_of, Measures, Holds, Joins, Writable, Decides, placing, plan_of}
use Rattle.release.specs.Release.{Tables, Words, words_of, lent, Releases, ReadAndCursor, Lent}
use Rattle.release.specs.Parts.{advanced_row, Lowerable, Lowered, Placeable, Joined}

-- Release leads to the phase that it suits, so the admitted row is the worker's
module _ (row : Row) (judged : Answer) (r : Admitted) (told : Admits row Release judged r) (after : Row) (v : r ≡ Ok after) where
  same_row : after ≡ row
  same_row =
      let (suited, led) = admission-entered row Release judged r told after v in
      led ∙ ap (λ x. with_hand x row.held row) (sym suited)

  pub row_keeps : (y : Stepped) → ReadAndCursor after y → ReadAndCursor row y
  row_keeps y = subst (λ (z : Row). ReadAndCursor z y) same_row

-- The writes are the updates of the plan.
module _ (m : Mem) (t : Tables) (x : Words) (i : ℕ) (row : Row) (h : row_in m i ≡ row) where
  lowered-memory : (s count left accepted : ℕ)
      → lent m t (words_of (set x.degrees s left) x.rings x.ends x.counters (set x.run 1 (accepted + 1)))
      (set m.rows i (advanced_row count row))
      ≡ written (lowering i row s count left accepted) (lent m t x m.rows)
  unfolding written updated
  lowered-memory s count left accepted = rw (← h) refl

  placed-memory : (p k s count o : ℕ) (both : Ends) → both ≡ ends_at x.ends (ring_number p o i) → (weight accepted : ℕ)
      → lent m t
      (words_of (set x.degrees s 0) (appended_at k (ring_number p o i) s (rings_of x.rings x.ends)).slots
      (appended_at k (ring_number p o i) s (rings_of x.rings x.ends)).ends
      (set x.counters (ring_number p o i) (get_or x.counters (ring_number p o i) (pos 0) +ℤ pos weight)) (set x.run 1 (accepted + 1)))
      (set m.rows i (advanced_row count row))
      ≡ written (placing p k i row x.counters s count o both weight accepted) (lent m t x m.rows)
  unfolding written updated appended_at
  placed-memory p k s count o both e weight accepted = rw (← h, e) refl

module _ (p k i : ℕ) (sizes : Sizes) (judged : Answer) (row : Row) (t : Tables) (x : Words) (r : Admitted) (told : Admits row Release judged r) where
  pub whole-refused : (why : Refusal) → r ≡ Err why → Releases p k i sizes judged row t x x (Err why)
  unfolding Releases
  whole-refused why v limits m j e h =
      refused-result limits p k i Release (lent m t x m.rows) why
      (admission-refused p k i sizes row Release limits (lent m t x m.rows) e h judged j r told why v)

  -- the numbers and the lengths, as the parts ask for them
  module _ (given : Knows p k i sizes judged × Lent sizes t x) (after : Row) (v : r ≡ Ok after) where
    measured : Measured p k i sizes
    measured = admission-measured p k i sizes row Release judged given.0 r told after v

    abbrev steps : ℕ
    steps = 3 * sizes.weights + sizes.preds

    pub steps-fit : steps ≤ 11264
    steps-fit = few-steps p k i sizes measured

    abbrev lists : Lists
    lists = lists_of t.weights t.succ_starts t.succs x.degrees t.buffers x.ends x.counters x.run

    tasks-are : length x.degrees ≡ sizes.weights
    tasks-are = given.1.degrees ∙ measured.lengths.list list.degrees

    pub lists-fit : Measures p k i lists
    lists-fit =
        record {
          worker = measured.worker;
          few_workers = measured.few_workers;
          few_slots = measured.few_slots;
          weights = given.1.weights ∙ sym tasks-are;
          succ_starts = rw tasks-are (given.1.succ_starts ∙ measured.lengths.list list.succ_starts);
          buffers = rw tasks-are (
              omega (arith, mul-le-mul_right sizes.weights measured.worker, suc-mul i sizes.weights, given.1.buffers, measured.lengths.list list.buffers)
              );
          ends = given.1.ends ∙ measured.lengths.list list.ends;
          counters = given.1.counters ∙ measured.lengths.list list.counters;
          run = given.1.run ∙ measured.lengths.list list.run;
        }

    -- the memory that is lent holds these lists
    module _ (m : Mem) (e : sizes_of (lent m t x m.rows) ≡ sizes) (h : row_in m i ≡ row) where
      row_is : row_in m i ≡ after
      row_is = h ∙ sym (same_row row judged r told after v)

      holds : Holds i steps after lists (lent m t x m.rows)
      unfolding all_steps
      holds =
          record {
            shows =
                record {
                  tasks = lists-fit.weights;
                  edges = ap (λ (z : Sizes). z.preds) e ∙ sym (given.1.succs ∙ measured.lengths.list list.succs);
                  steps = rw (← e) refl;
                  row = row_is;
                  succ_starts = refl;
                  succs = refl;
                  degrees = refl;
                  buffers = refl;
                  run = refl;
                };
            weights = refl;
            ends = refl;
            counters = refl;
          }

    module _ (z : ReleasePlan) (decided : Decides p k i steps after lists z) where
      -- once the plan's variant is known: the step has this plan, and it can be written
      module _ (z' : ReleasePlan) (c : z ≡ z') where
        follows : (limits : Limits) (m : Mem) → Judges limits p k i sizes judged → sizes_of (lent m t x m.rows) ≡ sizes → row_in m i ≡ row
            → step_plan limits p k i Release (lent m t x m.rows) ≡ plan_of p k i after x.counters z'
        unfolding rule_of Decides
        follows limits m j e h =
            (admission-enters p k i sizes row Release limits (lent m t x m.rows) e h judged j r told after v).follows
            ∙ decided.0 (lent m t x m.rows) (holds m e h)
            ∙ ap (plan_of p k i after x.counters) c

        writable : Writable p k i steps after lists z'
        unfolding Decides
        writable = subst (Writable p k i steps after lists) c decided.1

      pub whole-none : (why : Refusal) → z ≡ Err why → Releases p k i sizes judged row t x x (Err why)
      unfolding Releases
      whole-none why c limits m j e h =
          refused-result limits p k i Release (lent m t x m.rows) why (follows (Err why) c limits m j e h)

      module _ (s : TaskId) (count left accepted : ℕ) (c : z ≡ Lower s count left accepted) where
        lowers : Lowers steps after x.degrees x.run s.0 count left accepted
        lowers = writable (Lower s count left accepted) c

        pub lower-ready : Lowerable after s.0 count accepted (length x.degrees) (length x.run)
        lower-ready = record { at = lowers.at; few = omega (arith, lowers.counts.room, steps-fit); run = lists-fit.run }

        pub whole-lower : (d' run' : List ℕ) (y : Stepped) → Lowered after s count left accepted x.degrees x.run d' run' y
            → Releases p k i sizes judged row t x (words_of d' x.rings x.ends x.counters run') y
        unfolding Lowered Releases
        whole-lower d' run' y (hd, (hn, hy)) limits m j e h =
            rw (hd, hn, hy)
            (ap (result_of (Ok (Released (DegreeLeft left)))) (lowered-memory m t x i after (row_is m e h) s.0 count left accepted)
            ∙ accepted-result limits p k i Release (lent m t x m.rows) _ _ (follows (Lower s count left accepted) c limits m j e h))

      module _ (s : TaskId) (count : ℕ) (o : WorkerId) (both : Ends) (weight accepted : ℕ)
          (c : z ≡ Place s count o both weight accepted) where
        joins : Joins p k i steps after lists s.0 count o.0 both weight accepted
        joins = writable (Place s count o both weight accepted) c

        pub place-ready : Placeable p k i after s.0 count o.0 both weight accepted x
        place-ready =
            record {
              worker = measured.worker;
              few_workers = measured.few_workers;
              few_slots = measured.few_slots;
              rings = given.1.rings ∙ measured.lengths.list list.rings;
              all_ends = lists-fit.ends;
              counters = lists-fit.counters;
              run = lists-fit.run;
              at = joins.at;
              owner = joins.owner;
              ends = joins.ends;
              sound = joins.sound;
              counter = joins.counter;
              light = joins.light;
              few = omega (arith, joins.counts.room, steps-fit);
            }

        pub whole-place : (x' : Words) (y : Stepped) → Joined p k i after s count o weight accepted x x' y
            → Releases p k i sizes judged row t x x' y
        unfolding Joined Releases
        whole-place x' y (hd, (hr, (hc, (hn, hy)))) limits m j e h =
            rw (hd, ap (λ (q : Rings ℕ). q.slots) hr, ap (λ (q : Rings ℕ). q.ends) hr, hc, hn, hy)
            (ap (result_of (Ok (Released (Placed s o))))
            (placed-memory m t x i after (row_is m e h) p k s.0 count o.0 both joins.ends weight accepted)
            ∙ accepted-result limits p k i Release (lent m t x m.rows) _ _
            (follows (Place s count o both weight accepted) c limits m j e h))
