-- How admission, plan and writes make up the step.
use Prim.Native.Nat.{ℕ, ◌<◌}
use mathlib.Core.Path.{◌≡◌, refl, sym, ap, subst, ◌∙◌}
use mathlib.Core.List.{List}
use native.Mathlib.Omega.{arith}
use native.Mathlib.Nat.{mul-le-mul_right, suc-mul}
use lib.ListN.{length}
use Rattle.std.specs.Prelude.{Err, Ok}
use Rattle.task.specs.Refusals.{Answer}
use Rattle.task.specs.declared.refusal.Refusal.{Refusal}
use Rattle.task.specs.declared.Ends.{Ends}
use Rattle.task.specs.declared.Limits.{Limits}
use Rattle.task.specs.declared.Step.TheVariants.{Release}
use Rattle.task.specs.declared.TaskId.{TaskId}
use Rattle.task.specs.declared.WorkerId.{WorkerId}
use Rattle.weak_task.specs.Types.{Copy}
use Rattle.weak_task.specs.Rows.{with_hand, with_places}
use Rattle.weak_task.specs.declared.WeakRow.{WeakRow}
use Rattle.weak_task.specs.declared.WeakOutcome.TheVariants.{Placed}
use Rattle.memory.specs.Field as list
use Rattle.weak_rules.specs.Memory.{Mem, row_in}
use Rattle.weak_rules.specs.Plans.{result_of}
use Rattle.weak_rules.specs.Steps.{rule_of, release_rule}
use Rattle.plans.specs.Forms.{own}
use Rattle.weak_admission.specs.Admission.{sizes_of, Judges, Knows, Admits, Measured, Enters, WeakAdmitted}
use Rattle.weak_admission.specs.declared.WeakSizes.{WeakSizes}
use Rattle.weak_admission.proofs.Rows.{admission-entered, admission-measured, admission-refused, admission-enters, counts-are, few-steps, refused-result, rule-refused, rule-accepted}
use Rattle.weak_release.specs.Release.{Tables, Words, words_of, lent, Releases, Lent}
use Rattle.weak_release.specs.Plan.{WeakPlan, First, Later, plan_of, CursorAt, Joins, Writable, Copied, Sized, Reads, PlansRelease}
use Rattle.weak_release.specs.Written.{Placeable, Raises, WritesLater, WritesFirst}

-- Release leads to the phase that it suits, so the admitted row is the worker's
module _ (row : WeakRow) (judged : Answer) (r : WeakAdmitted) (told : Admits row Release judged r) (after : WeakRow) (v : r ≡ Ok after) where
  same_row : after ≡ row
  same_row =
      let (suited, led) = admission-entered row Release judged r told after v in
      led ∙ ap (λ x. with_hand x row.held row) (sym suited)

  pub row_keeps : (left : WeakRow) → left ≡ with_places left.read after.write left.cursor after
      → left ≡ with_places left.read row.write left.cursor row
  row_keeps left = subst (λ (z : WeakRow). left ≡ with_places left.read z.write left.cursor z) same_row

module _ (p k i : ℕ) (sizes : WeakSizes) (judged : Answer) (row : WeakRow) (t : Tables) (x : Words) (r : WeakAdmitted)
    (told : Admits row Release judged r) where
  pub whole-refused : (why : Refusal) → r ≡ Err why → Releases p k i sizes judged row t x x (Err why)
  unfolding Releases
  whole-refused why v limits m j e h =
      refused-result limits p k i Release (lent m t x m.rows) why
      (admission-refused p k i sizes row Release limits (lent m t x m.rows) e h judged j r told why v)

  module _ (given : Knows p k i sizes judged × Lent sizes t x) (after : WeakRow) (v : r ≡ Ok after) where
    measured : Measured p k i sizes
    measured = admission-measured p k i sizes row Release judged given.0 r told after v

    -- what is asked of the lengths
    pub whole-sized : Sized p k i sizes.preds t.weights t.succ_starts t.succs x.fixed x.ends x.counters t.buffers x.run
    whole-sized =
        record {
          worker = measured.worker;
          few_workers = measured.few_workers;
          few_slots = measured.few_slots;
          few_tasks = rw given.1.weights measured.few_tasks;
          few_edges = measured.few_edges;
          all_starts = rw given.1.weights (given.1.succ_starts ∙ measured.lengths.list list.succ_starts);
          all_succs = given.1.succs ∙ measured.lengths.list list.succs;
          all_fixed = given.1.fixed ∙ measured.lengths.list list.fixed ∙ sym given.1.weights;
          all_ends = given.1.ends ∙ measured.lengths.list list.ends;
          all_counters = given.1.counters ∙ measured.lengths.list list.counters;
          own_buffer =
              rw given.1.weights
              (omega (arith, mul-le-mul_right sizes.weights measured.worker, suc-mul i sizes.weights, given.1.buffers, measured.lengths.list list.buffers));
          all_words = given.1.run ∙ measured.lengths.list list.run;
        }

    module _ (plan : WeakPlan)
        (plans : PlansRelease p k i sizes.preds after t.weights t.succ_starts t.succs x.fixed x.ends x.counters t.buffers x.run plan) where
      -- what an accepted plan lets be written
      placeable : (task count : ℕ) (o : WorkerId) (both : Ends) (accepted : ℕ) → CursorAt after task count (length t.weights)
          → Joins p k i (length t.weights) sizes.preds o.0 x.ends x.run both accepted
          → Placeable p k i after count o.0 both accepted x.rings x.ends x.run
      placeable task count o both accepted at joins =
          record {
            worker = measured.worker;
            few_workers = measured.few_workers;
            few_slots = measured.few_slots;
            all_rings = given.1.rings ∙ measured.lengths.list list.rings;
            all_ends = whole-sized.all_ends;
            all_words = whole-sized.all_words;
            owner = joins.owner;
            reads = joins.reads;
            sound = joins.sound;
            place = at.place;
            cursor = at.cursor;
            accepted_word = (counts-are (length t.weights) sizes.preds x.run accepted joins.counts).0;
            few = omega (arith, few-steps (length t.weights) sizes.preds x.run whole-sized.few_tasks measured.few_edges accepted joins.counts);
          }

      module _ (task done : TaskId) (count : ℕ) (o : WorkerId) (both : Ends) where
        pub later-placeable : (accepted : ℕ) → plan ≡ Later task done count o both accepted
            → Placeable p k i after count o.0 both accepted x.rings x.ends x.run
        unfolding PlansRelease
        later-placeable accepted w =
            let y : Writable p k i sizes.preds after t.weights x.ends x.counters x.run (Later task done count o both accepted) =
            (rw w at plans).1 in
            placeable task.0 count o both accepted y.0 y.1

        pub first-placeable : (weight accepted : ℕ) → plan ≡ First task done count o both weight accepted
            → Placeable p k i after count o.0 both accepted x.rings x.ends x.run
            × ((task.0 < length x.fixed) × Raises p i o.0 weight x.counters)
        unfolding PlansRelease
        first-placeable weight accepted w =
            let y : Writable p k i sizes.preds after t.weights x.ends x.counters x.run (First task done count o both weight accepted) =
            (rw w at plans).1 in (
              placeable task.0 count o both accepted y.0 y.1.0,
              (
                rw whole-sized.all_fixed y.0.task,
                record { all_counters = whole-sized.all_counters; counter = y.1.1.counter; light = y.1.1.light },
              ),
            )

      -- the step, by the memory that is lent
      module _ (limits : Limits) (m : Mem) (j : Judges limits p k i sizes judged) (e : sizes_of (lent m t x m.rows) ≡ sizes) (h : row_in m i ≡ row) where
        abbrev before : Mem
        before = lent m t x m.rows

        row_is : row_in m i ≡ after
        row_is = h ∙ sym (same_row row judged r told after v)

        enters : Enters limits p k i Release before after
        enters = admission-enters p k i sizes row Release limits before e h judged j r told after v

        edges_are : length before.preds ≡ sizes.preds
        edges_are = ap (λ (z : WeakSizes). z.preds) e

        reads : Reads i sizes.preds after t.weights t.succ_starts t.succs x.fixed x.ends x.counters t.buffers x.run before
        reads =
            record {
              shows =
                  record {
                    tasks = sym whole-sized.all_fixed;
                    edges = edges_are ∙ sym whole-sized.all_succs;
                    row = row_is;
                    succ_starts = refl;
                    succs = refl;
                    fixed = refl;
                    buffers = refl;
                  };
              edges = edges_are;
              weights = refl;
              ends = refl;
              counters = refl;
              words = refl;
            }

        follows : (q : WeakPlan) → plan ≡ q → (release_rule (own p before) p k i before ≡ plan_of p k i before q) × Copied i before q
        unfolding PlansRelease
        follows q w = rw (← w) (plans.0 before reads)

      pub whole-none : (why : Refusal) → plan ≡ Err why → Releases p k i sizes judged row t x x (Err why)
      unfolding Releases rule_of
      whole-none why w limits m j e h =
          rule-refused limits p k i Release (lent m t x m.rows) after (enters limits m j e h) why (follows limits m j e h (Err why) w).0

      module _ (task done : TaskId) (count : ℕ) (o : WorkerId) (both : Ends) where
        pub later-made : (accepted : ℕ) → plan ≡ Later task done count o both accepted
            → (rings' : List Copy) (ends' run' : List ℕ) (left : WeakRow)
            → WritesLater p k i after task done count o.0 x.rings rings' x.ends ends' x.run run' left
            → Releases p k i sizes judged row t x (words_of x.fixed rings' ends' x.counters run')
            (Ok (Placed (record { task = task; predecessor = done }) o, left))
        unfolding Releases rule_of WritesLater
        later-made accepted w rings' ends' run' left writes limits m j e h =
            let (rule, copied) = follows limits m j e h (Later task done count o both accepted) w in
            ap (result_of (Ok (Placed (record { task = task; predecessor = done }) o)))
            (writes (lent m t x m.rows) (row_is limits m j e h) copied)
            ∙ rule-accepted limits p k i Release (lent m t x m.rows) after (enters limits m j e h)
            (Placed (record { task = task; predecessor = done }) o) _ rule

        pub first_made : (weight accepted : ℕ) → plan ≡ First task done count o both weight accepted
            → (x' : Words) (left : WeakRow) → WritesFirst p k i after task done count o.0 weight x x' left
            → Releases p k i sizes judged row t x x' (Ok (Placed (record { task = task; predecessor = done }) o, left))
        unfolding Releases rule_of WritesFirst PlansRelease
        first_made weight accepted w x' left writes limits m j e h =
            let y : Writable p k i sizes.preds after t.weights x.ends x.counters x.run (First task done count o both weight accepted) =
            (rw w at plans).1 in
            let (rule, copied) = follows limits m j e h (First task done count o both weight accepted) w in
            ap (result_of (Ok (Placed (record { task = task; predecessor = done }) o)))
            (writes (lent m t x m.rows) (row_is limits m j e h) copied (sym y.1.1.weighs))
            ∙ rule-accepted limits p k i Release (lent m t x m.rows) after (enters limits m j e h)
            (Placed (record { task = task; predecessor = done }) o) _ rule
