-- The cases of Start: not admitted, R or the accepted word damaged, accepted.
use Prim.Native.Nat.{ℕ, ◌+◌, ◌≤◌, ◌<◌}
use mathlib.Core.Path.{◌≡◌, refl, sym, ◌∙◌}
use mathlib.Core.List.{List}
use lib.ListN.{set}
use Rattle.std.specs.Prelude.{Err, Ok}
use Rattle.task.specs.Refusals.{Answer}
use Rattle.task.specs.declared.refusal.Refusal.{Refusal}
use Rattle.task.specs.declared.refusal.Refusal.TheVariants.{Damaged}
use Rattle.task.specs.declared.refusal.Damaged as word
use Rattle.task.specs.Types.{engine}
use Rattle.task.specs.declared.Step.TheVariants.{Start}
use Rattle.weak_task.specs.declared.WeakRow.{WeakRow}
use Rattle.weak_task.specs.declared.WeakOutcome.TheVariants.{Moved}
use Rattle.memory.specs.Field as list
use Rattle.memory.specs.Updates.{updated, written}
use Rattle.weak_rules.specs.Memory.{Mem}
use Rattle.weak_rules.specs.Steps.{start_rule, rule_of}
use Rattle.weak_admission.specs.Admission.{Measured, Knows, Admits, WeakAdmitted}
use Rattle.weak_admission.specs.Count.{Counted, count_of}
use Rattle.weak_admission.specs.declared.WeakSizes.{WeakSizes}
use Rattle.weak_admission.proofs.Rows.{admission-entered, admission-measured, admission-refused, admission-enters, extent-of, few-steps, counts-are, count-refused, count-accepted, refused-result, rule-refused, rule-accepted}
use Rattle.weak_start.specs.Start.{with_run, Starts, PhaseAlone}

module _ (p k i : ℕ) (row : WeakRow) (sizes : WeakSizes) (judged : Answer) (r : WeakAdmitted) (told : Admits row Start judged r) (run : List ℕ) where
  abbrev before : Mem → Mem
  before m = with_run m run m.rows

  pub start-refused : (why : Refusal) → r ≡ Err why → Starts p k i sizes judged row run run (Err why)
  unfolding Starts
  start-refused why v limits m j e h =
      refused-result limits p k i Start (before m) why
      (admission-refused p k i sizes row Start limits (before m) e h judged j r told why v)

  module _ (after : WeakRow) (v : r ≡ Ok after) (x : Counted) (hx : x ≡ count_of sizes.weights sizes.preds run) where
    pub start-damaged : (d : word.Damaged) → x ≡ Err d → Starts p k i sizes judged row run run (Err Damaged)
    unfolding Starts rule_of start_rule
    start-damaged d b limits m j e h =
        rule-refused limits p k i Start (before m) after
        (admission-enters p k i sizes row Start limits (before m) e h judged j r told after v)
        Damaged (count-refused sizes.weights sizes.preds (before m) (extent-of sizes (before m) e) Moved _ d (sym hx ∙ b))

    pub start-accepted : (a : ℕ) → x ≡ Ok a → Starts p k i sizes judged row run (set run 1 (a + 1)) (Ok (Moved, after))
    unfolding Starts rule_of start_rule written updated
    start-accepted a b limits m j e h =
        let enters = admission-enters p k i sizes row Start limits (before m) e h judged j r told after v in
        rw (enters.leads, (counts-are sizes.weights sizes.preds run a (sym hx ∙ b)).0)
        (rule-accepted limits p k i Start (before m) after enters Moved _
        (count-accepted sizes.weights sizes.preds (before m) (extent-of sizes (before m) e) Moved _ a (sym hx ∙ b)))

-- what is known of the run words, once the step is admitted
module _ (p k i : ℕ) (row : WeakRow) (sizes : WeakSizes) (judged : Answer) (known : Knows p k i sizes judged) (r : WeakAdmitted)
    (told : Admits row Start judged r) (after : WeakRow) (v : r ≡ Ok after) where
  measured : Measured p k i sizes
  measured = admission-measured p k i sizes row Start judged known r told after v

  pub start-words : (words : ℕ) → words ≡ sizes.run → (words ≡ 3) × ((sizes.weights ≤ engine.tasks) × (sizes.preds ≤ engine.edges))
  start-words words l = (l ∙ measured.lengths.list list.run, (measured.few_tasks, measured.few_edges))

  pub start-counts : (run : List ℕ) (x : Counted) → x ≡ count_of sizes.weights sizes.preds run → (a : ℕ) → x ≡ Ok a → a < 35840
  start-counts run x hx a b = few-steps sizes.weights sizes.preds run measured.few_tasks measured.few_edges a (sym hx ∙ b)

pub phase-alone : (row : WeakRow) (judged : Answer) (r : WeakAdmitted) → Admits row Start judged r → (after : WeakRow) → r ≡ Ok after
    → PhaseAlone row (Ok (Moved, after))
phase-alone row judged r told after v = rw (admission-entered row Start judged r told after v).1 refl
