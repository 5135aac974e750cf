-- The cases of Start: not admitted, the accepted word damaged, accepted.
use Prim.Native.Nat.{ℕ, ◌+◌, ◌*◌, ◌≤◌, ◌<◌}
use mathlib.Core.Path.{◌≡◌, refl}
use mathlib.Core.List.{List}
use lib.ListN.{get_or, set}
use Rattle.std.specs.Prelude.{Err, Ok}
use Rattle.task.specs.Refusals.{Answer}
use Rattle.task.specs.declared.refusal.Refusal.{Refusal}
use Rattle.task.specs.declared.refusal.Refusal.TheVariants.{Damaged}
use Rattle.task.specs.declared.Row.{Row}
use Rattle.task.specs.declared.Step.TheVariants.{Start}
use Rattle.task.specs.declared.StepOutcome.TheVariants.{Moved}
use Rattle.memory.specs.Updates.{updated, written}
use Rattle.rules.specs.Memory.{Mem}
use Rattle.rules.specs.Steps.{start_rule, rule_of}
use Rattle.admission.specs.Admission.{Admits, Admitted}
use Rattle.admission.specs.declared.Sizes.{Sizes}
use Rattle.admission.proofs.Rows.{admission-entered, admission-refused, admission-enters, count-refused, count-accepted, refused-result, rule-refused, rule-accepted}
use Rattle.start.specs.Start.{with_run, Starts, PhaseAlone}

module _ (p k i : ℕ) (row : Row) (sizes : Sizes) (judged : Answer) (r : Admitted) (told : Admits row Start judged r) (run : List ℕ) where
  abbrev before : Mem → Mem
  before m = with_run m run m.rows

  pub start-refused : (why : Refusal) → r ≡ Err why → Starts p k i sizes judged row run run (Err why)
  unfolding Starts
  start-refused why v limits m j e h =
      refused-result limits p k i Start (before m) why
      (admission-refused p k i sizes row Start limits (before m) e h judged j r told why v)

  module _ (after : Row) (v : r ≡ Ok after) where
    pub start-damaged : 3 * sizes.weights + sizes.preds ≤ get_or run 1 0 → Starts p k i sizes judged row run run (Err Damaged)
    unfolding Starts rule_of start_rule
    start-damaged b limits m j e h =
        rule-refused limits p k i Start (before m) after
        (admission-enters p k i sizes row Start limits (before m) e h judged j r told after v)
        Damaged (count-refused sizes (before m) e Moved _ b)

    pub start-accepted : get_or run 1 0 < 3 * sizes.weights + sizes.preds
        → Starts p k i sizes judged row run (set run 1 (get_or run 1 0 + 1)) (Ok (Moved, after))
    unfolding Starts rule_of start_rule written updated
    start-accepted b limits m j e h =
        let enters = admission-enters p k i sizes row Start limits (before m) e h judged j r told after v in
        rw enters.leads (rule-accepted limits p k i Start (before m) after enters Moved _ (count-accepted sizes (before m) e Moved _ b))

pub phase-alone : (row : Row) (judged : Answer) (r : Admitted) → Admits row Start judged r → (after : Row) → r ≡ Ok after → PhaseAlone row (Ok (Moved, after))
phase-alone row judged r told after v = rw (admission-entered row Start judged r told after v).1 refl
