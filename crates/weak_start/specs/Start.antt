-- What Start of a weak job by value does to the memory whose run words it is lent: worker i's row goes in and comes back.
use Rattle.std.specs.Prelude.{ℕ, ◌≡◌, List, Err, Ok}
use Rattle.task.specs.Refusals.{Answer}
use Rattle.task.specs.declared.Limits.{Limits}
use Rattle.task.specs.declared.Step.TheVariants as step-name
use Rattle.weak_task.specs.Rows.{with_hand}
use Rattle.weak_task.specs.declared.WeakRow.{WeakRow}
use Rattle.memory.specs.Field as list
use Rattle.memory.specs.Memory.{put}
use Rattle.weak_rules.specs.Memory.{Mem, row_in}
use Rattle.weak_rules.specs.Plans.{result_of}
use Rattle.weak_rules.specs.Steps.{step}
use Rattle.weak_admission.specs.Admission.{sizes_of, Judges, answer_of, rows_after, WeakStepped}
use Rattle.weak_admission.specs.declared.WeakSizes.{WeakSizes}

-- a memory with these run words and rows
abbrev pub with_run : Mem → List ℕ → List WeakRow → Mem
with_run m run rows = put list.run run (put list.rows rows m)

-- whatever the other lists hold
unfoldable pub Starts : ℕ → ℕ → ℕ → WeakSizes → Answer → WeakRow → List ℕ → List ℕ → WeakStepped → Type 0
Starts p k i sizes judged row run run' r =
    (limits : Limits) (m : Mem) → Judges limits p k i sizes judged → sizes_of (with_run m run m.rows) ≡ sizes → row_in m i ≡ row
    → result_of (answer_of r) (with_run m run' (rows_after m.rows i r)) ≡ step limits p k i step-name.Start (with_run m run m.rows)

-- the row keeps its words but the phase
abbrev pub PhaseAlone : WeakRow → WeakStepped → Type 0
PhaseAlone row (Err why) = Unit {0}
PhaseAlone row (Ok (o, after)) = after ≡ with_hand after.phase row.held row
