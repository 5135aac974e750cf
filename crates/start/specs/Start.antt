-- What Start by value does to the memory whose run words it is lent: worker i's row goes in and comes back.
use Rattle.std.specs.Prelude.{ℕ, ◌≡◌, List, Err, Ok}
use Rattle.task.specs.Refusals.{Answer}
use Rattle.task.specs.declared.Limits.{Limits}
use Rattle.task.specs.declared.Row.{Row}
use Rattle.task.specs.declared.Step.TheVariants as step-name
use Rattle.memory.specs.Field as list
use Rattle.memory.specs.Memory.{put}
use Rattle.rules.specs.Memory.{Mem, row_in, with_hand}
use Rattle.rules.specs.Plans.{result_of}
use Rattle.rules.specs.Steps.{step}
use Rattle.admission.specs.Admission.{sizes_of, Judges, answer_of, rows_after, Stepped}
use Rattle.admission.specs.declared.Sizes.{Sizes}

-- a memory with these run words and rows
abbrev pub with_run : Mem → List ℕ → List Row → Mem
with_run m run rows = put list.run run (put list.rows rows m)

-- whatever the other lists hold
unfoldable pub Starts : ℕ → ℕ → ℕ → Sizes → Answer → Row → List ℕ → List ℕ → Stepped → Type 0
Starts p k i sizes judged row run run' r =
    (limits : Limits) (m : Mem) → Judges limits p k i sizes judged → sizes_of (with_run m run m.rows) ≡ sizes → row_in m i ≡ row
    → result_of (answer_of r) (with_run m run' (rows_after m.rows i r)) ≡ step limits p k i step-name.Start (with_run m run m.rows)

-- the row keeps its words but the phase
abbrev pub PhaseAlone : Row → Stepped → Type 0
PhaseAlone row (Err why) = Unit {0}
PhaseAlone row (Ok (o, after)) = after ≡ with_hand after.phase row.held row
