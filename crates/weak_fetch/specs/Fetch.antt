-- What Fetch of a weak job by value does to the memory whose lists it is lent: worker i's row goes in and comes back.
use Rattle.std.specs.Prelude.{ℕ, ◌≡◌, List, Err, Ok}
use Rattle.task.specs.Refusals.{Answer}
use Rattle.task.specs.declared.Limits.{Limits}
use Rattle.task.specs.declared.Step.TheVariants as step-name
use Rattle.weak_task.specs.Types.{Copy}
use Rattle.weak_task.specs.Rows.{with_hand, with_pointer}
use Rattle.weak_task.specs.declared.WeakRow.{WeakRow}
use Rattle.memory.specs.Field as list
use Rattle.memory.specs.Memory.{put}
use Rattle.weak_rules.specs.Memory.{Mem, tasks, edges, row_in}
use Rattle.weak_rules.specs.Plans.{result_of}
use Rattle.weak_rules.specs.Steps.{step}
use Rattle.weak_admission.specs.Admission.{sizes_of, Judges, answer_of, rows_after, WeakStepped}
use Rattle.weak_admission.specs.declared.WeakSizes.{WeakSizes}

-- a memory with the lists that Fetch reads and writes
abbrev pub lent : Mem → List Copy → List ℕ → List ℕ → List WeakRow → Mem
lent m rings ends run rows = put list.rings rings (put list.ends ends (put list.run run (put list.rows rows m)))

-- a memory of n tasks and e edges
abbrev pub Extent : ℕ → ℕ → Mem → Type 0
Extent n e m = (tasks m ≡ n) × (edges m ≡ e)

-- whatever the other lists hold
unfoldable pub Fetches : ℕ → ℕ → ℕ → WeakSizes → Answer → WeakRow → List Copy → List ℕ → List ℕ → List ℕ → List ℕ → WeakStepped → Type 0
Fetches p k i sizes judged row rings ends ends' run run' r =
    (limits : Limits) (m : Mem) → Judges limits p k i sizes judged → sizes_of (lent m rings ends run m.rows) ≡ sizes → row_in m i ≡ row
    → result_of (answer_of r) (lent m rings ends' run' (rows_after m.rows i r)) ≡ step limits p k i step-name.Fetch (lent m rings ends run m.rows)

-- the row keeps its words but the hand and the pointer
abbrev pub HandAndPointer : WeakRow → WeakStepped → Type 0
HandAndPointer row (Err why) = Unit {0}
HandAndPointer row (Ok (o, after)) = after ≡ with_pointer after.pointer.0 (with_hand after.phase after.held row)
