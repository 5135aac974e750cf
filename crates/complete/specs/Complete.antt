-- What Complete by value does to the memory whose lists it is lent: worker i's row goes in and comes back.
use Rattle.std.specs.Prelude.{ℕ, ◌≡◌, List, ℤ, Err, Ok}
use Rattle.task.specs.Refusals.{Answer}
use Rattle.task.specs.declared.Limits.{Limits}
use Rattle.task.specs.declared.Row.{Row}
use Rattle.task.specs.declared.Step.TheVariants as step-name
use Rattle.memory.specs.Field as list
use Rattle.memory.specs.Memory.{put}
use Rattle.rules.specs.Memory.{Mem, row_in, with_hand, with_places}
use Rattle.rules.specs.Plans.{result_of}
use Rattle.rules.specs.Steps.{step}
use Rattle.admission.specs.Admission.{sizes_of, Judges, answer_of, rows_after, Stepped}
use Rattle.admission.specs.declared.Sizes.{Sizes}

-- a memory with the lists that Complete reads and writes
abbrev pub lent : Mem → List ℕ → List ℕ → List ℤ → List ℕ → List ℕ → List ℕ → List Row → Mem
lent m weights succ_starts counters buffers executed run rows =
    put list.weights weights
    (put list.succ_starts succ_starts
    (put list.counters counters
    (put list.buffers buffers
    (put list.executed executed
    (put list.run run
    (put list.rows rows m))))))

-- whatever the other lists hold
unfoldable pub Completes : ℕ → ℕ → ℕ → Sizes → Answer → Row → List ℕ → List ℕ → List ℤ → List ℤ
    → List ℕ → List ℕ → List ℕ → List ℕ → List ℕ → List ℕ → Stepped → Type 0
Completes p k i sizes judged row weights succ_starts counters counters' buffers buffers' executed executed' run run' r =
    (limits : Limits) (m : Mem) → Judges limits p k i sizes judged
    → sizes_of (lent m weights succ_starts counters buffers executed run m.rows) ≡ sizes → row_in m i ≡ row
    → result_of (answer_of r) (lent m weights succ_starts counters' buffers' executed' run' (rows_after m.rows i r))
    ≡ step limits p k i step-name.Complete (lent m weights succ_starts counters buffers executed run m.rows)

-- the row keeps its words but the hand and the write place
abbrev pub HandAndWrite : Row → Stepped → Type 0
HandAndWrite row (Err why) = Unit {0}
HandAndWrite row (Ok (o, after)) = after ≡ with_hand after.phase after.held (with_places row.read after.write row.cursor row)
