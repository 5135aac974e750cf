-- What begin's answer on a weak job depends on: the lent lengths, weights and predecessor tables.
use Rattle.task.specs.Refusals.{Answer}
use Rattle.std.specs.Prelude.{ℕ, ◌≡◌, List}
use Rattle.task.specs.declared.Limits.{Limits}
use Rattle.memory.specs.Field as list
use Rattle.memory.specs.Memory.{put}
use Rattle.weak_rules.specs.Memory.{Mem}
use Rattle.plans.specs.Begin.{begin_answer}
use Rattle.weak_admission.specs.Admission.{sizes_of}
use Rattle.weak_admission.specs.declared.WeakSizes.{WeakSizes}

-- a memory with other weights and predecessor tables
abbrev pub read_in : Mem → List ℕ → List ℕ → List ℕ → Mem
read_in m weights starts preds = put list.weights weights (put list.pred_starts starts (put list.preds preds m))

-- begin's answer in every memory that has these and these lengths
abbrev pub Judges : Limits → ℕ → ℕ → WeakSizes → List ℕ → List ℕ → List ℕ → Answer → Type 0
Judges limits p k sizes weights starts preds a =
    (m : Mem) → sizes_of (read_in m weights starts preds) ≡ sizes → a ≡ begin_answer limits p k (read_in m weights starts preds)
