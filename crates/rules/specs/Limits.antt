-- What a call's own limits decide: 2, and nothing else. "Beyond its limits the preview gives 2, in the same place."
use Rattle.std.specs.Prelude.{ℕ, ◌<◌, ◌⊎◌, List, ◌∷◌, drop}
use Rattle.task.specs.Types.{engine}
use Rattle.task.specs.Refusals.{beyond_limit}
use Rattle.task.specs.Rows.{Refusal, row, only}
use Rattle.task.specs.declared.Step.{Step}
use Rattle.graph.specs.Tables.{Heavy}
use Rattle.rules.specs.Memory.{Mem, tasks, edges}
use Rattle.rules.specs.Tables.{begin_rows, step_rows}

-- 2 in the preview's figures: "N to 128, E to 512, P to 4, K to 8"
abbrev pub BeyondPreview : ℕ → ℕ → Mem → Type 0
BeyondPreview p k m = (((p < 1) ⊎ (4 < p)) ⊎ ((k < 2) ⊎ (8 < k))) ⊎ ((128 < tasks m) ⊎ (512 < edges m))

-- the preview's rows: 2 in these figures, in begin with the weight, and then the engine's own rows
abbrev pub preview_begin_rows : ℕ → ℕ → Mem → List Refusal
preview_begin_rows p k m = row beyond_limit (only 0 (BeyondPreview p k m ⊎ Heavy m.weights)) ∷ drop 1 (begin_rows engine p k m)

abbrev pub preview_step_rows : ℕ → ℕ → ℕ → Step → Mem → List Refusal
preview_step_rows p k i s m = row beyond_limit (only 0 (BeyondPreview p k m)) ∷ drop 1 (step_rows engine p k i s m)
