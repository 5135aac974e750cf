-- The exported calls, one after the other (`Made.antt`), with what the contract of each says.
use Rattle.std.specs.Prelude.{◌≡◌}
use Rattle.graph.specs.Lookup.{lent_of, judge_answer}
use Rattle.rules.specs.Memory.{Mem}
use Rattle.rules.specs.Begin.{begin}
use Rattle.rules.specs.Steps.{step}
use Rattle.rules.specs.Plans.{result_of}
use Rattle.replies.specs.declared.StepReply.{StepReply}
use Rattle.replies.specs.Replies.{reply_of, step_reply_of}
use Rattle.engine_export.specs.Replies.{replied}
use Rattle.hosts.specs.Made as made
pub use Rattle.hosts.specs.Made.{step_made, begin_made, lookup_made, reading_made}

-- `yolluvek_fetch`, `yolluvek_start`, `yolluvek_complete`, `yolluvek_release`, `yolluvek_begin`, with the engine's limits; `yolluvek_preview_fetch` and so
-- on, with the preview's; and those that write nothing
abbrev pub Export : Type 0
Export = made.Export StepReply

abbrev pub Made : Type 0
Made = made.Made Mem StepReply

-- what the call's contract says, made on the words m; a list that it is lent shared keeps its words by its type
abbrev pub Contract : Mem → Export → Mem → Type 0
Contract m (step_made limits p k i s r) m' = result_of r m' ≡ replied step_reply_of (step limits p k i s m)
Contract m (begin_made limits p k r) m' = result_of r m' ≡ replied reply_of (begin limits p k m)
Contract m (lookup_made side t r) m' =
    (r ≡ reply_of (judge_answer side (lent_of m.weights m.pred_starts m.preds m.succ_starts m.succs) t)) × (m' ≡ m)
Contract m reading_made m' = m' ≡ m

-- the call's reply has a number of 1 or more
abbrev pub Refuses : Export → Type 0
Refuses = made.Refuses (λ (r : StepReply). r.number)

-- exported calls from an accepted begin on
abbrev pub Exporting : Type 0
Exporting = made.Exporting Contract
