-- The exported weak calls, one after the other (`crates/hosts/specs/Made.antt`), with what the contract of each says.
use Rattle.std.specs.Prelude.{◌≡◌}
use Rattle.graph.specs.Lookup.{lent_of, judge_answer}
use Rattle.weak_rules.specs.Memory.{Mem}
use Rattle.weak_rules.specs.Begin.{begin}
use Rattle.weak_rules.specs.Steps.{step}
use Rattle.weak_rules.specs.Plans.{result_of}
use Rattle.replies.specs.Replies.{reply_of}
use Rattle.weak_replies.specs.declared.WeakReply.{WeakReply}
use Rattle.weak_replies.specs.Replies.{weak_reply_of}
use Rattle.weak_export.specs.Replies.{replied}
use Rattle.hosts.specs.Made as made
pub use Rattle.hosts.specs.Made.{step_made, begin_made, lookup_made, reading_made}

-- `yolluvek_weak_begin`, `yolluvek_weak_fetch`, `yolluvek_weak_start`, `yolluvek_weak_complete`, `yolluvek_weak_release`, and those that write nothing
abbrev pub Export : Type 0
Export = made.Export WeakReply

abbrev pub Made : Type 0
Made = made.Made Mem WeakReply

-- what the call's contract says, made on the words m; a list that it is lent shared keeps its words by its type
abbrev pub Contract : Mem → Export → Mem → Type 0
Contract m (step_made limits p k i s r) m' = result_of r m' ≡ replied weak_reply_of (step limits p k i s m)
Contract m (begin_made limits p k r) m' = result_of r m' ≡ replied reply_of (begin limits p k m)
Contract m (lookup_made side t r) m' =
    (r ≡ reply_of (judge_answer side (lent_of m.weights m.pred_starts m.preds m.succ_starts m.succs) t)) × (m' ≡ m)
Contract m reading_made m' = m' ≡ m

-- the call's reply has a number of 1 or more
abbrev pub Refuses : Export → Type 0
Refuses = made.Refuses (λ (r : WeakReply). r.number)

-- exported calls from an accepted begin on
abbrev pub Exporting : Type 0
Exporting = made.Exporting Contract
