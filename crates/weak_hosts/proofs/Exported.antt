-- PROMISE: the equation in the contract of each exported weak call is its link in what the host sees, the reply being read as what was said. So a host of
-- the exports sees a weak run (`hosted`, `hosted-fair`, `crates/weak_runs/proofs/Hosted.antt`).
use Prim.Native.Nat.{ℕ}
use mathlib.Core.Path.{◌≡◌, refl}
use Rattle.task.specs.declared.Limits.{Limits}
use Rattle.task.specs.declared.Side.{Side}
use Rattle.task.specs.declared.Step.{Step}
use Rattle.task.proofs.Said.{zero-accepts}
use Rattle.graph.specs.Lookup.{Lent, lent_of}
use Rattle.graph.specs.Tables.{lookup_rows}
use Rattle.graph.proofs.Refusals.{judge-follows}
use Rattle.weak_rules.specs.Memory.{Mem}
use Rattle.weak_rules.specs.Begin.{begin}
use Rattle.weak_rules.specs.Steps.{step}
use Rattle.weak_rules.specs.Plans.{result_of}
use Rattle.weak_runs.specs.Calls.{step_call, begin_call, lookup_call}
use Rattle.weak_runs.specs.Hosted.{seen_as, Link}
use Rattle.weak_runs.proofs.Links.{replied-step, replied-begin, replied-lookup, judged}
use Rattle.replies.specs.declared.Reply.{Reply}
use Rattle.replies.specs.Replies.{reply_of}
use Rattle.weak_replies.specs.declared.WeakReply.{WeakReply}
use Rattle.weak_replies.specs.Replies.{weak_reply_of}
use Rattle.weak_export.specs.Replies.{replied}
use Rattle.weak_export.proofs.Told.{begin-zero, step-zero}
use Rattle.hosts.specs.Heard.{heard}
use Rattle.hosts.proofs.Heard.{heard-said}
use Rattle.weak_hosts.specs.Heard.{step_heard}
use Rattle.weak_hosts.proofs.Heard.{step-heard-said}

module _ (m : Mem) where
  -- a step, with the limits of its export
  pub exported-step : (limits : Limits) (p k i : ℕ) (s : Step) (r : WeakReply) (m' : Mem) → result_of r m' ≡ replied weak_reply_of (step limits p k i s m)
      → Link m (seen_as (step_call limits p k i s) (step_heard r) m')
  exported-step limits p k i s = replied-step m limits p k i s weak_reply_of step_heard (step-heard-said (step limits p k i s m).answer (step-zero limits p k m i s).0)

  -- begin
  pub exported-begin : (limits : Limits) (p k : ℕ) (r : Reply) (m' : Mem) → result_of r m' ≡ replied reply_of (begin limits p k m)
      → Link m (seen_as (begin_call limits p k) (heard r) m')
  exported-begin limits p k = replied-begin m limits p k reply_of heard (heard-said (begin limits p k m).answer (begin-zero limits p k m).0)

  abbrev lent_now : Lent
  lent_now = lent_of m.weights m.pred_starts m.preds m.succ_starts m.succs

  -- `yolluvek_judge_lookup`: it writes nothing
  pub exported-lookup : (side : Side) (t : ℕ) (r : Reply) → r ≡ reply_of (judged m side t)
      → Link m (seen_as (lookup_call side t) (heard r) m)
  exported-lookup side t =
      replied-lookup m side t reply_of heard
      (heard-said (judged m side t) (zero-accepts (lookup_rows side lent_now t) _ (judge-follows side lent_now t) refl).0)
