-- PROMISE: the number of a reply is 0 exactly if the call was accepted, and else number and detail are those of the first row of the
-- published table that holds; what the exported numbers mean.
use Prim.Native.Nat.{ℕ, ◌≤◌}
use mathlib.Core.Path.{◌≡◌, refl, sym, ap}
use native.Mathlib.Omega.{arith}
use mathlib.Core.Bool.{true}
use mathlib.Core.Logic.{◌↔◌}
use mathlib.Core.List.{List}
use Rattle.std.specs.Prelude.{Err, Ok}
use Rattle.task.specs.Refusals.{answer_says, Answer}
use Rattle.task.specs.Rows.{Given, Acceptance}
use Rattle.task.proofs.Said.{zero-accepts}
use Rattle.task.specs.declared.Limits.{Limits}
use Rattle.task.specs.declared.Side.{Side}
use Rattle.task.specs.declared.Side.TheVariants.{Predecessors, Successors}
use Rattle.graph.specs.Check.{check_answer}
use Rattle.graph.specs.Successors.{linked}
use Rattle.graph.specs.Lookup.{Lent, judge_answer}
use Rattle.graph.specs.Tables.{Unfit, check_rows, lookup_rows}
use Rattle.graph.proofs.Refusals.{graph-follows, judge-follows}
use Rattle.graph.proofs.Linked.{linked-follows, linked-refused}
use Rattle.replies.specs.Replies.{reply_of}
use Rattle.replies.proofs.Told.{tells-refusal}
use Rattle.graph_export.proofs.Laws.{side-other}
use Rattle.graph_export.specs.Replies.{limits_of, side_of, replied}

-- (`judge-zero` in the crate `graph` is that of the judging call)
module _ (limits : Limits) (weights starts preds : List ℕ) where
  pub check-zero : ((reply_of (check_answer limits true true weights starts preds)).number ≡ 0) ↔ Acceptance (answer_says (check_answer limits true true weights starts preds))
  check-zero = zero-accepts (check_rows limits ⊥ ⊥ weights starts preds) _ (graph-follows limits weights starts preds) refl

  pub check-tells : (n d : ℕ) → 1 ≤ n
      → (((reply_of (check_answer limits true true weights starts preds)).number ≡ n) × ((reply_of (check_answer limits true true weights starts preds)).detail ≡ d))
      ↔ Given (check_rows limits ⊥ ⊥ weights starts preds) n d
  check-tells = tells-refusal (check_rows limits ⊥ ⊥ weights starts preds) _ (graph-follows limits weights starts preds)

  pub link-zero : (s w d : List ℕ)
      → ((replied (linked limits weights starts preds s w d)).reply.number ≡ 0) ↔ Acceptance (answer_says (linked limits weights starts preds s w d).answer)
  link-zero s w d =
      zero-accepts (check_rows limits ⊥ (Unfit weights preds s w d) weights starts preds) _ (linked-follows limits weights starts preds s w d) refl

  pub link-tells : (s w d : List ℕ) (n e : ℕ) → 1 ≤ n
      → (((replied (linked limits weights starts preds s w d)).reply.number ≡ n) × ((replied (linked limits weights starts preds s w d)).reply.detail ≡ e))
      ↔ Given (check_rows limits ⊥ (Unfit weights preds s w d) weights starts preds) n e
  link-tells s w d = tells-refusal (check_rows limits ⊥ (Unfit weights preds s w d) weights starts preds) _ (linked-follows limits weights starts preds s w d)

  -- what a host finds: where the number is 1 or more, the three lists are what they were
  pub link-heard : (s w d : List ℕ) → 1 ≤ (replied (linked limits weights starts preds s w d)).reply.number
      → ((linked limits weights starts preds s w d).starts ≡ s)
      × (((linked limits weights starts preds s w d).succs ≡ w) × ((linked limits weights starts preds s w d).degrees ≡ d))
  link-heard s w d = go (linked limits weights starts preds s w d).answer refl
    where
      go : (a : Answer) → (linked limits weights starts preds s w d).answer ≡ a → 1 ≤ (replied (linked limits weights starts preds s w d)).reply.number
          → ((linked limits weights starts preds s w d).starts ≡ s)
          × (((linked limits weights starts preds s w d).succs ≡ w) × ((linked limits weights starts preds s w d).degrees ≡ d))
      go (Err why) e h = linked-refused limits weights starts preds s w d _ _ (ap answer_says e)
      go (Ok u) e h = absurd (omega (arith, rw e at h))

pub judge-tells : (side : Side) (l : Lent) (t n d : ℕ) → 1 ≤ n
    → (((reply_of (judge_answer side l t)).number ≡ n) × ((reply_of (judge_answer side l t)).detail ≡ d)) ↔ Given (lookup_rows side l t) n d
judge-tells side l t = tells-refusal (lookup_rows side l t) _ (judge-follows side l t)

-- the exported limits on N and E, and the sides' numbers
pub limits-hold : (n e : ℕ) → limits_of n e ≡ record { tasks = n; edges = e; workers = 16; slots = 64 }
limits-hold n e = refl

pub sides-hold : (side_of 0 ≡ Predecessors) × ((n : ℕ) → 1 ≤ n → side_of n ≡ Successors)
sides-hold = (refl, λ n h. sym (side-other n (λ e. omega (arith, e, h))))
