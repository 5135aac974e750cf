-- The cases of the call: refused, and the lists stay; accepted, and what the check has shown lets them be filled.
use Prim.Native.Nat.{ℕ, ◌+◌}
use mathlib.Core.Path.{◌≡◌, sym, ap, ◌∙◌}
use mathlib.Core.Bool.{true}
use mathlib.Core.Logic.{inl, inr}
use mathlib.Core.List.{List}
use native.Mathlib.Decide.{ℕ_discrete}
use lib.ListN.{length}
use Rattle.std.specs.Prelude.{Err, Ok}
use Rattle.task.specs.declared.refusal.Refusal.{Refusal}
use Rattle.lists.proofs.Decided.{stable}
use Rattle.task.specs.Refusals.{answer_says, Answer}
use Rattle.task.specs.declared.Limits.{Limits}
use Rattle.graph.specs.Graph.{graph_of}
use Rattle.graph.specs.Conditions.{Sound, GraphFits}
use Rattle.graph.specs.Check.{check_answer}
use Rattle.graph.specs.Successors.{succ_starts_of, succ_words, degree_list, linked_of, lent_fit, link_answer, linked}
use Rattle.graph.specs.Tables.{Unfit}
use Rattle.graph.proofs.Accepted.{link-accepted-iff, fits-sound}

module _ (limits : Limits) (weights starts preds s w d : List ℕ) (a : Answer) (ha : a ≡ check_answer limits true (lent_fit weights preds s w d) weights starts preds) where
  answers : link_answer limits weights starts preds s w d ≡ a
  unfolding link_answer
  answers = sym ha

  pub link-refused : (why : Refusal) → a ≡ Err why → linked_of (Err why) s w d ≡ linked limits weights starts preds s w d
  unfolding linked
  link-refused why e = rw (answers, e)

  module _ (e : a ≡ Ok tt) where
    fits : (¬ (Unfit weights preds s w d)) × GraphFits limits weights starts preds
    fits = (link-accepted-iff limits weights starts preds s w d).0 (ap answer_says (answers ∙ e))

    -- what filling asks
    pub link-fillable : Sound (graph_of (length weights) starts preds) × ((length s ≡ length weights + 1) × ((length w ≡ length preds) × (length d ≡ length weights)))
    link-fillable = (
      fits-sound fits.1,
      (
        stable (ℕ_discrete (length s) (length weights + 1)) (λ n. fits.0 (inl n)),
        (
          stable (ℕ_discrete (length w) (length preds)) (λ n. fits.0 (inr (inl n))),
          stable (ℕ_discrete (length d) (length weights)) (λ n. fits.0 (inr (inr n))),
        ),
      ),
    )

    pub link-filled : (s' w' d' : List ℕ) → s' ≡ succ_starts_of (graph_of (length weights) starts preds) → w' ≡ succ_words (graph_of (length weights) starts preds) → d' ≡ degree_list (graph_of (length weights) starts preds)
        → linked_of (Ok tt) s' w' d' ≡ linked limits weights starts preds s w d
    unfolding linked
    link-filled s' w' d' p q r = rw (answers, e, p, q, r)
