-- PROMISE: the filling call answers as the check does; a refused one leaves every lent list as it was, an accepted one leaves the
-- successor table and the degrees, and then every task's neighbours can be looked up on both sides.
use Prim.Native.Nat.{ℕ, ◌<◌}
use mathlib.Core.Path.{◌≡◌, refl}
use mathlib.Core.List.{List}
use native.Mathlib.Omega.{arith}
use lib.ListN.{length}
use Rattle.std.specs.Prelude.{Err, Ok}
use Rattle.task.specs.Refusals.{answer_says, refused, accepted, Answer}
use Rattle.task.specs.Rows.{Follows}
use Rattle.task.specs.declared.Limits.{Limits}
use Rattle.task.specs.declared.Side.{Side}
use Rattle.graph.specs.Graph.{Graph, graph_of}
use Rattle.graph.specs.Successors.{succ_starts_of, succ_words, degree_list, Linked, fill_if, link_answer, linked}
use Rattle.graph.specs.Lookup.{lent_of, LookupFits}
use Rattle.graph.specs.Tables.{Unfit, check_rows}
use Rattle.graph.proofs.Refusals.{link-follows}
use Rattle.graph.proofs.Accepted.{link-accepted-iff, fits-sound}
use Rattle.graph.proofs.Reversed.{table-lookup}

-- the two ways to leave the lists
module _ (g : Graph) (s w d : List ℕ) where
  fill-answer : (a : Answer) → (fill_if a g s w d).answer ≡ a
  fill-answer (Ok u) = refl
  fill-answer (Err why) = refl

  fill-kept : (a : Answer) (n x : ℕ) → answer_says (fill_if a g s w d).answer ≡ refused n x
      → ((fill_if a g s w d).starts ≡ s) × (((fill_if a g s w d).succs ≡ w) × ((fill_if a g s w d).degrees ≡ d))
  fill-kept (Ok u) n x e = absurd (let z : ◌≡◌ {A = ℕ} 0 1 = cc in omega arith)
  fill-kept (Err why) n x e = (refl, (refl, refl))

  fill_done : (a : Answer) → answer_says (fill_if a g s w d).answer ≡ accepted
      → ((fill_if a g s w d).starts ≡ succ_starts_of g) × (((fill_if a g s w d).succs ≡ succ_words g) × ((fill_if a g s w d).degrees ≡ degree_list g))
  fill_done (Ok u) e = (refl, (refl, refl))
  fill_done (Err why) e = absurd (let z : ◌≡◌ {A = ℕ} 0 1 = cc in omega arith)

module _ (limits : Limits) (weights starts preds s w d : List ℕ) where
  -- what the filling call leaves
  abbrev pub left : Linked
  left = linked limits weights starts preds s w d

  linked-answer : left.answer ≡ link_answer limits weights starts preds s w d
  unfolding linked
  linked-answer = fill-answer (graph_of (length weights) starts preds) s w d (link_answer limits weights starts preds s w d)

  -- the table's rows decide its answer
  pub linked-follows : Follows (check_rows limits ⊥ (Unfit weights preds s w d) weights starts preds) (answer_says left.answer)
  linked-follows = rw linked-answer (link-follows limits weights starts preds s w d)

  -- refused: "all lent memory keeps its words"
  pub linked-refused : (n x : ℕ) → answer_says left.answer ≡ refused n x → (left.starts ≡ s) × ((left.succs ≡ w) × (left.degrees ≡ d))
  unfolding linked
  linked-refused n x e = fill-kept (graph_of (length weights) starts preds) s w d (link_answer limits weights starts preds s w d) n x e

  module _ (e : answer_says left.answer ≡ accepted) where
    -- accepted: "Successors are filled, degrees are numbers of predecessors"
    pub linked-accepted : (left.starts ≡ succ_starts_of (graph_of (length weights) starts preds))
        × ((left.succs ≡ succ_words (graph_of (length weights) starts preds)) × (left.degrees ≡ degree_list (graph_of (length weights) starts preds)))
    unfolding linked
    linked-accepted = fill_done (graph_of (length weights) starts preds) s w d (link_answer limits weights starts preds s w d) e

    -- and every task's neighbours can be looked up on both sides
    pub linked-lookup : (side : Side) (t : ℕ) → t < length weights → LookupFits side (lent_of weights starts preds left.starts left.succs) t
    linked-lookup side t h =
        rw (linked-accepted.0, linked-accepted.1.0)
        (table-lookup weights starts preds (fits-sound ((link-accepted-iff limits weights starts preds s w d).0 (rw linked-answer at e)).1) side t h)
