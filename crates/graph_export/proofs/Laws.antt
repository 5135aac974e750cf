-- A reply is its answer's number and detail, whatever the answer comes from.
use Prim.Native.Nat.{ℕ, ◌+◌, ◌-◌, ◌≤◌, ◌<◌}
use mathlib.Core.Path.{◌≡◌, refl, sym, ap, ◌∙◌}
use mathlib.Core.Bool.{true}
use mathlib.Core.List.{List}
use lib.ListN.{length, get_or, take, drop}
use borrow.Author.Tests.{eq-eqb, ne_eqb}
use Rattle.std.specs.Prelude.{Err, Ok}
use Rattle.task.specs.declared.refusal.Refusal.{Refusal}
use Rattle.task.specs.Refusals.{Answer}
use Rattle.task.specs.declared.Limits.{Limits}
use Rattle.task.specs.declared.Side.{Side}
use Rattle.task.specs.declared.Side.TheVariants.{Predecessors, Successors}
use Rattle.graph.specs.Check.{check_answer}
use Rattle.graph.specs.Successors.{linked_of, linked}
use Rattle.graph.specs.Graph.{part}
use Rattle.graph.specs.Lookup.{Lent, starts_on, words_on, judge_answer, handed, neighbours_of}
use Rattle.lookup.proofs.Laws.{range-on}
use Rattle.replies.specs.declared.Reply.{Reply}
use Rattle.replies.specs.Replies.{reply_of}
use Rattle.graph_export.specs.declared.Part.{Part}
use Rattle.graph_export.specs.Replies.{side_of, replied, replied_of, part_for, part_in}

pub side-zero : (n : ℕ) → n ≡ 0 → Predecessors ≡ side_of n
side-zero n e = rw (eq-eqb n 0 e)

pub side-other : (n : ℕ) → (n ≡ 0 → ⊥) → Successors ≡ side_of n
side-other n e = rw (ne_eqb n 0 e)

module _ (r : Reply) (a : Answer) (e : r ≡ reply_of a) where
  pub check-reply : (l m : Limits) (weights starts preds : List ℕ) → l ≡ m → a ≡ check_answer l true true weights starts preds → r ≡ reply_of (check_answer m true true weights starts preds)
  check-reply l m weights starts preds p q = rw (e, q, p)

  pub link-reply : (l m : Limits) (weights starts preds s w d s' w' d' : List ℕ) → l ≡ m → linked_of a s' w' d' ≡ linked l weights starts preds s w d
      → replied_of r s' w' d' ≡ replied (linked m weights starts preds s w d)
  link-reply l m weights starts preds s w d s' w' d' p q = rw (e, ← p) (ap replied q)

  pub judge-reply : (side on : Side) (l : Lent) (t u : ℕ) → on ≡ side → u ≡ t → a ≡ judge_answer on l u → r ≡ reply_of (judge_answer side l t)
  judge-reply side on l t u p z q = rw (e, q, p, z)

part-made : (r : Part) (place count : ℕ) → r.place ≡ place → r.count ≡ count → r ≡ record { place = place; count = count }
part-made r place count a b = rw (sym a, sym b)

-- the part of a lookup that is judged on the side and the task as they were handed over
module _ (side on : Side) (l : Lent) (t u : ℕ) (a : Answer) (p : on ≡ side) (z : u ≡ t) (q : a ≡ judge_answer on l u) where
  judged : a ≡ judge_answer side l t
  judged = q ∙ ap (λ (x : Side). judge_answer x l u) p ∙ ap (judge_answer side l) z

  pub part-refused : (why : Refusal) → a ≡ Err why → record { place = 0; count = 0 } ≡ part_in side l t
  unfolding part_in
  part-refused why e = rw (sym judged ∙ e)

  module _ (e : a ≡ Ok tt) (d : Side) (o : on ≡ d) where
    pub part-range : (t + 1 < length (starts_on d l)) × (get_or (starts_on d l) t 0 ≤ get_or (starts_on d l) (t + 1) 0)
    part-range = let r = range-on side l t a judged e d (sym p ∙ o) in (r.0, r.1.0)

    pub part-accepted : (r : Part) → (r.place ≡ get_or (starts_on d l) t 0) × (r.count ≡ get_or (starts_on d l) (t + 1) 0 - get_or (starts_on d l) t 0)
        → r ≡ part_in side l t
    unfolding part_in
    part-accepted r f = rw (sym judged ∙ e) (part-made r _ _ f.0 f.1 ∙ ap (λ (x : Side). part_for (Ok tt) x l t) (sym o ∙ p))

-- the part is the neighbours
pub part-is : (side : Side) (l : Lent) (t : ℕ) → neighbours_of side l t ≡ take (part_in side l t).count (drop (part_in side l t).place (words_on side l))
unfolding part_in neighbours_of part
part-is side l t = go (judge_answer side l t)
  where
    go : (a : Answer) → handed a (part (starts_on side l) (words_on side l) t) ≡ take (part_for a side l t).count (drop (part_for a side l t).place (words_on side l))
    go (Err why) = refl
    go (Ok u) = refl
