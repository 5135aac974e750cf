-- PROMISE: where 3 and 4 are passed, the check's answer is told by the tasks that stripping leaves, whatever the order.
use Prim.Native.Nat.{ℕ}
use mathlib.Core.Path.{◌≡◌, refl, ap, ◌∙◌}
use mathlib.Core.Logic.{◌⊎◌, inl, inr}
use mathlib.Core.List.{List}
use lib.ListN.{length}
use Rattle.std.specs.Prelude.{Err, Ok}
use Rattle.lists.specs.Decided.{Smallest}
use Rattle.lists.proofs.Decided.{smallest-unique}
use Rattle.task.specs.Refusals.{cycle, refused, accepted, answer_says, Answer, refusal_detail}
use Rattle.graph.specs.Graph.{Graph}
use Rattle.graph.specs.Conditions.{OnCycle}
use Rattle.graph.specs.Check.{tables_answer}
use Rattle.graph.specs.Stripping.{Strips, Whole, Left, Judges5, JudgedBy}
use Rattle.graph.proofs.Accepted.{accepted-iff, cycle-named}
use Rattle.graph.proofs.Stripping.{left-smallest, all-stripped, acyclic-all}

abbrev Either5 : Answer → Type 0
Either5 a = (answer_says a ≡ accepted) ⊎ ((d : ℕ) × (answer_says a ≡ refused cycle d))

either5 : (a : Answer) → Judges5 a → Either5 a
either5 (Ok u) j = inl refl
either5 (Err why) j = inr (refusal_detail why, ap (λ (k : ℕ). refused k (refusal_detail why)) j)

module _ {g : Graph} {order : List ℕ} (s : Strips g order) (w : Whole g order) where
  pub judged-by : Judges5 (tables_answer g) → JudgedBy g order
  judged-by j =
      record {
        names = λ d. (λ e. (left-smallest s w d).0 (cycle-named g d e), λ m. named d m (either5 (tables_answer g) j));
        accepts = (λ e. acyclic-all s w ((accepted-iff g).0 e).acyclic, λ e. passed e (either5 (tables_answer g) j));
      }
    where
      named : (d : ℕ) → Smallest (λ t. Left order t × OnCycle g t) d → Either5 (tables_answer g) → answer_says (tables_answer g) ≡ refused cycle d
      named d m (inl e) = absurd (((accepted-iff g).0 e).acyclic d m.such.1)
      named d m (inr p) = p.1 ∙ ap (λ (k : ℕ). refused cycle k) (smallest-unique (cycle-named g p.0 p.1) ((left-smallest s w d).1 m))

      passed : length order ≡ g.tasks → Either5 (tables_answer g) → answer_says (tables_answer g) ≡ accepted
      passed e (inl a) = a
      passed e (inr p) = absurd (all-stripped s w e p.0 (cycle-named g p.0 p.1).such)
