-- PROMISE: the judging call answers 0 and 0 exactly if the lookup is accepted, an accepted lookup hands back the task's part of
-- the table, and a refused one an empty part.
use Prim.Native.Nat.{ℕ, ◌+◌, ◌≤◌}
use mathlib.Core.Path.{◌≡◌, refl}
use mathlib.Core.Logic.{◌⊎◌, inl, inr, ◌↔◌}
use mathlib.Core.List.{[]}
use native.Mathlib.Omega.{arith}
use native.Mathlib.Decide.{ℕ_discrete, dec_le, dec_lt}
use lib.ListN.{length}
use Rattle.std.specs.Prelude.{Err, Ok}
use Rattle.task.specs.Types.{capped, engine}
use Rattle.task.specs.Refusals.{answer_says, accepted, number_of, detail_of, Answer}
use Rattle.task.specs.Rows.{Clear}
use Rattle.task.proofs.Said.{zero-accepts}
use Rattle.task.specs.declared.Side.{Side}
use Rattle.graph.specs.Graph.{part}
use Rattle.graph.specs.Conditions.{Good}
use Rattle.graph.specs.Decide.{good?}
use Rattle.graph.specs.Lookup.{Lent, starts_on, words_on, LookupFits, judge_answer, handed, neighbours_of}
use Rattle.graph.specs.Tables.{lookup_rows, Beyond}
use Rattle.graph.proofs.Refusals.{judge-follows}
use Rattle.lists.proofs.Decided.{stable}
use Rattle.graph.proofs.Accepted.{said-accepted}

module _ (side : Side) (l : Lent) (t : ℕ) where
  clear-fits : Clear (lookup_rows side l t) → LookupFits side l t
  unfolding capped
  clear-fits c = record {
    tasks = stable (dec_le (length l.weights) 1024) (λ n. c.0 0 (refl, inl (omega arith)));
    edges = stable (dec_le (length l.preds) 8192) (λ n. c.0 0 (refl, inr (omega arith)));
    pred_starts = stable (ℕ_discrete (length l.pred_starts) (length l.weights + 1)) (λ n. c.1.0 0 (refl, inl n));
    succ_starts = stable (ℕ_discrete (length l.succ_starts) (length l.weights + 1)) (λ n. c.1.0 0 (refl, inr (inl n)));
    succs = stable (ℕ_discrete (length l.succs) (length l.preds)) (λ n. c.1.0 0 (refl, inr (inr n)));
    task = stable (dec_lt t (length l.weights)) (λ n. c.1.1.0 t (refl, inl (omega arith)));
    good = stable (good? (length l.weights) (starts_on side l) (words_on side l) t) (λ n. c.1.1.0 t (refl, inr n));
  }

  fits-clear : LookupFits side l t → Clear (lookup_rows side l t)
  unfolding capped
  fits-clear a = (λ d p. sizes p.1, (λ d p. lengths p.1, (λ d p. fits p.1, tt)))
    where
      sizes : Beyond engine (length l.weights) (length l.preds) → ⊥
      sizes (inl h) = omega (arith, a.tasks)
      sizes (inr h) = omega (arith, a.edges)

      lengths : ¬ (length l.pred_starts ≡ length l.weights + 1) ⊎ (¬ (length l.succ_starts ≡ length l.weights + 1) ⊎ ¬ (length l.succs ≡ length l.preds)) → ⊥
      lengths (inl n) = n a.pred_starts
      lengths (inr (inl n)) = n a.succ_starts
      lengths (inr (inr n)) = n a.succs

      fits : (length l.weights ≤ t) ⊎ ¬ (Good (length l.weights) (starts_on side l) (words_on side l) t) → ⊥
      fits (inl h) = omega (arith, a.task)
      fits (inr n) = n a.good

  pub judge-accepts : (answer_says (judge_answer side l t) ≡ accepted) ↔ LookupFits side l t
  judge-accepts = (
    λ e. clear-fits ((judge-follows side l t).accepts.0 ((said-accepted (judge_answer side l t)).0 e)),
    λ a. (said-accepted (judge_answer side l t)).1 ((judge-follows side l t).accepts.1 (fits-clear a)),
  )

  judged-fits : LookupFits side l t → judge_answer side l t ≡ Ok tt
  judged-fits a = go (judge_answer side l t) (judge-accepts.1 a)
    where
      go : (r : Answer) → answer_says r ≡ accepted → r ≡ Ok tt
      go (Ok u) e = refl
      go (Err why) e = absurd (let z : ◌≡◌ {A = ℕ} 0 1 = cc in omega arith)

  -- "which answers 0 and 0 exactly if the lookup is accepted"
  pub judge-zero : ((number_of (answer_says (judge_answer side l t)) ≡ 0) × (detail_of (answer_says (judge_answer side l t)) ≡ 0)) ↔ LookupFits side l t
  judge-zero = (
    λ p. clear-fits ((judge-follows side l t).accepts.0 ((zero-accepts (lookup_rows side l t) _ (judge-follows side l t) refl).0 p.0)),
    λ a. rw (judge-accepts.1 a) (refl, refl),
  )

  -- the part of an accepted lookup
  pub lookup-part : LookupFits side l t → neighbours_of side l t ≡ part (starts_on side l) (words_on side l) t
  unfolding neighbours_of
  lookup-part a = rw (judged-fits a)

  -- and of a refused one
  pub lookup-empty : ¬ (LookupFits side l t) → neighbours_of side l t ≡ []
  unfolding neighbours_of
  lookup-empty n = go (judge_answer side l t) (λ e. n (judge-accepts.0 (rw e)))
    where
      go : (a : Answer) → ¬ (a ≡ (Ok tt)) → handed a (part (starts_on side l) (words_on side l) t) ≡ []
      go (Ok u) m = absurd (m refl)
      go (Err why) m = refl
