-- The cases of the judging call and of the lookup, over plain lists.
use Prim.Native.Nat.{ℕ, ◌+◌, ◌≤◌, ◌<◌}
use mathlib.Core.Path.{◌≡◌, sym, ap, ◌∙◌}
use mathlib.Core.Bool.{Bool, true, false, not, ◌&&◌}
use mathlib.Core.List.{List, []}
use native.Mathlib.Omega.{arith}
use lib.ListN.{length, get_or}
use lib.Dec.{ltb, eqb}
use borrow.Author.Tests.{lt-ltb, le-ltb, eqb-true, not-true, not-false}
use Rattle.std.specs.Prelude.{Err, Ok}
use Rattle.task.specs.declared.refusal.Refusal.{Refusal}
use Rattle.task.specs.declared.refusal.Refusal.TheVariants.{BadTable, BeyondLimit, WrongLength}
use Rattle.lists.specs.Decided.{holds}
use Rattle.lists.proofs.Told.{and-true}
use Rattle.task.specs.Types.{engine}
use Rattle.task.specs.declared.Limits.{Limits}
use Rattle.task.specs.declared.Side.{Side}
use Rattle.task.specs.declared.Side.TheVariants.{Predecessors, Successors}
use Rattle.graph.specs.Graph.{part}
use Rattle.graph.specs.Decide.{good?}
use Rattle.graph.specs.Check.{sizes_fit}
use Rattle.graph.specs.Lookup.{Lent, starts_on, words_on, lengths_fit, task_fits, judge_answer, neighbours_of, LookupFits}
use Rattle.graph.proofs.Lookup.{judge-accepts, lookup-part}
use Rattle.task.specs.Refusals.{answer_says, Answer}
use Rattle.lookup.specs.Place.{word_ptr, table_ptr, InPlace}

module _ (n t : ℕ) where
  pub fits_not : (b : Bool) → n ≤ t → false ≡ (ltb t n && b)
  fits_not b h = rw (le-ltb t n h)

  pub fits-part : (r b : Bool) → t < n → r ≡ b → r ≡ (ltb t n && b)
  fits-part r b h e = rw (lt-ltb t n h) e

-- one side or the other
pub side-is : (d side : Side) (l : Lent) (t : ℕ) (r : Bool) → side ≡ d → r ≡ (ltb t (length l.weights) && holds (good? (length l.weights) (starts_on d l) (words_on d l) t)) → r ≡ task_fits side l t
unfolding task_fits
side-is d side l t r e h = rw e h

-- the three lengths, compared at once
pub starts_fit : (l : Lent) → not (lengths_fit l) ≡ false → (length l.pred_starts ≡ length l.weights + 1) × (length l.succ_starts ≡ length l.weights + 1)
unfolding lengths_fit
starts_fit l h =
    let a = and-true (eqb (length l.pred_starts) (length l.weights + 1)) (eqb (length l.succ_starts) (length l.weights + 1) && eqb (length l.succs) (length l.preds)) (not-false _ h) in
    let b = and-true (eqb (length l.succ_starts) (length l.weights + 1)) (eqb (length l.succs) (length l.preds)) a.1 in
    (eqb-true (length l.pred_starts) (length l.weights + 1) a.0, eqb-true (length l.succ_starts) (length l.weights + 1) b.0)

module _ (side : Side) (l : Lent) (t : ℕ) (limits : Limits) (is : limits ≡ engine) (ok : Bool) (h : ok ≡ sizes_fit limits (length l.weights) (length l.preds)) where
  fit : sizes_fit engine (length l.weights) (length l.preds) ≡ ok
  fit = ap (λ (x : Limits). sizes_fit x (length l.weights) (length l.preds)) (sym is) ∙ sym h

  pub judge-beyond : not ok ≡ true → Err BeyondLimit ≡ judge_answer side l t
  unfolding judge_answer
  judge-beyond e = simp (fit, not-true ok e)

  module _ (e : not ok ≡ false) where
    pub judge-lengths : not (lengths_fit l) ≡ true → Err WrongLength ≡ judge_answer side l t
    unfolding judge_answer
    judge-lengths g = simp (fit, not-false ok e, not-true (lengths_fit l) g)

    module _ (g : not (lengths_fit l) ≡ false) (f : Bool) (p : f ≡ task_fits side l t) where
      pub judge-task : not f ≡ true → Err (BadTable t) ≡ judge_answer side l t
      unfolding judge_answer
      judge-task q = simp (fit, not-false ok e, not-false (lengths_fit l) g, sym p, not-true f q)

      pub judge-accepted : not f ≡ false → Ok tt ≡ judge_answer side l t
      unfolding judge_answer
      judge-accepted q = simp (fit, not-false ok e, not-false (lengths_fit l) g, sym p, not-false f q)

-- what the lookup hands back, by what the judging call answers; the tables begin at preds and succs
module _ (side : Side) (l : Lent) (t : ℕ) (r : Answer) (h : r ≡ judge_answer side l t) where
  pub handed-nothing : (preds succs p : ℕ × ℕ) (why : Refusal) → r ≡ Err why → ([] ≡ neighbours_of side l t) × InPlace side l preds succs t p
  unfolding neighbours_of
  handed-nothing preds succs p why e = (rw (sym h ∙ e), λ a. absurd (let z : ◌≡◌ {A = ℕ} 0 1 = cc in omega arith))

  module _ (e : r ≡ Ok tt) where
    fits : LookupFits side l t
    fits = (judge-accepts side l t).0 (ap answer_says (sym h ∙ e))

    -- the task's range on a side
    pub range-on : (d : Side) → side ≡ d → (t + 1 < length (starts_on d l)) × ((get_or (starts_on d l) t 0 ≤ get_or (starts_on d l) (t + 1) 0) × (get_or (starts_on d l) (t + 1) 0 ≤ length (words_on d l)))
    range-on d w = rw w at (in-range side fits)
      where
        in-range : (x : Side) → LookupFits x l t → (t + 1 < length (starts_on x l)) × ((get_or (starts_on x l) t 0 ≤ get_or (starts_on x l) (t + 1) 0) × (get_or (starts_on x l) (t + 1) 0 ≤ length (words_on x l)))
        in-range Predecessors a = (omega (arith, a.task, a.pred_starts), (a.good.rises, a.good.inside))
        in-range Successors a = (omega (arith, a.task, a.succ_starts), (a.good.rises, a.good.inside))

    pub handed-part : (preds succs : ℕ × ℕ) (d : Side) → side ≡ d → (x : List ℕ) (p : ℕ × ℕ)
        → (x ≡ part (starts_on d l) (words_on d l) t) × (p ≡ word_ptr (table_ptr d preds succs) (get_or (starts_on d l) t 0))
        → (x ≡ neighbours_of side l t) × InPlace side l preds succs t p
    handed-part preds succs d w x p q = (
      q.0 ∙ ap (λ (z : Side). part (starts_on z l) (words_on z l) t) (sym w) ∙ sym (lookup-part side l t fits),
      λ a. q.1 ∙ ap (λ (z : Side). word_ptr (table_ptr z preds succs) (get_or (starts_on z l) t 0)) (sym w),
    )
