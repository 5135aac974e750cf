-- PROMISE: the calls on a graph are refused under the table's conditions and no others.
use Prim.Native.Nat.{ℕ, ◌+◌, ◌≤◌, ◌<◌}
use mathlib.Core.Path.{◌≡◌, refl}
use mathlib.Core.Bool.{Bool, true, false, not, ◌&&◌}
use mathlib.Core.Logic.{◌⊎◌, inl, inr}
use mathlib.Core.List.{List}
use native.Mathlib.Omega.{arith}
use native.Mathlib.Decide.{ℕ_discrete, dec_le, dec_lt}
use lib.ListN.{length, get_or}
use lib.Dec.{ltb, leb, eqb}
use borrow.Author.Tests.{not-false}
use Rattle.task.specs.declared.refusal.Refusal.TheVariants.{BadTable, BeyondLimit, Cycle, Duplicate, WrongLength}
use Rattle.lists.specs.Decided.{holds, first_below}
use Rattle.lists.proofs.Decided.{holds-yes, holds-no, first-smallest, first-least}
use Rattle.lists.proofs.Told.{Told, told-true, told, le-told, lt-told, eq-told, dec-told, and-told, not-told, and-true}
use Rattle.task.specs.Types.{capped, engine}
use Rattle.task.specs.Refusals.{accepted, answer_says, bad_table, duplicate, cycle}
use Rattle.task.specs.Rows.{Follows}
use Rattle.task.proofs.Rows.{follows-none, test-row, smallest-row}
use Rattle.task.specs.declared.Limits.{Limits}
use Rattle.task.specs.declared.Side.{Side}
use Rattle.graph.specs.Graph.{Graph, graph_of, edge_count, Edge, Leads, edge, via}
use Rattle.graph.specs.Conditions.{Bad, EndsFit, Twice, OnCycle}
use Rattle.graph.specs.Decide.{light?, good?, bad?, ends_fit?, twice?, on_cycle?, not?}
use Rattle.graph.specs.Check.{sizes_fit, first_bad, first_twice, first_on_cycle, tables_answer, check_answer}
use Rattle.graph.specs.Successors.{lent_fit, link_answer}
use Rattle.graph.specs.Lookup.{Lent, starts_on, words_on, lengths_fit, task_fits, judge_answer}
use Rattle.graph.specs.Tables.{Beyond, Heavy, Unfit, table_rows, check_rows, lookup_rows}

pub leads-task : (g : Graph) (u t : ℕ) → Leads (Edge g) u t → t < g.tasks
leads-task g u t (edge e) = e.task
leads-task g u t (via {v = v} e p) = leads-task g v t p

ends-told : (g : Graph) → Told (holds (ends_fit? g)) (¬ (¬ (◌≡◌ {A = ℕ} (get_or g.starts 0 0) 0) ⊎ ¬ (get_or g.starts g.tasks 0 ≡ edge_count g)))
    (¬ (◌≡◌ {A = ℕ} (get_or g.starts 0 0) 0) ⊎ ¬ (get_or g.starts g.tasks 0 ≡ edge_count g))
ends-told g = told (holds (ends_fit? g)) (λ e. fit (holds-yes (ends_fit? g) e)) (λ e. unfit (holds-no (ends_fit? g) e) (ℕ_discrete (get_or g.starts 0 0) 0))
  where
    fit : EndsFit g → ¬ (¬ (◌≡◌ {A = ℕ} (get_or g.starts 0 0) 0) ⊎ ¬ (get_or g.starts g.tasks 0 ≡ edge_count g))
    fit f (inl n) = n f.first
    fit f (inr n) = n f.last

    unfit : ¬ (EndsFit g) → Dec (◌≡◌ {A = ℕ} (get_or g.starts 0 0) 0) → ¬ (◌≡◌ {A = ℕ} (get_or g.starts 0 0) 0) ⊎ ¬ (get_or g.starts g.tasks 0 ≡ edge_count g)
    unfit n (yes e) = inr (λ q. n (record { first = e; last = q }))
    unfit n (no m) = inl m

-- 3, 4 and 5 of a graph
pub tables-follow : (g : Graph) → Follows (table_rows g) (answer_says (tables_answer g))
unfolding tables_answer first_bad first_twice first_on_cycle
tables-follow g =
    smallest-row g.tasks (bad? g) (λ t. (t < g.tasks) × Bad g t) (λ t p. p) (λ t p. p) BadTable bad_table (λ t. refl) _ _ (λ _.
    test-row (not (holds (ends_fit? g))) (BadTable g.tasks) _ _ (not-told (holds (ends_fit? g)) (ends-told g)) (λ _.
    smallest-row g.tasks (twice? g) (λ t. (t < g.tasks) × Twice g t) (λ t p. p) (λ t p. p) Duplicate duplicate (λ t. refl) _ _ (λ _.
    smallest-row g.tasks (on_cycle? g) (OnCycle g) (λ t p. p.1) (λ t q. (leads-task g t t q, q)) Cycle cycle (λ t. refl) _ _ (λ _.
    (follows-none accepted tt)))))

-- a number below n that lacks a property, where not all have it
find-other : (n : ℕ) {P : ℕ → Type 0} → ((t : ℕ) → Dec (P t)) → ¬ ((t : ℕ) → t < n → P t) → (t : ℕ) × ((t < n) × ¬ (P t))
find-other n {P} d f = go (dec_lt (first_below n (λ t. not? (d t))) n)
  where
    has : (t : ℕ) → Dec (P t) → ¬ (¬ (P t)) → P t
    has t (yes p) q = p
    has t (no m) q = absurd (q m)

    go : Dec (first_below n (λ t. not? (d t)) < n) → (t : ℕ) × ((t < n) × ¬ (P t))
    go (yes h) = (first_below n (λ t. not? (d t)), (h, (first-smallest n (λ t. not? (d t)) h).such.1))
    go (no m) = absurd (f (λ t l. has t (d t) (first-least n (λ k. not? (d k)) t (omega arith))))

pub weights-told : (w : List ℕ) → Told (holds (light? w)) (¬ (Heavy w)) (Heavy w)
weights-told w = told (holds (light? w)) (λ e h. omega (arith, holds-yes (light? w) e h.0 h.1.0, h.1.1)) (λ e. heavy (find-other (length w) (λ t. dec_le (get_or w t 0) 65535) (holds-no (light? w) e)))
  where
    heavy : (t : ℕ) × ((t < length w) × ¬ (get_or w t 0 ≤ 65535)) → Heavy w
    heavy h = (h.0, (h.1.0, omega (arith, h.1.1)))

pub sizes-told : (l : Limits) (n e : ℕ) → Told (sizes_fit l n e) (¬ (Beyond l n e)) (Beyond l n e)
unfolding sizes_fit
sizes-told l n e = and-told (leb n (capped l).tasks) (leb e (capped l).edges) (le-told n (capped l).tasks) (le-told e (capped l).edges)

-- the whole check, with what a call adds to it; its other lengths matter only where its other numbers are within their limits
pub check-follows : (limits : Limits) (within others : Bool) {Far Odd : Type 0} → Told within (¬ Far) Far → (within ≡ true → Told others (¬ Odd) Odd) → (weights starts preds : List ℕ)
    → Follows (check_rows limits Far Odd weights starts preds) (answer_says (check_answer limits within others weights starts preds))
unfolding check_answer
check-follows limits within others f o weights starts preds =
    test-row _ BeyondLimit _ _ (not-told _ (and-told (within && sizes_fit limits (length weights) (length preds)) (holds (light? weights)) (and-told within (sizes_fit limits (length weights) (length preds)) f (sizes-told limits (length weights) (length preds))) (weights-told weights))) (λ e.
    test-row _ WrongLength _ _ (not-told _ (and-told (eqb (length starts) (length weights + 1)) others (eq-told (length starts) (length weights + 1)) (o (passed e)))) (λ _.
    tables-follow (graph_of (length weights) starts preds)))
  where
    -- where 2 was passed, the call's own numbers are within their limits
    passed : not ((within && sizes_fit limits (length weights) (length preds)) && holds (light? weights)) ≡ false → within ≡ true
    passed e = (and-true within (sizes_fit limits (length weights) (length preds)) (and-true (within && sizes_fit limits (length weights) (length preds)) (holds (light? weights)) (not-false _ e)).0).0

nothing-more : Told true (¬ ⊥) ⊥
nothing-more = told-true refl (λ x. x)

-- the check alone
pub graph-follows : (limits : Limits) (weights starts preds : List ℕ) → Follows (check_rows limits ⊥ ⊥ weights starts preds) (answer_says (check_answer limits true true weights starts preds))
graph-follows limits weights starts preds = check-follows limits true true nothing-more (λ _. nothing-more) weights starts preds

-- the filling call
pub link-follows : (limits : Limits) (weights starts preds s w d : List ℕ)
    → Follows (check_rows limits ⊥ (Unfit weights preds s w d) weights starts preds) (answer_says (link_answer limits weights starts preds s w d))
unfolding link_answer lent_fit
link-follows limits weights starts preds s w d =
    check-follows limits true (lent_fit weights preds s w d) nothing-more
    (λ _. and-told (eqb (length s) (length weights + 1)) _ (eq-told (length s) (length weights + 1))
    (and-told (eqb (length w) (length preds)) (eqb (length d) (length weights)) (eq-told (length w) (length preds)) (eq-told (length d) (length weights))))
    weights starts preds

-- the judging call of the lookup
pub judge-follows : (side : Side) (l : Lent) (t : ℕ) → Follows (lookup_rows side l t) (answer_says (judge_answer side l t))
unfolding judge_answer lengths_fit task_fits
judge-follows side l t =
    test-row _ BeyondLimit _ _ (not-told _ (sizes-told engine (length l.weights) (length l.preds))) (λ _.
    test-row _ WrongLength _ _
    (not-told _ (and-told (eqb (length l.pred_starts) (length l.weights + 1)) _ (eq-told (length l.pred_starts) (length l.weights + 1))
    (and-told (eqb (length l.succ_starts) (length l.weights + 1)) (eqb (length l.succs) (length l.preds)) (eq-told (length l.succ_starts) (length l.weights + 1)) (eq-told (length l.succs) (length l.preds)))))
    (λ _. test-row _ (BadTable t) _ _
    (not-told _ (and-told (ltb t (length l.weights)) (holds (good? (length l.weights) (starts_on side l) (words_on side l) t)) (lt-told t (length l.weights)) (dec-told (good? (length l.weights) (starts_on side l) (words_on side l) t))))
    (λ _. follows-none accepted tt)))
