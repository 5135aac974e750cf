-- PROMISES: a graph is accepted by rows 3 to 5 exactly if it is acceptable; and it then has a rank that rises along every edge.
use Prim.Native.Nat.{ℕ, ◌+◌, ◌≤◌, ◌<◌}
use mathlib.Core.Path.{◌≡◌, refl}
use mathlib.Core.Logic.{◌⊎◌, inl, inr, ◌↔◌}
use native.Mathlib.Omega.{arith}
use native.Mathlib.Decide.{ℕ_discrete, dec_le, dec_lt}
use mathlib.Core.Bool.{true}
use mathlib.Core.List.{List}
use lib.ListN.{length, get_or}
use Rattle.std.specs.Prelude.{Err, Ok}
use Rattle.lists.specs.Decided.{tally, first_below, Smallest}
use Rattle.lists.specs.Lists.{occ}
use Rattle.lists.specs.Sums.{sum_to}
use Rattle.lists.proofs.Decided.{stable, first-smallest, first-least, tally-le, tally-no, tally-yes}
use Rattle.lists.proofs.Sums.{sum_lt}
use Rattle.task.specs.Refusals.{answer_says, refused, accepted, cycle, Answer}
use Rattle.task.specs.Types.{capped}
use Rattle.task.specs.declared.Limits.{Limits}
use Rattle.task.specs.Rows.{Acceptance, Given, Clear}
use Rattle.graph.specs.Graph.{Graph, graph_of, edge_count, preds_of, Edge, edge}
use Rattle.graph.specs.Conditions.{Twice, OnCycle, Acceptable, Sound, GraphFits}
use Rattle.graph.specs.Decide.{bad?, good?, twice?, on_cycle?, leads?, leads-append}
use Rattle.graph.specs.Check.{tables_answer, check_answer}
use Rattle.graph.specs.Successors.{link_answer}
use Rattle.graph.specs.Tables.{Beyond, Heavy, Unfit, table_rows, check_rows}
use Rattle.graph.proofs.Refusals.{tables-follow, graph-follows, link-follows, leads-task}

-- what has no smallest task below n has none
none-smallest : (n : ℕ) {P : ℕ → Type 0} (d : (t : ℕ) → Dec (P t)) → ((k : ℕ) → ¬ (Smallest (λ t. (t < n) × P t) k)) → (t : ℕ) → t < n → ¬ (P t)
none-smallest n {P} d f t h = go (dec_lt (first_below n d) n)
  where
    go : Dec (first_below n d < n) → ¬ (P t)
    go (yes l) = absurd (f (first_below n d) (first-smallest n d l))
    go (no m) = first-least n d t (omega arith)

pub said-accepted : (a : Answer) → (answer_says a ≡ accepted) ↔ Acceptance (answer_says a)
said-accepted (Ok v) = (λ e. tt, λ u. refl)
said-accepted (Err why) = (λ e. absurd (let z : ◌≡◌ {A = ℕ} 0 1 = cc in omega arith), λ h. absurd h)

module _ (g : Graph) where
  clear-acceptable : Clear (table_rows g) → Acceptable g
  clear-acceptable c = record {
    good = λ t h. stable (good? g.tasks g.starts g.preds t) (none-smallest g.tasks (bad? g) c.0 t h);
    ends = record { first = stable (ℕ_discrete (get_or g.starts 0 0) 0) (λ n. c.1.0 g.tasks (refl, inl n)); last = stable (ℕ_discrete (get_or g.starts g.tasks 0) (edge_count g)) (λ n. c.1.0 g.tasks (refl, inr n)) };
    once = λ t u h. few t u (none-smallest g.tasks (twice? g) c.1.1.0 t h);
    acyclic = λ t p. none-smallest g.tasks (on_cycle? g) (λ k s. c.1.1.1.0 k (record { such = s.such.1; least = λ j l q. s.least j l (leads-task g j j q, q) })) t (leads-task g t t p) p;
  }
    where
      few : (t u : ℕ) → ¬ (Twice g t) → occ u (preds_of g t) ≤ 1
      few t u f = stable (dec_le (occ u (preds_of g t)) 1) (λ m. f (u, omega arith))

  acceptable-clear : Acceptable g → Clear (table_rows g)
  acceptable-clear a = (
    λ d s. s.such.1 (a.good d s.such.0),
    (
      λ d p. ends p.1,
      (
        λ d s. omega (arith, s.such.1.1, a.once d s.such.1.0 s.such.0),
        (λ d s. a.acyclic d s.such, tt),
      ),
    ),
  )
    where
      ends : ¬ (◌≡◌ {A = ℕ} (get_or g.starts 0 0) 0) ⊎ ¬ (get_or g.starts g.tasks 0 ≡ edge_count g) → ⊥
      ends (inl n) = n a.ends.first
      ends (inr n) = n a.ends.last

  clear-iff : Clear (table_rows g) ↔ Acceptable g
  clear-iff = (clear-acceptable, acceptable-clear)

  -- 3, 4 and 5 are passed exactly by an acceptable graph
  pub accepted-iff : (answer_says (tables_answer g) ≡ accepted) ↔ Acceptable g
  accepted-iff = (
    λ e. clear-iff.0 ((tables-follow g).accepts.0 ((said-accepted (tables_answer g)).0 e)),
    λ a. (said-accepted (tables_answer g)).1 ((tables-follow g).accepts.1 (clear-iff.1 a)),
  )

  -- 5 names the smallest task on a cycle, so never one behind or before it
  pub cycle-named : (d : ℕ) → answer_says (tables_answer g) ≡ refused cycle d → Smallest (OnCycle g) d
  cycle-named d e = go (((tables-follow g).refuses cycle d).0 e)
    where
      go : Given (table_rows g) cycle d → Smallest (OnCycle g) d
      go (inl p) = absurd (omega (arith, p.0))
      go (inr (_, inl p)) = absurd (omega (arith, p.0))
      go (inr (_, inr (_, inl p))) = absurd (omega (arith, p.0))
      go (inr (_, inr (_, inr (_, inl p)))) = p.1
      go (inr (_, inr (_, inr (_, inr (_, p))))) = absurd p

  -- how many tasks have a path to t
  pub rank : ℕ → ℕ
  rank t = sum_to g.tasks (λ u. tally (leads? g u t))

  pub rank_rises : Acceptable g → (u t : ℕ) → Edge g u t → rank u < rank t
  unfolding rank
  rank_rises a u t e =
      sum_lt g.tasks (λ w. tally (leads? g w u)) (λ w. tally (leads? g w t)) (λ w _. tally-le (leads? g w u) (leads? g w t) (λ p. leads-append p (edge e)))
      u ((a.good t e.task).below u e.predecessor)
      (omega (arith, tally-no (leads? g u u) (a.acyclic u), tally-yes (leads? g u t) (edge e)))

-- the whole check accepts exactly what fits, whatever a call adds to it
module _ (limits : Limits) {Far Odd : Type 0} (weights starts preds : List ℕ) where
  pub clear-fits : Clear (check_rows limits Far Odd weights starts preds) → (¬ Far) × ((¬ Odd) × GraphFits limits weights starts preds)
  clear-fits c = (
    λ f. c.0 0 (refl, inl (inl f)),
    (
      λ o. c.1.0 0 (refl, inr o),
      record {
        tasks = stable (dec_le (length weights) (capped limits).tasks) (λ n. c.0 0 (refl, inl (inr (inl (omega arith)))));
        edges = stable (dec_le (length preds) (capped limits).edges) (λ n. c.0 0 (refl, inl (inr (inr (omega arith)))));
        light = λ t h. stable (dec_le (get_or weights t 0) 65535) (λ n. c.0 0 (refl, inr (t, (h, omega arith))));
        lengths = stable (ℕ_discrete (length starts) (length weights + 1)) (λ n. c.1.0 0 (refl, inl n));
        graph = (clear-iff (graph_of (length weights) starts preds)).0 c.1.1;
      },
    ),
  )

  pub fits-clear : (¬ Far) × ((¬ Odd) × GraphFits limits weights starts preds) → Clear (check_rows limits Far Odd weights starts preds)
  fits-clear (f, (o, a)) = (λ d p. far p.1, (λ d p. odd p.1, (clear-iff (graph_of (length weights) starts preds)).1 a.graph))
    where
      far : (Far ⊎ Beyond limits (length weights) (length preds)) ⊎ Heavy weights → ⊥
      far (inl (inl x)) = f x
      far (inl (inr (inl h))) = omega (arith, a.tasks)
      far (inl (inr (inr h))) = omega (arith, a.edges)
      far (inr h) = omega (arith, a.light h.0 h.1.0, h.1.1)

      odd : ¬ (length starts ≡ length weights + 1) ⊎ Odd → ⊥
      odd (inl n) = n a.lengths
      odd (inr x) = o x

pub graph-accepted-iff : (limits : Limits) (weights starts preds : List ℕ) → (answer_says (check_answer limits true true weights starts preds) ≡ accepted) ↔ GraphFits limits weights starts preds
graph-accepted-iff limits weights starts preds = (
  λ e. (clear-fits limits {Far = ⊥} {Odd = ⊥} weights starts preds ((graph-follows limits weights starts preds).accepts.0 ((said-accepted (check_answer limits true true weights starts preds)).0 e))).1.1,
  λ a. (said-accepted (check_answer limits true true weights starts preds)).1 ((graph-follows limits weights starts preds).accepts.1 (fits-clear limits {Far = ⊥} {Odd = ⊥} weights starts preds ((λ x. x), ((λ x. x), a)))),
)

pub link-accepted-iff : (limits : Limits) (weights starts preds s w d : List ℕ)
    → (answer_says (link_answer limits weights starts preds s w d) ≡ accepted) ↔ ((¬ (Unfit weights preds s w d)) × GraphFits limits weights starts preds)
link-accepted-iff limits weights starts preds s w d = (
  λ e. (clear-fits limits {Far = ⊥} {Odd = Unfit weights preds s w d} weights starts preds ((link-follows limits weights starts preds s w d).accepts.0 ((said-accepted (link_answer limits weights starts preds s w d)).0 e))).1,
  λ a. (said-accepted (link_answer limits weights starts preds s w d)).1 ((link-follows limits weights starts preds s w d).accepts.1 (fits-clear limits {Far = ⊥} {Odd = Unfit weights preds s w d} weights starts preds ((λ x. x), a))),
)

-- what the whole check accepts, the leaves can work on
pub fits-sound : {limits : Limits} {weights starts preds : List ℕ} → GraphFits limits weights starts preds → Sound (graph_of (length weights) starts preds)
unfolding capped
fits-sound a =
    record {
      sized = record { tasks = omega (arith, a.tasks); edges = omega (arith, a.edges); starts = a.lengths };
      good = a.graph.good;
      ends = a.graph.ends;
    }
