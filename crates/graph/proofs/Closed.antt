-- Which tasks have a path of edges to a cycle: a task has one exactly if a successor has one, and every task of a set in
-- which each has a successor has one.
use Prim.Native.Nat.{ℕ, zero, suc, ◌<◌}
use mathlib.Core.Logic.{inl, inr}
use native.Mathlib.Omega.{arith}
use Rattle.lists.specs.Decided.{tally}
use Rattle.lists.specs.Sums.{sum_to}
use Rattle.lists.proofs.Decided.{tally-yes, tally-no, tally-le}
use Rattle.lists.proofs.Sums.{sum_lt}
use Rattle.graph.specs.Graph.{Graph, Edge, Leads, edge, via}
use Rattle.graph.specs.Conditions.{OnCycle, ToCycle}
use Rattle.graph.specs.Decide.{leads?}

module _ (g : Graph) where
  -- a task before one with a path to a cycle
  before-cycle : (u t : ℕ) → Edge g u t → ToCycle g t → ToCycle g u
  before-cycle u t e (inl c) = inr (t, (edge e, c))
  before-cycle u t e (inr w) = inr (w.0, (via e w.1.0, w.1.1))

  first_step : {u c : ℕ} → Leads (Edge g) u c → OnCycle g c → (t : ℕ) × (Edge g u t × ToCycle g t)
  first_step {u} {c} (edge e) o = (c, (e, inl o))
  first_step {u} {c} (via {v = v} e p) o = (v, (e, inr (c, (p, o))))

  -- the first step of a path to a cycle
  pub after-cycle : (u : ℕ) → ToCycle g u → (t : ℕ) × (Edge g u t × ToCycle g t)
  after-cycle u (inl o) = first_step o o
  after-cycle u (inr w) = first_step w.1.0 w.1.1

  -- how many tasks a path leads to
  reach : ℕ → ℕ
  reach u = sum_to g.tasks (λ v. tally (leads? g u v))

  reach-falls : (u t : ℕ) → Edge g u t → ¬ (OnCycle g t) → reach t < reach u
  unfolding reach
  reach-falls u t e n =
      sum_lt g.tasks (λ v. tally (leads? g t v)) (λ v. tally (leads? g u v))
      (λ v m. tally-le (leads? g t v) (leads? g u v) (λ p. via e p)) t e.task
      (omega (arith, tally-no (leads? g t t) n, tally-yes (leads? g u t) (edge e)))

  module _ (R : ℕ → Type 0) (next : (u : ℕ) → R u → (t : ℕ) × (Edge g u t × R t)) where
    closed-fuel : (m u : ℕ) → R u → reach u < m → ToCycle g u
    closed-fuel zero u r h = absurd (omega arith)
    closed-fuel (suc m) u r h = go (next u r) (closed-fuel m)
      where
        go : (t : ℕ) × (Edge g u t × R t) → ((t : ℕ) → R t → reach t < m → ToCycle g t) → ToCycle g u
        go w rec = at (leads? g w.0 w.0)
          where
            at : Dec (OnCycle g w.0) → ToCycle g u
            at (yes o) = inr (w.0, (edge w.1.0, o))
            at (no n) = before-cycle u w.0 w.1.0 (rec w.0 w.1.1 (omega (arith, reach-falls u w.0 w.1.0 n)))

    -- each has a successor in the set: none is without a path to a cycle
    pub closed : (u : ℕ) → R u → ToCycle g u
    closed u r = closed-fuel (suc (reach u)) u r (omega arith)
