-- "copies of one task may pass each other": no path of edges leads from one to the other, since each edge between copies is one between their tasks and
-- the rank rises along it.
use Prim.Native.Nat.{◌<◌}
use mathlib.Core.Path.{◌≡◌, ap}
use native.Mathlib.Omega.{arith}
use Rattle.graph.specs.Graph.{Graph, Leads, edge, via}
use Rattle.graph.specs.Conditions.{Acceptable, Sound}
use Rattle.graph.proofs.Accepted.{rank, rank_rises}
use Rattle.exchange.specs.Exchange.{Unordered}
use Rattle.copies.specs.Copies.{Copy, Before}
use Rattle.copies.proofs.Copies.{before-edge}

module _ (g : Graph) (sound : Sound g) (acceptable : Acceptable g) where
  leads-rises : {b c : Copy} → Leads (Before g) b c → rank g b.task < rank g c.task
  leads-rises {b} {c} (edge e) = rank_rises g acceptable b.task c.task (before-edge g sound e)
  leads-rises {b} (via {v = v} e l) =
      let h : rank g b.task < rank g v.task = rank_rises g acceptable b.task v.task (before-edge g sound e) in
      omega (arith, h, leads-rises l)

  pub copies-unordered : (b c : Copy) → b.task ≡ c.task → Unordered (Before g) b c
  copies-unordered b c e =
      record {
        to = λ l. omega (arith, leads-rises l, ap (rank g) e);
        fro = λ l. omega (arith, leads-rises l, ap (rank g) e);
      }
