-- What keeps the search inside its tables.
use Prim.Native.Nat.{ℕ, ◌+◌, ◌≤◌, ◌<◌}
use native.Mathlib.Omega.{arith}
use native.Mathlib.Decide.{ℕ_discrete}
use lib.ListN.{length, get_or, replicate}
use Rattle.lists.proofs.Occurrences.{at-occ}
use Rattle.lists.proofs.Prefixes.{zeros}
use Rattle.graph.specs.Graph.{Graph}
use Rattle.graph.specs.Conditions.{Sound}
use Rattle.graph.proofs.Parts.{preds-below}
use Rattle.components.specs.Places.{Below}

pub zeros-below : (n k : ℕ) → 0 < n → Below n (replicate k 0)
zeros-below n k h = record { each = λ i. omega (arith, zeros k i) }

-- a predecessor's place lies inside, and its word is a task
pub record Looks (g : Graph) (v p : ℕ) : Type 0 where
  pub inside : p < length g.preds
  pub task : get_or g.preds p 0 < g.tasks
  pub tasks : g.tasks ≤ 1024
  pub edges : length g.preds ≤ 8192

pub looks : {g : Graph} → Sound g → (v p : ℕ) → v < g.tasks → p < get_or g.starts (v + 1) 0 → Looks g v p
looks {g} s v p h l =
    record {
      inside = inside;
      task = preds-below s (get_or g.preds p 0) (at-occ ℕ_discrete 0 g.preds p inside);
      tasks = s.sized.tasks;
      edges = s.sized.edges;
    }
  where
    inside : p < length g.preds
    inside = omega (arith, (s.good v h).inside)
