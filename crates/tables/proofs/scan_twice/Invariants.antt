-- The parts before t have no word twice, and their words are counted. Task t stamps t + 1, above every mark that an earlier task left.
use Rattle.tables.proofs.Laws.{Tallied}
use Rattle.tables.specs.Tables.{graph_in}
use Rattle.graph.specs.Conditions.{Twice}
use lib.ListN.{get_or}
use Prim.Native.Nat.{ℕ, ◌≤◌, ◌<◌}
use Rattle.tables.proofs.scan_twice.Given as goal

abbrev pub invariant-loop-t : goal.invariant-loop-t
invariant-loop-t l =
    ((u : ℕ) → get_or l.marks u 0 ≤ l.t)
    × (((k : ℕ) → k < l.t → ¬ (Twice (graph_in l.table) k)) × Tallied (graph_in l.table) l.counts l.t)
