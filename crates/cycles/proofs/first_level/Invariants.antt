-- The loop keeps: of the tasks from t on, no rank rises into one that is left, and each falls into one below first.
use Rattle.std.specs.Option.{IfSome, unwrap_or}
use Prim.Native.Nat.{◌<◌}
use Rattle.tables.specs.Tables.{graph_in}
use Rattle.cycles.specs.Ranks.{Levels}
use Rattle.cycles.proofs.first_level.Given as goal

abbrev pub invariant-loop-t : goal.invariant-loop-t
invariant-loop-t l = IfSome l.first (λ k. k < l.table.tasks) × Levels (graph_in l.table) l.rank l.t (unwrap_or l.first l.table.tasks)
