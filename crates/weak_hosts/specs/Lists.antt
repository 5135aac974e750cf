-- The lists that a host lends to a weak job's calls, in their order, and the memory that they are.
use Rattle.std.specs.Prelude.{ℕ, List, ℤ}
use Rattle.weak_rules.specs.Memory.{Mem}
use Rattle.weak_engine_cells.specs.Cells.{weak_cell_mem}

pub record Lists : Type 0 where
  pub weights : List ℕ
  pub pred_starts : List ℕ
  pub preds : List ℕ
  pub succ_starts : List ℕ
  pub succs : List ℕ
  pub degrees : List ℕ
  pub fixed : List ℕ
  -- slots as cells of two words
  pub rings : List (List ℕ)
  pub ends : List ℕ
  pub counters : List ℤ
  pub buffers : List ℕ
  pub executed : List ℕ
  pub run : List ℕ
  -- cells of seven words
  pub rows : List (List ℕ)

-- as the contract of an exported call has them, at its entry or at its exit
abbrev pub memory_from : Lists → Mem
memory_from l =
    weak_cell_mem l.weights l.pred_starts l.preds l.succ_starts l.succs l.degrees l.fixed l.rings l.ends l.counters l.buffers
    l.executed l.run l.rows
