-- Cleared rows are as many as before.
use mathlib.Core.Path.{◌≡◌}
use Prim.Native.Nat.{ℕ, ◌≤◌}
use mathlib.Core.List.{List}
use native.Mathlib.Omega.{arith}
use lib.ListN.{length, drop, replicate, length-append, length-replicate, length-drop}
use Rattle.task.specs.Types.{idle}
use Rattle.task.specs.declared.Row.{Row}
use Rattle.rows.specs.Rows.{cleared_rows}

pub length-cleared : (n : ℕ) (rows : List Row) → n ≤ length rows → length (cleared_rows n rows) ≡ length rows
unfolding cleared_rows
length-cleared n rows h = omega (arith, length-append (replicate n idle) (drop n rows), length-replicate n idle, length-drop n rows, h)
